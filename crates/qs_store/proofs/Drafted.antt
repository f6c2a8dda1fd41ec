-- What a draft has once entries are taken out and put in.
use Rattle.std.proofs.Common.{◌≡◌, ◌⊎◌, ◌↔◌, ℕ, ◌+◌, ◌≤◌, Bool, true, false, not, IsTrue, List, [], ◌∷◌, ◌++◌, append-nil, append_assoc, length, take, get_or, slice_set, ◌<◌, refl, ap, sym, ◌∙◌, subst, arith, inl, inr, ⊎_elim, length-append}
use Rattle.std.specs.Str.{bytes_eq}
use Rattle.std.specs.List.{Contains, filter, list_any}
use Rattle.std.proofs.lemmas.Bool.{false≢true}
use Rattle.std.proofs.Math.Seq.{take-length}
use Rattle.std.proofs.lemmas.List.{take-append-le, take_more, take_more_set}
use Rattle.std.proofs.lemmas.List.Elements.{filter-append}
use Rattle.std.proofs.lemmas.List.Elements.{Contains-append_left, Contains-append_right, Contains-append_cases}
use Rattle.qs_index.specs.inner.Entries.{IsUnion, IsDifference}
use Rattle.qs_index.specs.inner.Entry.{IsAscending}
use Rattle.qs_index.specs.inner.Graph.{is_named, named_entries}
use Rattle.qs_index.specs.inner.Index.{IndexState}
use Rattle.qs_store.specs.Change.{IsChanged}
use Rattle.qs_store.specs.inner.Missing.{IsMissing, IsUnionWith, MayBeMissing}
use Rattle.qs_store.specs.inner.Layers.{drafted, AreLayers, IsDraft, IsPartOf}
use Rattle.std.proofs.lemmas.List.Filters.{length-filter_both}
use Rattle.qs_terms.specs.Bag.{Distinct}
use Rattle.qs_store.proofs.Members.{Entries, nothing, lacking, lacks, Stays, is_in, not_true, only_if, any_if, ascending_fits, head_or_tail, member_of_filter, filter_has, ascending_once, both_once, filter_ascends}

-- the members of a draft
pub parts : (i r a : Entries) (x : List ℕ) → Contains (drafted i r a) x → Stays i r x ⊎ Contains a x
parts i r a x c =
    ⊎_elim (λ h. inl (lacking r i x h)) (λ h. inr h) (Contains-append_cases (filter (λ y. not (list_any (bytes_eq y) r)) i) a x c)

pub stays : (i r a : Entries) (x : List ℕ) → Contains i x → (Contains r x → ⊥) → Contains (drafted i r a) x
stays i r a x m n = Contains-append_left (filter (λ y. not (list_any (bytes_eq y) r)) i) a x (lacks r i x m n)

pub is_added : (i r a : Entries) (x : List ℕ) → Contains a x → Contains (drafted i r a) x
is_added i r a x m = Contains-append_right (filter (λ y. not (list_any (bytes_eq y) r)) i) a x m

-- whether an entry of the store is one of the draft, by whether it is removed
pub kept_exactly : (i r a : Entries) (x : List ℕ) (b : Bool) → Contains i x → (Contains a x → ⊥) → IsTrue b ↔ Contains r x → IsTrue (not b) ↔ Contains (drafted i r a) x
kept_exactly i r a x true c n h = (λ f. absurd (false≢true f), λ m. ⊎_elim (λ s. absurd (s.left (h.0 refl))) (λ t. absurd (n t)) (parts i r a x m))
kept_exactly i r a x false c n h = (λ f. stays i r a x c (λ m. false≢true (h.1 m)), λ m. refl)

-- an entry that neither the store has nor is added
pub not_drafted : (i r a : Entries) (x : List ℕ) (b : Bool) → (Contains a x → ⊥) → IsTrue b ↔ Contains i x → b ≡ false → IsTrue b ↔ Contains (drafted i r a) x
not_drafted i r a x b n h e = (λ f. absurd (false≢true (sym e ∙ f)), λ m. ⊎_elim (λ s. h.1 s.stands) (λ t. absurd (n t)) (parts i r a x m))

keeps_all : (xs : Entries) → filter (λ x. not (list_any (bytes_eq x) [])) xs ≡ xs
keeps_all [] = refl
keeps_all (x ∷ xs) = ap (λ r. x ∷ r) (keeps_all xs)

-- a draft without changes has the store's entries
pub drafted_none : (index : Entries) → drafted index [] [] ≡ index
drafted_none index = append-nil (filter (λ x. not (list_any (bytes_eq x) [])) index) ∙ keeps_all index

-- the steps of a change: the removed with those of `outs` that stand, the added without `outs` and with those of `ins` that are missing then
pub record Steps (i r a outs ins stood put r1 a1 a2 : Entries) : Type 0 where
  pub stood_part : IsPartOf outs stood (Contains i)
  pub put_part : IsPartOf ins put (MayBeMissing i r stood)
  pub a_less : IsDifference a outs a1
  pub r_more : IsUnion r stood r1
  pub a_more : IsUnionWith a1 put (IsMissing i r1) a2

pub parted_after : (i r a outs ins stood put r1 a1 a2 : Entries) → IsDraft i r a → Steps i r a outs ins stood put r1 a1 a2 → IsDraft i r1 a2
parted_after i r a outs ins stood put r1 a1 a2 d s = record {
  once = d.once;
  added_once = s.a_more.ascending;
  removed_once = s.r_more.ascending;
  apart = λ x m n. ⊎_elim (λ t. s.r_more.has_old x (d.apart x (s.a_less.only x t) n)) (λ p. p.1 n) (s.a_more.only x m);
  taken = λ x m. ⊎_elim (λ t. d.taken x t) (λ t. (s.stood_part.only x t).1) (s.r_more.only x m);
}

some_in : (xs : Entries) (x : List ℕ) → Contains xs x → 0 < length xs
some_in xs x c = omega (arith, c.1)

-- an entry that is missing after the others were taken out was so before, unless there are such
missing_before : (i r a outs ins stood put r1 a1 a2 : Entries) → Steps i r a outs ins stood put r1 a1 a2 → (x : List ℕ) → Contains i x ⊎ (Contains i x → ⊥) → IsMissing i r1 x → MayBeMissing i r stood x
missing_before i r a outs ins stood put r1 a1 a2 s x (inr n) m = inr (λ k. absurd (n k))
missing_before i r a outs ins stood put r1 a1 a2 s x (inl k) m = ⊎_elim (λ t. inr (λ j. t)) (λ t. inl (some_in stood x t)) (s.r_more.only x (m k))

pub members_after : (i r a outs ins stood put r1 a1 a2 : Entries) → IsDraft i r a → Steps i r a outs ins stood put r1 a1 a2 → IsChanged (drafted i r a) outs ins (drafted i r1 a2)
members_after i r a outs ins stood put r1 a1 a2 d s x = (
  λ c. ⊎_elim
      (λ k. inl (stays i r a x k.stands (λ m. k.left (s.r_more.has_old x m)), λ o. k.left (s.r_more.has_added x (s.stood_part.has x o k.stands))))
      (λ m. ⊎_elim (λ t. inl (is_added i r a x (s.a_less.only x t), λ o. s.a_less.gone x t o)) (λ p. inr (s.put_part.only x p.0).0) (s.a_more.only x m))
      (parts i r1 a2 x c),
  λ c. ⊎_elim
      (λ o. ⊎_elim
      (λ k. stays i r1 a2 x k.stands (λ m. ⊎_elim (λ t. k.left t) (λ t. o.1 (s.stood_part.only x t).0) (s.r_more.only x m)))
      (λ m. is_added i r1 a2 x (s.a_more.has_old x (⊎_elim (λ t. t) (λ t. absurd (o.1 t)) (s.a_less.kept x m))))
      (parts i r a x o.0))
      (λ p.
      let comes : IsMissing i r1 x → Contains (drafted i r1 a2) x = λ m. is_added i r1 a2 x (s.a_more.has_more x (s.put_part.has x p (missing_before i r a outs ins stood put r1 a1 a2 s x (is_in x i) m)) m) in
      ⊎_elim (λ k. ⊎_elim (λ m. comes (λ j. m)) (λ n. stays i r1 a2 x k n) (is_in x r1)) (λ n. comes (λ k. absurd (n k))) (is_in x i))
      c,
)

-- a union is no longer than its parts, a difference no longer than what it is taken from
pub union_fits : (old added new : Entries) → IsUnion old added new → length new ≤ length old + length added
union_fits old added new u =
    let f = ascending_fits new (old ++ added) u.ascending (λ x m. ⊎_elim (λ t. Contains-append_left old added x t) (λ t. Contains-append_right old added x t) (u.only x m)) in
    omega (arith, f, length-append old added)

-- where some of the second are put in alone
pub union_with_fits : (old more new : Entries) (Chosen : List ℕ → Type 0) → IsUnionWith old more Chosen new → length new ≤ length old + length more
union_with_fits old more new Chosen u =
    let f = ascending_fits new (old ++ more) u.ascending (λ x m. ⊎_elim (λ t. Contains-append_left old more x t) (λ t. Contains-append_right old more x t.0) (u.only x m)) in
    omega (arith, f, length-append old more)

pub difference_fits : (old removed new : Entries) → IsDifference old removed new → length new ≤ length old
difference_fits old removed new d = ascending_fits new old d.ascending d.only

-- the same of the entries of named graphs
named_union_with : (old more new : Entries) (Chosen : List ℕ → Type 0) → IsUnionWith old more Chosen new → IsUnionWith (named_entries old) (named_entries more) Chosen (named_entries new)
named_union_with old more new Chosen u = record {
  ascending = filter_ascends is_named new u.ascending;
  has_old = λ x m. let f = member_of_filter is_named x old m in filter_has is_named x new (u.has_old x f.0) f.1;
  has_more = λ x m h. let f = member_of_filter is_named x more m in filter_has is_named x new (u.has_more x f.0 h) f.1;
  only = λ x m. let f = member_of_filter is_named x new m in ⊎_elim (λ t. inl (filter_has is_named x old t f.1)) (λ t. inr (filter_has is_named x more t.0 f.1, t.1)) (u.only x f.0);
}

pub named_union_with_fits : (old more new : Entries) (Chosen : List ℕ → Type 0) → IsUnionWith old more Chosen new → length (named_entries new) ≤ length (named_entries old) + length (named_entries more)
named_union_with_fits old more new Chosen u = union_with_fits (named_entries old) (named_entries more) (named_entries new) Chosen (named_union_with old more new Chosen u)

pub named_difference_fits : (old removed new : Entries) → IsDifference old removed new → length (named_entries new) ≤ length (named_entries old)
named_difference_fits old removed new d =
    ascending_fits (named_entries new) (named_entries old) (filter_ascends is_named new d.ascending)
    (λ x m. let f = member_of_filter is_named x new m in filter_has is_named x old (d.only x f.0) f.1)

-- the store's entries once a draft is committed
pub settled : (i j k r a : Entries) → IsDifference i r j → IsUnion j a k → (x : List ℕ) → Contains k x ↔ Contains (drafted i r a) x
settled i j k r a d u x = (
  λ c. ⊎_elim (λ m. stays i r a x (d.only x m) (d.gone x m)) (λ m. is_added i r a x m) (u.only x c),
  λ c. ⊎_elim (λ s. u.has_old x (⊎_elim (λ t. t) (λ t. absurd (s.left t)) (d.kept x s.stands))) (λ m. u.has_added x m) (parts i r a x c),
)

named_append : (xs ys : Entries) → length (named_entries (xs ++ ys)) ≡ length (named_entries xs) + length (named_entries ys)
named_append xs ys = ap length (filter-append is_named xs ys) ∙ length-append (named_entries xs) (named_entries ys)

-- one entry more is looked at
pub part_takes : (P : List ℕ → Type 0) (xs part : Entries) (i : ℕ) → i < length xs → P (get_or xs i []) → IsPartOf (take i xs) part P → IsPartOf (take (i + 1) xs) (part ++ get_or xs i [] ∷ []) P
part_takes P xs part i h p o =
    let e = get_or xs i [] in
    let more = take_more xs i [] h in
    subst (λ l. IsPartOf l (part ++ e ∷ []) P) (sym more) record {
      has = λ x m c. ⊎_elim (λ t. Contains-append_left part (e ∷ []) x (o.has x t c)) (λ t. Contains-append_right part (e ∷ []) x t) (Contains-append_cases (take i xs) (e ∷ []) x m);
      only = λ x m. ⊎_elim (λ t. let f = o.only x t in (Contains-append_left (take i xs) (e ∷ []) x f.0, f.1)) (λ t. (Contains-append_right (take i xs) (e ∷ []) x t, ⊎_elim (λ z. subst P z p) (λ n. absurd (nothing x n)) (head_or_tail e [] x t))) (Contains-append_cases part (e ∷ []) x m);
      short = omega (arith, o.short, length-append part (e ∷ []), length-append (take i xs) (e ∷ []));
      named_short = omega (arith, o.named_short, named_append part (e ∷ []), named_append (take i xs) (e ∷ []));
    }

pub part_leaves : (P : List ℕ → Type 0) (xs part : Entries) (i : ℕ) → i < length xs → (P (get_or xs i []) → ⊥) → IsPartOf (take i xs) part P → IsPartOf (take (i + 1) xs) part P
part_leaves P xs part i h p o =
    let e = get_or xs i [] in
    let more = take_more xs i [] h in
    subst (λ l. IsPartOf l part P) (sym more) record {
      has = λ x m c. ⊎_elim (λ t. o.has x t c) (λ t. ⊎_elim (λ z. absurd (p (subst P (sym z) c))) (λ n. absurd (nothing x n)) (head_or_tail e [] x t)) (Contains-append_cases (take i xs) (e ∷ []) x m);
      only = λ x m. let f = o.only x m in (Contains-append_left (take i xs) (e ∷ []) x f.0, f.1);
      short = omega (arith, o.short, length-append (take i xs) (e ∷ []));
      named_short = omega (arith, o.named_short, named_append (take i xs) (e ∷ []));
    }

-- what is taken is written behind those that were taken before
pub front_takes : (P : List ℕ → Type 0) (xs batch new : Entries) (i n m : ℕ) → i < length xs → P (get_or xs i []) → n < length batch → new ≡ slice_set batch n (get_or xs i []) → m ≡ n + 1 → IsPartOf (take i xs) (take n batch) P → IsPartOf (take (i + 1) xs) (take m new) P
front_takes P xs batch new i n m h p l e k o =
    let front : take m new ≡ take n batch ++ get_or xs i [] ∷ [] = ap (take m) e ∙ ap (λ j. take j (slice_set batch n (get_or xs i []))) k ∙ take_more_set batch n (get_or xs i []) l in
    subst (λ f. IsPartOf (take (i + 1) xs) f P) (sym front) (part_takes P xs (take n batch) i h p o)

pub front_leaves : (P : List ℕ → Type 0) (xs batch new : Entries) (i n m : ℕ) → i < length xs → (P (get_or xs i []) → ⊥) → new ≡ batch → m ≡ n → IsPartOf (take i xs) (take n batch) P → IsPartOf (take (i + 1) xs) (take m new) P
front_leaves P xs batch new i n m h p e k o =
    let front : take m new ≡ take n batch = ap (take m) e ∙ ap (λ j. take j batch) k in
    subst (λ f. IsPartOf (take (i + 1) xs) f P) (sym front) (part_leaves P xs (take n batch) i h p o)

-- a list whose front is as long as it, written over
pub written : (n : ℕ) (front rest : Entries) → n ≡ length front → take n (front ++ rest) ≡ front
written n front rest e = ap (λ k. take k (front ++ rest)) e ∙ take-append-le (length front) front rest (omega arith) ∙ take-length front

-- those of the front of a list that are missing are put in
pub all_put_in : (i r a entries new : Entries) → ((x : List ℕ) → Contains entries x → IsMissing i r x) → IsUnion a entries new → IsUnionWith a entries (IsMissing i r) new
all_put_in i r a entries new all u = record {
  ascending = u.ascending;
  has_old = u.has_old;
  has_more = λ x c m. u.has_added x c;
  only = λ x c. ⊎_elim (λ o. inl o) (λ n. inr (n, all x n)) (u.only x c);
}

-- where none were taken out, all that may be missing are
pub none_taken : (i r r0 s1 r1 i0 taken put p1 : Entries) (x : List ℕ) → i0 ≡ i → r0 ≡ r → p1 ≡ put → IsUnion r0 s1 r1 → ((y : List ℕ) → Contains put y → MayBeMissing i r taken y) → length taken ≡ 0 → Contains p1 x → IsMissing i0 r1 x
none_taken i r r0 s1 r1 i0 taken put p1 x ei er ep u all none m =
    λ k. ⊎_elim (λ l. absurd (omega (arith, l, none))) (λ n. u.has_old x (subst (λ l. Contains l x) (sym er) (n (subst (λ l. Contains l x) ei k)))) (all x (subst (λ l. Contains l x) ep m))

pub put_in : (i r a entries front new : Entries) → IsPartOf entries front (IsMissing i r) → IsUnion a front new → IsUnionWith a entries (IsMissing i r) new
put_in i r a entries front new p u = record {
  ascending = u.ascending;
  has_old = u.has_old;
  has_more = λ x m h. u.has_added x (p.has x m h);
  only = λ x m. ⊎_elim (λ t. inl t) (λ t. inr (p.only x t)) (u.only x m);
}

pub steps_of : (i r a outs ins stood put i0 r0 a0 s1 p1 r1 a1 a2 : Entries) → IsPartOf outs stood (Contains i) → IsPartOf ins put (MayBeMissing i r stood) → i0 ≡ i → r0 ≡ r → a0 ≡ a → s1 ≡ stood → p1 ≡ put → IsDifference a0 outs a1 → IsUnion r0 s1 r1 → IsUnionWith a1 p1 (IsMissing i0 r1) a2 → Steps i r a outs ins stood put r1 a1 a2
steps_of i r a outs ins stood put i0 r0 a0 s1 p1 r1 a1 a2 sp pp ei er ea es ep al rm am = record {
  stood_part = sp;
  put_part = pp;
  a_less = subst (λ z. IsDifference z outs a1) ea al;
  r_more = subst (λ z. IsUnion z stood r1) er (subst (λ z. IsUnion r0 z r1) es rm);
  a_more = subst (λ z. IsUnionWith a1 put (IsMissing z r1) a2) ei (subst (λ z. IsUnionWith a1 z (IsMissing i0 r1) a2) ep am);
}

-- one entry more that stays, or doesn't
stays_one : (r : Entries) (x : List ℕ) → (Contains r x → ⊥) → filter (λ y. not (list_any (bytes_eq y) r)) (x ∷ []) ≡ x ∷ []
stays_one r x n = rw (not_true (list_any (bytes_eq x) r) (λ h. n (only_if x r h))) refl

goes_one : (r : Entries) (x : List ℕ) → Contains r x → filter (λ y. not (list_any (bytes_eq y) r)) (x ∷ []) ≡ []
goes_one r x n = rw (any_if x r n) refl

pub kept_more : (xs r : Entries) (x : List ℕ) → (Contains r x → ⊥) → drafted (xs ++ x ∷ []) r [] ≡ drafted xs r [] ++ x ∷ []
kept_more xs r x n =
    let p : List ℕ → Bool = λ y. not (list_any (bytes_eq y) r) in
    append-nil (filter p (xs ++ x ∷ [])) ∙ filter-append p xs (x ∷ []) ∙ ap (λ l. filter p xs ++ l) (stays_one r x n) ∙ ap (λ l. l ++ x ∷ []) (sym (append-nil (filter p xs)))

pub kept_less : (xs r : Entries) (x : List ℕ) → Contains r x → drafted (xs ++ x ∷ []) r [] ≡ drafted xs r []
kept_less xs r x n =
    let p : List ℕ → Bool = λ y. not (list_any (bytes_eq y) r) in
    append-nil (filter p (xs ++ x ∷ [])) ∙ filter-append p xs (x ∷ []) ∙ ap (λ l. filter p xs ++ l) (goes_one r x n)

pub one_done : (done rest after whole : Entries) (e : List ℕ) → done ++ rest ≡ whole → rest ≡ e ∷ after → (done ++ e ∷ []) ++ after ≡ whole
one_done done rest after whole e h n = append_assoc done (e ∷ []) after ∙ ap (λ r. done ++ r) (sym n) ∙ h

-- a draft has each entry once
pub drafted_once : (i r a : Entries) → IsDraft i r a → Distinct bytes_eq (drafted i r a)
drafted_once i r a d =
    let p : List ℕ → Bool = λ x. not (list_any (bytes_eq x) r) in
    both_once (filter p i) a (ascending_once (filter p i) (filter_ascends p i d.once)) (ascending_once a d.added_once) (λ x m n. let k = lacking r i x m in k.left (d.apart x n k.stands))

-- as many as are removed are gone from the store's, and as many as are added are there
pub drafted_count : (i r a : Entries) → IsDraft i r a → length (drafted i r a) + length r ≡ length i + length a
drafted_count i r a d =
    let is_removed : List ℕ → Bool = λ x. list_any (bytes_eq x) r in
    let is_kept : List ℕ → Bool = λ x. not (list_any (bytes_eq x) r) in
    let whole = length-filter_both is_removed is_kept (λ x. refl) i in
    let few = ascending_fits (filter is_removed i) r (filter_ascends is_removed i d.once) (λ x m. only_if x r (member_of_filter is_removed x i m).1) in
    let all = ascending_fits r (filter is_removed i) d.removed_once (λ x m. filter_has is_removed x i (d.taken x m) (any_if x r m)) in
    omega (arith, whole, few, all, length-append (filter is_kept i) a)

-- no more are removed than the store has
pub removed_few : (i r a : Entries) → IsDraft i r a → length r ≤ length i
removed_few i r a d = ascending_fits r i d.removed_once d.taken

-- layers without a draft
pub nothing_drafted : (index removed added : IndexState) (emptied : List ℕ) (room : ℕ) → IsAscending index.entries → removed.entries ≡ [] → added.entries ≡ [] → emptied ≡ [] → AreLayers index removed added emptied room
nothing_drafted index removed added emptied room h r a e = record {
  parted = rw (r, a) record {
    once = h;
    added_once = tt;
    removed_once = tt;
    apart = λ x m n. absurd (nothing x m);
    taken = λ x m. absurd (nothing x m);
  };
  out = rw e (λ k d h. absurd (omega (arith, h)));
  spare = let l : length added.entries ≡ 0 = ap length a in omega (arith, l);
  named_spare = let l : length (named_entries added.entries) ≡ 0 = ap (λ k. length (named_entries k)) a in omega (arith, l);
  removed_room = let l : length removed.entries ≡ 0 = ap length r in omega (arith, l);
  added_room = let l : length added.entries ≡ 0 = ap length a in omega (arith, l);
}

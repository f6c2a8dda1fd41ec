-- What scans of a store and of its draft hand out.
use Rattle.std.proofs.Common.{◌≡◌, ◌≢◌, ◌⊎◌, ℕ, Bool, true, false, cond, ◌==◌, ◌&&◌, List, [], ◌∷◌, ◌++◌, map, Option, Some, None, refl, ap, sym, ◌∙◌, subst, arith, inl, inr, ⊎_elim}
use Rattle.std.specs.Str.{bytes_eq}
use Rattle.std.specs.List.{Contains}
use Rattle.std.specs.List.Sorted.{IsPermutation}
use Rattle.std.proofs.lemmas.Bool.{false≢true, eqb-true}
use Rattle.std.proofs.lemmas.Bool.Decides.{nat_tests}
use Rattle.std.proofs.lemmas.Option.{same_Some, none-some}
use Rattle.std.proofs.lemmas.List.Sorted.{Contains-permutation, IsPermutation-sym}
use Rattle.std.proofs.lemmas.Slice.Eq.{bytes_eq-Decides}
use Rattle.qs_index.specs.inner.Agreeing.{agrees, agreeing, agrees_anywhere, agreeing_named, fits}
use Rattle.qs_index.specs.inner.Entry.{IsAscending, is_before}
use Rattle.qs_index.specs.inner.Graph.{is_named, named_entries}
use Rattle.qs_index.specs.inner.Lead.{order_with_lead, named_order_with_lead}
use Rattle.qs_index.specs.inner.Permutation.{turned, order_used, named_order_used}
use Rattle.qs_index.specs.declared.permutation.Lead.{Lead}
use Rattle.qs_index.specs.declared.permutation.Lead.TheVariants.{Subject, Predicate, Object}
use Rattle.qs_index.specs.declared.permutation.Permutation.{Permutation}
use Rattle.qs_index.proofs.Ascending.{before_trans}
use Rattle.qs_index.proofs.Turned.{turned_same}
use Rattle.qs_store.specs.inner.Layers.{drafted, IsDraft}
use Rattle.qs_store.specs.inner.Triples.{turned_triple}
use Rattle.qs_store.specs.inner.Scans.{IsRead, order_in, IsScanOf, without, merged, triple_of, is_last, unrepeated, AreTriplesIn, AreTriplesOf, AreTriplesOfAnyhow}
use Rattle.qs_store.specs.declared.graphs.Graphs.{Graphs}
use Rattle.qs_store.specs.declared.graphs.Graphs.TheVariants.{Nothing, One, Named}
use Rattle.qs_store.proofs.Drafted.{parts, stays, is_added}
use Rattle.qs_store.proofs.Members.{Entries, nothing, here, there, head_or_tail, member_of_filter, filter_has}
use Rattle.qs_store.proofs.Merging.{Key, each_before, before_each, without_only, without_has, without_gone, ascending_without, merged_only, merged_has, ascending_merged}

-- the scan of one graph, and of all named ones
scan_in_one : (order : Permutation) (graph : ℕ) (s p o : Option ℕ) (entries rest : Entries) → IsPermutation (agreeing graph s p o entries) rest → IsAscending (map (turned order) rest) → IsScanOf (IsRead (One graph) s p o) (turned order) entries rest
scan_in_one order graph s p o entries rest m u = record {
  ascending = u;
  has = λ x c r. Contains-permutation (agreeing graph s p o entries) rest x m (filter_has (agrees graph s p o) x entries c r);
  only = λ x c. member_of_filter (agrees graph s p o) x entries (Contains-permutation rest (agreeing graph s p o entries) x (IsPermutation-sym (agreeing graph s p o entries) rest m) c);
}

scan_in_named : (order : Permutation) (s p o : Option ℕ) (entries rest : Entries) → IsPermutation (agreeing_named s p o entries) rest → IsAscending (map (turned order) rest) → IsScanOf (IsRead Named s p o) (turned order) entries rest
scan_in_named order s p o entries rest m u = record {
  ascending = u;
  has = λ x c r. Contains-permutation (agreeing_named s p o entries) rest x m (filter_has (agrees_anywhere s p o) x (named_entries entries) (filter_has is_named x entries c r.0) r.1);
  only = λ x c.
      let f = member_of_filter (agrees_anywhere s p o) x (named_entries entries) (Contains-permutation rest (agreeing_named s p o entries) x (IsPermutation-sym (agreeing_named s p o entries) rest m) c) in
      let n = member_of_filter is_named x entries f.0 in
      (n.0, (n.1, f.1));
}

pub scan_of_one : (graph : ℕ) (s p o : Option ℕ) (entries rest : Entries) → IsPermutation (agreeing graph s p o entries) rest → IsAscending (map (turned (order_used s p o)) rest) → IsScanOf (IsRead (One graph) s p o) (turned (order_in (One graph) s p o)) entries rest
scan_of_one graph s p o entries rest m u = scan_in_one (order_used s p o) graph s p o entries rest m u

pub scan_of_named : (s p o : Option ℕ) (entries rest : Entries) → IsPermutation (agreeing_named s p o entries) rest → IsAscending (map (turned (named_order_used s p o)) rest) → IsScanOf (IsRead Named s p o) (turned (order_in Named s p o)) entries rest
scan_of_named s p o entries rest m u = scan_in_named (named_order_used s p o) s p o entries rest m u

-- the scans of a draft's entries: of the store's, the removed and the added
pub scan_of_draft : (P : List ℕ → Type 0) (order : Permutation) (i r a xs ys zs : Entries) → IsDraft i r a → IsScanOf P (turned order) i xs → IsScanOf P (turned order) r ys → IsScanOf P (turned order) a zs → IsScanOf P (turned order) (drafted i r a) (merged (turned order) (without xs ys) zs)
scan_of_draft P order i r a xs ys zs d f g h =
    let key : Key = turned order in
    let gone = without_gone key xs ys record {
      first = f.ascending;
      second = g.ascending;
      stands = λ z m. let n = g.only z m in f.has z (d.taken z n.0) n.1;
    } in
    record {
      ascending = ascending_merged key (without xs ys) zs (ascending_without key xs ys f.ascending) h.ascending
          (λ z w m n e.
          let l = h.only w n in
          let v = f.only z (without_only xs ys z m) in
          let s = turned_same order z w e in
          gone z m (g.has z (subst (Contains r) (sym s) (d.apart w l.0 (subst (Contains i) s v.0))) v.1));
      has = λ x c q. merged_has key (without xs ys) zs x
          (⊎_elim (λ s. inl (without_has xs ys x (f.has x s.stands q) (λ m. s.left (g.only x m).0))) (λ m. inr (h.has x m q)) (parts i r a x c));
      only = λ x c.
          ⊎_elim
          (λ m. let n = f.only x (without_only xs ys x m) in (stays i r a x n.0 (λ t. gone x m (g.has x t n.1)), n.1))
          (λ m. let n = h.only x m in (is_added i r a x n.0, n.1))
          (merged_only key (without xs ys) zs x c);
    }

both_true : (a b : Bool) → (a && b) ≡ true → (a ≡ true) × (b ≡ true)
both_true true b h = (refl, h)
both_true false b h = absurd (false≢true h)

-- the places of an entry that has the given numbers
pub record Places (s p o : Option ℕ) (x : List ℕ) : Type 0 where
  pub graph : ℕ
  pub at_s : ℕ
  pub at_p : ℕ
  pub at_o : ℕ
  pub is : x ≡ graph ∷ at_s ∷ at_p ∷ at_o ∷ []
  pub subject : fits s at_s ≡ true
  pub predicate : fits p at_p ≡ true
  pub object : fits o at_o ≡ true

pub record PlacesIn (graph : ℕ) (s p o : Option ℕ) (x : List ℕ) : Type 0 where
  pub places : Places s p o x
  pub same : places.graph ≡ graph

pub places_in : (graph : ℕ) (s p o : Option ℕ) (x : List ℕ) → agrees graph s p o x ≡ true → PlacesIn graph s p o x
places_in graph s p o [] h = absurd (false≢true h)
places_in graph s p o (g ∷ []) h = absurd (false≢true h)
places_in graph s p o (g ∷ a ∷ []) h = absurd (false≢true h)
places_in graph s p o (g ∷ a ∷ b ∷ []) h = absurd (false≢true h)
places_in graph s p o (g ∷ a ∷ b ∷ c ∷ d ∷ rest) h = absurd (false≢true h)
places_in graph s p o (g ∷ a ∷ b ∷ c ∷ []) h =
    let x = both_true (((g == graph) && fits s a) && fits p b) (fits o c) h in
    let y = both_true ((g == graph) && fits s a) (fits p b) x.0 in
    let z = both_true (g == graph) (fits s a) y.0 in
    record {
      places = record { graph = g; at_s = a; at_p = b; at_o = c; is = refl; subject = z.1; predicate = y.1; object = x.1 };
      same = eqb-true g graph z.0;
    }

pub places_anywhere : (s p o : Option ℕ) (x : List ℕ) → agrees_anywhere s p o x ≡ true → Places s p o x
places_anywhere s p o [] h = absurd (false≢true h)
places_anywhere s p o (g ∷ []) h = absurd (false≢true h)
places_anywhere s p o (g ∷ a ∷ []) h = absurd (false≢true h)
places_anywhere s p o (g ∷ a ∷ b ∷ []) h = absurd (false≢true h)
places_anywhere s p o (g ∷ a ∷ b ∷ c ∷ d ∷ rest) h = absurd (false≢true h)
places_anywhere s p o (g ∷ a ∷ b ∷ c ∷ []) h =
    let x = both_true (fits s a && fits p b) (fits o c) h in
    let y = both_true (fits s a) (fits p b) x.0 in
    record { graph = g; at_s = a; at_p = b; at_o = c; is = refl; subject = y.0; predicate = y.1; object = x.1 }

-- an entry turned: the graph, and then the turned triple
turned_one : (s p o : Option ℕ) (g a b c : ℕ) → turned (order_used s p o) (g ∷ a ∷ b ∷ c ∷ []) ≡ g ∷ turned_triple (order_used s p o) (a ∷ b ∷ c ∷ [])
turned_one None None None g a b c = refl
turned_one (Some s) None None g a b c = refl
turned_one (Some s) (Some p) None g a b c = refl
turned_one (Some s) (Some p) (Some o) g a b c = refl
turned_one None (Some p) None g a b c = refl
turned_one None (Some p) (Some o) g a b c = refl
turned_one None None (Some o) g a b c = refl
turned_one (Some s) None (Some o) g a b c = refl

-- in the orders of the named graphs: the turned triple, and then the graph
turned_named : (s p o : Option ℕ) (g a b c : ℕ) → turned (named_order_used s p o) (g ∷ a ∷ b ∷ c ∷ []) ≡ turned_triple (order_used s p o) (a ∷ b ∷ c ∷ []) ++ g ∷ []
turned_named None None None g a b c = refl
turned_named (Some s) None None g a b c = refl
turned_named (Some s) (Some p) None g a b c = refl
turned_named (Some s) (Some p) (Some o) g a b c = refl
turned_named None (Some p) None g a b c = refl
turned_named None (Some p) (Some o) g a b c = refl
turned_named None None (Some o) g a b c = refl
turned_named (Some s) None (Some o) g a b c = refl

before_behind : (g : ℕ) (u v : List ℕ) → is_before (g ∷ u) (g ∷ v) ≡ is_before u v
before_behind g u v = grind (arith, nat_tests)

-- an element of a list of triples comes from an entry
record Origin (entries : Entries) (t : List ℕ) : Type 0 where
  entry : List ℕ
  stands : Contains entries entry
  is : triple_of entry ≡ t

origin : (entries : Entries) (t : List ℕ) → Contains (map triple_of entries) t → Origin entries t
origin [] t c = absurd (nothing t c)
origin (x ∷ xs) t c =
    ⊎_elim (λ e. record { entry = x; stands = here x xs; is = e })
    (λ m. let r = origin xs t m in record { entry = r.entry; stands = there x r.entry xs r.stands; is = r.is }) (head_or_tail (triple_of x) (map triple_of xs) t c)

triple_stands : (entries : Entries) (x : List ℕ) → Contains entries x → Contains (map triple_of entries) (triple_of x)
triple_stands [] x c = absurd (nothing x c)
triple_stands (y ∷ ys) x c =
    ⊎_elim (λ e. subst (λ v. Contains (triple_of y ∷ map triple_of ys) (triple_of v)) e (here (triple_of y) (map triple_of ys)))
    (λ m. there (triple_of y) (triple_of x) (map triple_of ys) (triple_stands ys x m)) (head_or_tail y ys x c)

-- in one graph triples ascend as their entries do
same_order : (graph : ℕ) (s p o q1 q2 q3 : Option ℕ) (x y : List ℕ) → agrees graph s p o x ≡ true → agrees graph s p o y ≡ true → is_before (turned (order_used q1 q2 q3) x) (turned (order_used q1 q2 q3) y) ≡ true → is_before (turned_triple (order_used q1 q2 q3) (triple_of x)) (turned_triple (order_used q1 q2 q3) (triple_of y)) ≡ true
same_order graph s p o q1 q2 q3 x y h k b =
    let order = order_used q1 q2 q3 in
    let u = places_in graph s p o x h in
    let v = places_in graph s p o y k in
    let ux = u.places in
    let vy = v.places in
    let tx : List ℕ = turned_triple order (ux.at_s ∷ ux.at_p ∷ ux.at_o ∷ []) in
    let ty : List ℕ = turned_triple order (vy.at_s ∷ vy.at_p ∷ vy.at_o ∷ []) in
    let kx : turned order x ≡ graph ∷ tx = ap (turned order) ux.is ∙ turned_one q1 q2 q3 ux.graph ux.at_s ux.at_p ux.at_o ∙ ap (λ g. g ∷ tx) u.same in
    let ky : turned order y ≡ graph ∷ ty = ap (turned order) vy.is ∙ turned_one q1 q2 q3 vy.graph vy.at_s vy.at_p vy.at_o ∙ ap (λ g. g ∷ ty) v.same in
    ap (λ e. is_before (turned_triple order (triple_of e)) (turned_triple order (triple_of y))) ux.is
    ∙ ap (λ e. is_before tx (turned_triple order (triple_of e))) vy.is
    ∙ sym (before_behind graph tx ty)
    ∙ ap (λ e. is_before e (graph ∷ ty)) (sym kx)
    ∙ ap (λ e. is_before (turned order x) e) (sym ky)
    ∙ b

triples_ascend : (graph : ℕ) (s p o q1 q2 q3 : Option ℕ) (entries : Entries) → ((x : List ℕ) → Contains entries x → agrees graph s p o x ≡ true) → IsAscending (map (turned (order_used q1 q2 q3)) entries) → IsAscending (map (turned_triple (order_used q1 q2 q3)) (map triple_of entries))
triples_ascend graph s p o q1 q2 q3 [] h u = tt
triples_ascend graph s p o q1 q2 q3 (x ∷ xs) h u =
    let order = order_used q1 q2 q3 in (
      each_before (turned_triple order) (turned_triple order (triple_of x)) (map triple_of xs) (λ t m.
          let f = origin xs t m in
          subst (λ v. is_before (turned_triple order (triple_of x)) (turned_triple order v) ≡ true) f.is
          (same_order graph s p o q1 q2 q3 x f.entry (h x (here x xs)) (h f.entry (there x f.entry xs f.stands)) (before_each (turned order) (turned order x) xs u.0 f.entry f.stands))),
      triples_ascend graph s p o q1 q2 q3 xs (λ y m. h y (there x y xs m)) u.1,
    )

-- the triples of one graph
pub triples_of_one : (graph : ℕ) (s p o q1 q2 q3 : Option ℕ) (entries rest : Entries) → IsScanOf (IsRead (One graph) s p o) (turned (order_used q1 q2 q3)) entries rest → AreTriplesIn (order_used q1 q2 q3) (One graph) s p o entries (map triple_of rest)
triples_of_one graph s p o q1 q2 q3 entries rest f = record {
  ascending = triples_ascend graph s p o q1 q2 q3 rest (λ x m. (f.only x m).1) f.ascending;
  has = λ x c r. triple_stands rest x (f.has x c r);
  only = λ t c. let m = origin rest t c in let n = f.only m.entry m.stands in record { entry = m.entry; stands = n.0; read = n.1; is = m.is };
}

pub no_triples : (s p o : Option ℕ) (entries : Entries) → AreTriplesOf Nothing s p o entries []
no_triples s p o entries = record {
  ascending = tt;
  has = λ x c r. absurd r;
  only = λ t c. absurd (nothing t c);
}

-- keys that ascend, and may be equal
abbrev IsRising : Key → Entries → Type 0
IsRising key [] = Unit {0}
IsRising key (x ∷ xs) = ((y : List ℕ) → Contains xs y → (is_before (key x) (key y) ≡ true) ⊎ (x ≡ y)) × IsRising key xs

unrepeated_only : (last : Option (List ℕ)) (ys : Entries) (z : List ℕ) → Contains (unrepeated last ys) z → Contains ys z
unrepeated_only last [] z c = c
unrepeated_only last (y ∷ ys) z c =
    at_test (is_last last y) (λ m. unrepeated_only last ys z m) (λ m. unrepeated_only (Some y) ys z m) c
  where
    at_test : (b : Bool) → (Contains (unrepeated last ys) z → Contains ys z) → (Contains (unrepeated (Some y) ys) z → Contains ys z) → Contains (cond b (unrepeated last ys) (y ∷ unrepeated (Some y) ys)) z → Contains (y ∷ ys) z
    at_test true i j m = there y z ys (i m)
    at_test false i j m =
        ⊎_elim (λ e. subst (Contains (y ∷ ys)) e (here y ys)) (λ t. there y z ys (j t)) (head_or_tail y (unrepeated (Some y) ys) z m)

-- what comes after the last that was handed out stands after it
past_last : (key : Key) (x : List ℕ) (ys : Entries) → ((y : List ℕ) → Contains ys y → (is_before (key x) (key y) ≡ true) ⊎ (x ≡ y)) → IsRising key ys → (z : List ℕ) → Contains (unrepeated (Some x) ys) z → is_before (key x) (key z) ≡ true
past_last key x [] h u z c = absurd (nothing z c)
past_last key x (y ∷ ys) h u z c = at_test (bytes_eq x y) refl (λ m. past_last key x ys (λ w n. h w (there y w ys n)) u.1 z m) c
  where
    at_test : (b : Bool) → bytes_eq x y ≡ b → (Contains (unrepeated (Some x) ys) z → is_before (key x) (key z) ≡ true) → Contains (cond b (unrepeated (Some x) ys) (y ∷ unrepeated (Some y) ys)) z → is_before (key x) (key z) ≡ true
    at_test true e i m = i m
    at_test false e i m =
        let n : x ≢ y = λ s. false≢true (sym e ∙ (bytes_eq-Decides x y).1 s) in
        let first : is_before (key x) (key y) ≡ true = ⊎_elim (λ b. b) (λ s. absurd (n s)) (h y (here y ys)) in
        ⊎_elim (λ s. subst (λ w. is_before (key x) (key w) ≡ true) s first)
        (λ t. ⊎_elim (λ b. before_trans (key x) (key y) (key z) first b) (λ s. subst (λ w. is_before (key x) (key w) ≡ true) s first) (u.0 z (unrepeated_only (Some y) ys z t)))
        (head_or_tail y (unrepeated (Some y) ys) z m)

unrepeated_ascends : (key : Key) (last : Option (List ℕ)) (ys : Entries) → IsRising key ys → IsAscending (map key (unrepeated last ys))
unrepeated_ascends key last [] u = tt
unrepeated_ascends key last (y ∷ ys) u =
    at_test (is_last last y) (unrepeated_ascends key last ys u.1) (unrepeated_ascends key (Some y) ys u.1)
  where
    at_test : (b : Bool) → IsAscending (map key (unrepeated last ys)) → IsAscending (map key (unrepeated (Some y) ys)) → IsAscending (map key (cond b (unrepeated last ys) (y ∷ unrepeated (Some y) ys)))
    at_test true i j = i
    at_test false i j = (each_before key (key y) (unrepeated (Some y) ys) (λ z m. past_last key y ys u.0 u.1 z m), j)

last_is : (last : Option (List ℕ)) (y : List ℕ) → is_last last y ≡ true → last ≡ Some y
last_is None y h = absurd (false≢true h)
last_is (Some x) y h = ap Some ((bytes_eq-Decides x y).0 h)

unrepeated_has : (last : Option (List ℕ)) (ys : Entries) (z : List ℕ) → Contains ys z → (last ≡ Some z → ⊥) → Contains (unrepeated last ys) z
unrepeated_has last [] z c n = c
unrepeated_has last (y ∷ ys) z c n =
    at_test (is_last last y) refl (λ m. unrepeated_has last ys z m n) (λ m k. unrepeated_has (Some y) ys z m k)
  where
    differs : (b : Bool) → bytes_eq y z ≡ b → (Contains ys z → (Some y ≡ Some z → ⊥) → Contains (unrepeated (Some y) ys) z) → Contains ys z → Contains (y ∷ unrepeated (Some y) ys) z
    differs true e j m = subst (Contains (y ∷ unrepeated (Some y) ys)) ((bytes_eq-Decides y z).0 e) (here y (unrepeated (Some y) ys))
    differs false e j m = there y z (unrepeated (Some y) ys) (j m (λ s. false≢true (sym e ∙ (bytes_eq-Decides y z).1 (same_Some y z s))))

    at_test : (b : Bool) → is_last last y ≡ b → (Contains ys z → Contains (unrepeated last ys) z) → (Contains ys z → (Some y ≡ Some z → ⊥) → Contains (unrepeated (Some y) ys) z) → Contains (cond b (unrepeated last ys) (y ∷ unrepeated (Some y) ys)) z
    at_test true e i j =
        ⊎_elim (λ s. absurd (n (last_is last y e ∙ ap Some s))) i (head_or_tail y ys z c)
    at_test false e i j =
        ⊎_elim (λ s. subst (Contains (y ∷ unrepeated (Some y) ys)) s (here y (unrepeated (Some y) ys))) (λ m. differs (bytes_eq y z) refl j m) (head_or_tail y ys z c)

-- three numbers before three others, with one more after each
before_longer : (a b c d e f g h : ℕ) → is_before (a ∷ b ∷ c ∷ g ∷ []) (d ∷ e ∷ f ∷ h ∷ []) ≡ true → (is_before (a ∷ b ∷ c ∷ []) (d ∷ e ∷ f ∷ []) ≡ true) ⊎ (a ∷ b ∷ c ∷ [] ≡ d ∷ e ∷ f ∷ [])
before_longer a b c d e f g h k = at_test (is_before (a ∷ b ∷ c ∷ []) (d ∷ e ∷ f ∷ [])) refl
  where
    at_test : (t : Bool) → is_before (a ∷ b ∷ c ∷ []) (d ∷ e ∷ f ∷ []) ≡ t → (t ≡ true) ⊎ (a ∷ b ∷ c ∷ [] ≡ d ∷ e ∷ f ∷ [])
    at_test true q = inl refl
    at_test false q =
        let x : a ≡ d = grind (arith, nat_tests) in
        let y : b ≡ e = grind (arith, nat_tests) in
        let z : c ≡ f = grind (arith, nat_tests) in
        inr cc

turned_back : (s p o : Option ℕ) (a b c d e f : ℕ) → turned_triple (order_used s p o) (a ∷ b ∷ c ∷ []) ≡ turned_triple (order_used s p o) (d ∷ e ∷ f ∷ []) → a ∷ b ∷ c ∷ [] ≡ d ∷ e ∷ f ∷ []
turned_back None None None a b c d e f h = h
turned_back (Some s) None None a b c d e f h = h
turned_back (Some s) (Some p) None a b c d e f h = h
turned_back (Some s) (Some p) (Some o) a b c d e f h = h
turned_back None (Some p) None a b c d e f h = cc
turned_back None (Some p) (Some o) a b c d e f h = cc
turned_back None None (Some o) a b c d e f h = cc
turned_back (Some s) None (Some o) a b c d e f h = cc

-- by the order of a scan
longer_by : (s p o : Option ℕ) (a b c d e f g h : ℕ) → is_before (turned_triple (order_used s p o) (a ∷ b ∷ c ∷ []) ++ g ∷ []) (turned_triple (order_used s p o) (d ∷ e ∷ f ∷ []) ++ h ∷ []) ≡ true → (is_before (turned_triple (order_used s p o) (a ∷ b ∷ c ∷ [])) (turned_triple (order_used s p o) (d ∷ e ∷ f ∷ [])) ≡ true) ⊎ (turned_triple (order_used s p o) (a ∷ b ∷ c ∷ []) ≡ turned_triple (order_used s p o) (d ∷ e ∷ f ∷ []))
longer_by None None None a b c d e f g h k = before_longer a b c d e f g h k
longer_by (Some s) None None a b c d e f g h k = before_longer a b c d e f g h k
longer_by (Some s) (Some p) None a b c d e f g h k = before_longer a b c d e f g h k
longer_by (Some s) (Some p) (Some o) a b c d e f g h k = before_longer a b c d e f g h k
longer_by None (Some p) None a b c d e f g h k = before_longer b c a e f d g h k
longer_by None (Some p) (Some o) a b c d e f g h k = before_longer b c a e f d g h k
longer_by None None (Some o) a b c d e f g h k = before_longer c a b f d e g h k
longer_by (Some s) None (Some o) a b c d e f g h k = before_longer c a b f d e g h k

-- in the orders of the named graphs triples ascend or repeat
rises : (s p o q1 q2 q3 : Option ℕ) (x y : List ℕ) → agrees_anywhere s p o x ≡ true → agrees_anywhere s p o y ≡ true → is_before (turned (named_order_used q1 q2 q3) x) (turned (named_order_used q1 q2 q3) y) ≡ true → (is_before (turned_triple (order_used q1 q2 q3) (triple_of x)) (turned_triple (order_used q1 q2 q3) (triple_of y)) ≡ true) ⊎ (triple_of x ≡ triple_of y)
rises s p o q1 q2 q3 x y h k b =
    let order = order_used q1 q2 q3 in
    let named = named_order_used q1 q2 q3 in
    let u = places_anywhere s p o x h in
    let v = places_anywhere s p o y k in
    let tx : List ℕ = u.at_s ∷ u.at_p ∷ u.at_o ∷ [] in
    let ty : List ℕ = v.at_s ∷ v.at_p ∷ v.at_o ∷ [] in
    let kx : turned named x ≡ turned_triple order tx ++ u.graph ∷ [] = ap (turned named) u.is ∙ turned_named q1 q2 q3 u.graph u.at_s u.at_p u.at_o in
    let ky : turned named y ≡ turned_triple order ty ++ v.graph ∷ [] = ap (turned named) v.is ∙ turned_named q1 q2 q3 v.graph v.at_s v.at_p v.at_o in
    let l = longer_by q1 q2 q3 u.at_s u.at_p u.at_o v.at_s v.at_p v.at_o u.graph v.graph (ap (λ e. is_before e (turned_triple order ty ++ v.graph ∷ [])) (sym kx) ∙ ap (λ e. is_before (turned named x) e) (sym ky) ∙ b) in
    ⊎_elim
    (λ m. inl (ap (λ e. is_before (turned_triple order (triple_of e)) (turned_triple order (triple_of y))) u.is ∙ ap (λ e. is_before (turned_triple order tx) (turned_triple order (triple_of e))) v.is ∙ m))
    (λ e. inr (ap triple_of u.is ∙ turned_back q1 q2 q3 u.at_s u.at_p u.at_o v.at_s v.at_p v.at_o e ∙ ap triple_of (sym v.is))) l

triples_rise : (s p o q1 q2 q3 : Option ℕ) (entries : Entries) → ((x : List ℕ) → Contains entries x → agrees_anywhere s p o x ≡ true) → IsAscending (map (turned (named_order_used q1 q2 q3)) entries) → IsRising (turned_triple (order_used q1 q2 q3)) (map triple_of entries)
triples_rise s p o q1 q2 q3 [] h u = tt
triples_rise s p o q1 q2 q3 (x ∷ xs) h u =
    let order = order_used q1 q2 q3 in
    let named = named_order_used q1 q2 q3 in (
      λ t m.
          let f = origin xs t m in
          subst (λ v. (is_before (turned_triple order (triple_of x)) (turned_triple order v) ≡ true) ⊎ (triple_of x ≡ v)) f.is
          (rises s p o q1 q2 q3 x f.entry (h x (here x xs)) (h f.entry (there x f.entry xs f.stands)) (before_each (turned named) (turned named x) xs u.0 f.entry f.stands)),
      triples_rise s p o q1 q2 q3 xs (λ y m. h y (there x y xs m)) u.1,
    )

-- the triples of all named graphs, each once
pub triples_of_named : (s p o q1 q2 q3 : Option ℕ) (entries rest : Entries) → IsScanOf (IsRead Named s p o) (turned (named_order_used q1 q2 q3)) entries rest → AreTriplesIn (order_used q1 q2 q3) Named s p o entries (unrepeated None (map triple_of rest))
triples_of_named s p o q1 q2 q3 entries rest f = record {
  ascending = unrepeated_ascends (turned_triple (order_used q1 q2 q3)) None (map triple_of rest) (triples_rise s p o q1 q2 q3 rest (λ x m. (f.only x m).1.1) f.ascending);
  has = λ x c r. unrepeated_has None (map triple_of rest) (triple_of x) (triple_stands rest x (f.has x c r)) (λ e. none-some (triple_of x) e);
  only = λ t c. let m = origin rest t (unrepeated_only None (map triple_of rest) t c) in let n = f.only m.entry m.stands in record { entry = m.entry; stands = n.0; read = n.1; is = m.is };
}

-- what is handed out of a store, and of a draft
pub stored_one : (graphs : Graphs) (graph : ℕ) (s p o : Option ℕ) (entries rest triples : Entries) → graphs ≡ One graph → IsPermutation (agreeing graph s p o entries) rest → IsAscending (map (turned (order_used s p o)) rest) → triples ≡ map triple_of rest → AreTriplesOf graphs s p o entries triples
stored_one graphs graph s p o entries rest triples g m u e =
    subst (λ k. AreTriplesOf k s p o entries triples) (sym g) (subst (AreTriplesOf (One graph) s p o entries) (sym e) (triples_of_one graph s p o s p o entries rest (scan_of_one graph s p o entries rest m u)))

pub stored_named : (graphs : Graphs) (s p o : Option ℕ) (entries rest triples : Entries) → graphs ≡ Named → IsPermutation (agreeing_named s p o entries) rest → IsAscending (map (turned (named_order_used s p o)) rest) → triples ≡ unrepeated None (map triple_of rest) → AreTriplesOf graphs s p o entries triples
stored_named graphs s p o entries rest triples g m u e =
    subst (λ k. AreTriplesOf k s p o entries triples) (sym g) (subst (AreTriplesOf Named s p o entries) (sym e) (triples_of_named s p o s p o entries rest (scan_of_named s p o entries rest m u)))

pub drafted_one : (graphs : Graphs) (graph : ℕ) (s p o : Option ℕ) (order : Permutation) (i r a xs ys zs all triples : Entries) → graphs ≡ One graph → IsDraft i r a → IsScanOf (IsRead (One graph) s p o) (turned (order_used s p o)) i xs → IsScanOf (IsRead (One graph) s p o) (turned (order_used s p o)) r ys → IsScanOf (IsRead (One graph) s p o) (turned (order_used s p o)) a zs → order ≡ order_used s p o → all ≡ merged (turned order) (without xs ys) zs → triples ≡ map triple_of all → AreTriplesOf graphs s p o (drafted i r a) triples
drafted_one graphs graph s p o order i r a xs ys zs all triples g d f h k n m e =
    let whole = scan_of_draft (IsRead (One graph) s p o) (order_used s p o) i r a xs ys zs d f h k in
    let same : triples ≡ map triple_of (merged (turned (order_used s p o)) (without xs ys) zs) = e ∙ ap (map triple_of) (m ∙ ap (λ w. merged (turned w) (without xs ys) zs) n) in
    subst (λ w. AreTriplesOf w s p o (drafted i r a) triples) (sym g) (subst (AreTriplesOf (One graph) s p o (drafted i r a)) (sym same) (triples_of_one graph s p o s p o (drafted i r a) (merged (turned (order_used s p o)) (without xs ys) zs) whole))

pub drafted_named : (graphs : Graphs) (s p o : Option ℕ) (order : Permutation) (i r a xs ys zs all triples : Entries) → graphs ≡ Named → IsDraft i r a → IsScanOf (IsRead Named s p o) (turned (named_order_used s p o)) i xs → IsScanOf (IsRead Named s p o) (turned (named_order_used s p o)) r ys → IsScanOf (IsRead Named s p o) (turned (named_order_used s p o)) a zs → order ≡ named_order_used s p o → all ≡ merged (turned order) (without xs ys) zs → triples ≡ unrepeated None (map triple_of all) → AreTriplesOf graphs s p o (drafted i r a) triples
drafted_named graphs s p o order i r a xs ys zs all triples g d f h k n m e =
    let whole = scan_of_draft (IsRead Named s p o) (named_order_used s p o) i r a xs ys zs d f h k in
    let same : triples ≡ unrepeated None (map triple_of (merged (turned (named_order_used s p o)) (without xs ys) zs)) = e ∙ ap (λ l. unrepeated None (map triple_of l)) (m ∙ ap (λ w. merged (turned w) (without xs ys) zs) n) in
    subst (λ w. AreTriplesOf w s p o (drafted i r a) triples) (sym g) (subst (AreTriplesOf Named s p o (drafted i r a)) (sym same) (triples_of_named s p o s p o (drafted i r a) (merged (turned (named_order_used s p o)) (without xs ys) zs) whole))

-- ---- a scan whose order has a place in front

-- its order is one that a scan uses to which numbers are given
record LedAs (s p o : Option ℕ) (lead : Lead) : Type 0 where
  q1 : Option ℕ
  q2 : Option ℕ
  q3 : Option ℕ
  is : order_with_lead s p o lead ≡ order_used q1 q2 q3
  is_named : named_order_with_lead s p o lead ≡ named_order_used q1 q2 q3

led_as : (s p o : Option ℕ) (lead : Lead) → LedAs s p o lead
led_as (Some s) p o lead = record { q1 = Some s; q2 = p; q3 = o; is = refl; is_named = refl }
led_as None (Some p) o lead = record { q1 = None; q2 = Some p; q3 = o; is = refl; is_named = refl }
led_as None None (Some o) lead = record { q1 = None; q2 = None; q3 = Some o; is = refl; is_named = refl }
led_as None None None Subject = record { q1 = None; q2 = None; q3 = None; is = refl; is_named = refl }
led_as None None None Predicate = record { q1 = None; q2 = Some 0; q3 = None; is = refl; is_named = refl }
led_as None None None Object = record { q1 = None; q2 = None; q3 = Some 0; is = refl; is_named = refl }

pub led_one : (graphs : Graphs) (graph : ℕ) (s p o : Option ℕ) (lead : Lead) (entries rest triples : Entries) → graphs ≡ One graph → IsPermutation (agreeing graph s p o entries) rest → IsAscending (map (turned (order_with_lead s p o lead)) rest) → triples ≡ map triple_of rest → AreTriplesOfAnyhow graphs s p o entries triples
led_one graphs graph s p o lead entries rest triples g m u e =
    let l = led_as s p o lead in
    let order = order_used l.q1 l.q2 l.q3 in
    let scan = scan_in_one order graph s p o entries rest m (subst (λ k. IsAscending (map (turned k) rest)) l.is u) in
    record {
      order = order;
      in_order = subst (λ k. AreTriplesIn order k s p o entries triples) (sym g) (subst (AreTriplesIn order (One graph) s p o entries) (sym e) (triples_of_one graph s p o l.q1 l.q2 l.q3 entries rest scan));
    }

pub led_named : (graphs : Graphs) (s p o : Option ℕ) (lead : Lead) (entries rest triples : Entries) → graphs ≡ Named → IsPermutation (agreeing_named s p o entries) rest → IsAscending (map (turned (named_order_with_lead s p o lead)) rest) → triples ≡ unrepeated None (map triple_of rest) → AreTriplesOfAnyhow graphs s p o entries triples
led_named graphs s p o lead entries rest triples g m u e =
    let l = led_as s p o lead in
    let order = order_used l.q1 l.q2 l.q3 in
    let scan = scan_in_named (named_order_used l.q1 l.q2 l.q3) s p o entries rest m (subst (λ k. IsAscending (map (turned k) rest)) l.is_named u) in
    record {
      order = order;
      in_order = subst (λ k. AreTriplesIn order k s p o entries triples) (sym g) (subst (AreTriplesIn order Named s p o entries) (sym e) (triples_of_named s p o l.q1 l.q2 l.q3 entries rest scan));
    }

pub led_nothing : (graphs : Graphs) (s p o : Option ℕ) (entries triples : Entries) → graphs ≡ Nothing → triples ≡ [] → AreTriplesOfAnyhow graphs s p o entries triples
led_nothing graphs s p o entries triples g e = record {
  order = order_used s p o;
  in_order = subst (λ k. AreTriplesOf k s p o entries triples) (sym g) (subst (AreTriplesOf Nothing s p o entries) (sym e) (no_triples s p o entries));
}

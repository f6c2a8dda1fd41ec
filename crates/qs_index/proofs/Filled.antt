-- Pages that are filled whole.
use Rattle.std.proofs.Common.{◌≡◌, ℕ, ◌+◌, ◌-◌, ◌*◌, ◌<◌, ◌≤◌, ◌==◌, Bool, true, false, List, [], ◌∷◌, ◌++◌, length, get_or, take, drop, set, refl, ap, sym, ◌∙◌, arith, subst, append-nil, length-append}
use Rattle.std.specs.List.{Contains, insert}
use Rattle.std.specs.Prelude.{nat_lt}
use Rattle.std.specs.Str.{bytes_eq}
use Rattle.std.specs.Cmp.Lexicographic.{bytes_decides}
use Rattle.std.proofs.lemmas.List.{length-set, length-drop, set-set, set-get_or, get_or-set_same, get_or_at, at_drop_more, drop_all, take_all, length_push, nil_from_length}
use Rattle.std.proofs.lemmas.Bool.{false≢true, eqb-true, ltb-true, ltb-false}
use Rattle.std.proofs.lemmas.List.Edits.{length-insert, insert_end}
use Rattle.std.proofs.lemmas.List.Elements.{Contains-get_or}
use Rattle.qs_index.specs.inner.Entries.{HaveFour, IsUnion}
use Rattle.qs_index.specs.inner.Entry.{is_before, IsAscending, IsNotFirst, skip_before, keep_before, with_entry}
use Rattle.qs_index.specs.inner.Layout.{filled_of, joined, page_at, rest_at, used_of}
use Rattle.qs_index.specs.inner.Extending.{extended, taken_in}
use Rattle.qs_index.proofs.EntryEdits.{keep-skip, IsAscending-with, put_in_order}
use Rattle.qs_index.proofs.Extending.{extended_step, taken_step, extended_full, taken_full, length-extended}
use Rattle.qs_index.proofs.Members.{length-with}
use Rattle.qs_index.proofs.Turned.{four_with, only_entry}
use Rattle.qs_index.proofs.Unions.{IsUnion-nil, IsUnion-more}
use Rattle.qs_index.proofs.Places.{joined-append, skip_to, rest_end, rest_next_page}
use Rattle.qs_index.proofs.Spares.{over-append, over-set}

pub some_of : (xs : List (List ℕ)) → false ≡ (length xs == 0) → 0 < length xs
some_of [] e = absurd (false≢true e)
some_of (x ∷ xs) e = omega arith

pub nothing_where_empty : (xs : List (List ℕ)) → true ≡ (length xs == 0) → xs ≡ []
nothing_where_empty xs e = nil_from_length xs (eqb-true (length xs) 0 (sym e))

-- a page put after all others
pub insert_last : (pages : List (List (List ℕ))) (k : ℕ) (page : List (List ℕ)) → k ≡ length pages → insert pages k page ≡ pages ++ page ∷ []
insert_last pages k page e =
    ap (λ r. r ++ page ∷ drop k pages) (take_all k pages (omega arith)) ∙ ap (λ r. pages ++ page ∷ r) (drop_all k pages (omega arith))

-- all entries up to the last are before a greater one
pub all_before : (x : List ℕ) (xs : List (List ℕ)) → IsAscending xs → 0 < length xs → is_before (get_or xs (length xs - 1) []) x ≡ true → skip_before x xs ≡ []
all_before x xs u some b =
    skip_to x xs (length xs - 1) u (omega arith) b ∙ ap (skip_before x) (drop_all (length xs - 1 + 1) xs (omega arith))

pub with_behind : (x : List ℕ) (xs : List (List ℕ)) → skip_before x xs ≡ [] → with_entry x xs ≡ xs ++ x ∷ []
with_behind x xs e =
    let front : keep_before x xs ≡ xs = sym (append-nil (keep_before x xs)) ∙ ap (λ r. keep_before x xs ++ r) (sym e) ∙ keep-skip x xs in
    ap (λ r. keep_before x xs ++ x ∷ r) e ∙ ap (λ r. r ++ x ∷ []) front

pub last_behind : (x : List ℕ) (xs : List (List ℕ)) → skip_before x xs ≡ [] → x ≡ get_or (with_entry x xs) (length (with_entry x xs) - 1) []
last_behind x xs e =
    let w = with_behind x xs e in
    let n = length_push xs x in
    sym (ap (λ r. get_or r (length r - 1) []) w ∙ get_or_at xs x [] [] (length (xs ++ x ∷ []) - 1) (omega arith))

-- an entry put after all others, into the last page
pub rest_last : (pages : List (List (List ℕ))) (m : ℕ) → m + 1 ≡ length pages → rest_at pages m (length (page_at pages m)) ≡ []
rest_last pages m h = rest_next_page pages m (length (page_at pages m)) (omega arith) refl ∙ rest_end pages (m + 1) 0 (omega arith)

pub used_put : (pages : List (List (List ℕ))) (m at : ℕ) (x : List ℕ) → m + 1 ≡ length pages → at ≤ length (page_at pages m) → used_of (set pages m (insert (page_at pages m) at x)) ≤ used_of pages + 1
used_put pages m at x h l =
    let new = insert (page_at pages m) at x in
    let n = length-insert (page_at pages m) at x l in
    let o = over-set pages m new (omega arith) in
    let s = length-set pages m new in
    let last : length (page_at (set pages m new) (length (set pages m new) - 1)) ≡ length new = ap (λ k. length (page_at (set pages m new) k)) (same (length (set pages m new)) m (omega arith)) ∙ ap length (get_or-set_same pages m new [] (omega arith)) in
    let old : length (page_at pages (length pages - 1)) ≡ length (page_at pages m) = ap (λ k. length (page_at pages k)) (same (length pages) m (omega arith)) in
    omega arith
  where
    same : (n m : ℕ) → m + 1 ≡ n → n - 1 ≡ m
    same n m e = omega arith

pub filled_put : (pages : List (List (List ℕ))) (m at : ℕ) (x : List ℕ) → m + 1 ≡ length pages → at ≤ length (page_at pages m) → filled_of (set pages m (insert (page_at pages m) at x)) ≤ filled_of pages + 1
filled_put pages m at x h l =
    let new = insert (page_at pages m) at x in
    let n = length-insert (page_at pages m) at x l in
    let s = length-set pages m new in
    let last : length (page_at (set pages m new) (length (set pages m new) - 1)) ≡ length new = ap (λ k. length (page_at (set pages m new) k)) (same (length (set pages m new)) m (omega arith)) ∙ ap length (get_or-set_same pages m new [] (omega arith)) in
    let old : length (page_at pages (length pages - 1)) ≡ length (page_at pages m) = ap (λ k. length (page_at pages k)) (same (length pages) m (omega arith)) in
    omega arith
  where
    same : (n m : ℕ) → m + 1 ≡ n → n - 1 ≡ m
    same n m e = omega arith

-- or into a new one
pub joined_open : (pages : List (List (List ℕ))) (x : List ℕ) → joined (pages ++ (x ∷ []) ∷ []) ≡ joined pages ++ x ∷ []
joined_open pages x = joined-append pages ((x ∷ []) ∷ [])

pub used_open : (pages : List (List (List ℕ))) (x : List ℕ) → 256 ≤ length (page_at pages (length pages - 1)) → used_of (pages ++ (x ∷ []) ∷ []) ≤ used_of pages + 1
used_open pages x h =
    let o = over-append pages ((x ∷ []) ∷ []) in
    let n = length_push pages (x ∷ []) in
    let last : length (page_at (pages ++ (x ∷ []) ∷ []) (length (pages ++ (x ∷ []) ∷ []) - 1)) ≡ 1 = ap length (get_or_at pages (x ∷ []) [] [] (length (pages ++ (x ∷ []) ∷ []) - 1) (omega arith)) in
    omega arith

pub filled_open : (pages : List (List (List ℕ))) (x : List ℕ) → 0 < length pages → 256 ≤ length (page_at pages (length pages - 1)) → filled_of (pages ++ (x ∷ []) ∷ []) ≤ filled_of pages + 1
filled_open pages x some h =
    let n = length_push pages (x ∷ []) in
    let last : length (page_at (pages ++ (x ∷ []) ∷ []) (length (pages ++ (x ∷ []) ∷ []) - 1)) ≡ 1 = ap length (get_or_at pages (x ∷ []) [] [] (length (pages ++ (x ∷ []) ∷ []) - 1) (omega arith)) in
    omega arith

-- what holds while a list is read and pages are filled
pub record Filling (all : List (List ℕ)) (whole read count : ℕ) (last : List ℕ) (pages : List (List (List ℕ))) (spare : ℕ) : Type 0 where
  pub held : 0 < length pages
  pub some : 0 < count
  pub few : count ≤ read
  pub counted : count ≡ length (joined pages)
  pub union : IsUnion [] (take read all) (joined pages)
  pub four : HaveFour (joined pages)
  pub last_is : last ≡ get_or (joined pages) (length (joined pages) - 1) []
  pub within : read ≤ length all
  pub seen : last ≡ get_or all (read - 1) []
  pub used : used_of pages ≤ read + 128
  pub filled : filled_of pages ≤ read
  pub sum : length pages + spare ≡ whole

before_next : (read : ℕ) → read ≡ read + 1 - 1
before_next read = omega arith

pub filling_first : (all : List (List ℕ)) (whole spare : ℕ) (x : List ℕ) (pages new : List (List (List ℕ))) → pages ≡ [] → new ≡ pages ++ (x ∷ []) ∷ [] → spare + 1 ≡ whole → 0 < length all → x ≡ get_or all 0 [] → length x ≡ 4 → Filling all whole 1 1 x new spare
filling_first all whole spare x pages new n e s l r f =
    let made : new ≡ (x ∷ []) ∷ [] = e ∙ ap (λ k. k ++ (x ∷ []) ∷ []) n in
    subst (λ k. Filling all whole 1 1 x k spare) (sym made) record {
      held = omega arith;
      some = omega arith;
      few = omega arith;
      counted = refl;
      union = IsUnion-more [] all [] (x ∷ []) 0 x true l r (IsUnion-nil [] tt) refl tt tt (tt, tt);
      four = (only_entry x f).four;
      last_is = refl;
      within = omega (arith, l);
      seen = r;
      used = omega arith;
      filled = omega arith;
      sum = omega arith;
    }

pub filling_behind : (all : List (List ℕ)) (whole read count spare : ℕ) (last e : List ℕ) (pages : List (List (List ℕ))) → Filling all whole read count last pages spare → is_before last e ≡ true → skip_before e (joined pages) ≡ []
filling_behind all whole read count spare last e pages u b =
    all_before e (joined pages) u.union.ascending (omega (arith, u.some, u.counted)) (ap (λ r. is_before r e) (sym u.last_is) ∙ b)

pub filling_more : (all : List (List ℕ)) (whole read count spare less : ℕ) (last e : List ℕ) (pages new : List (List (List ℕ))) → Filling all whole read count last pages spare → read < length all → e ≡ get_or all read [] → length e ≡ 4 → is_before last e ≡ true → 0 < length new → joined new ≡ with_entry e (joined pages) → used_of new ≤ used_of pages + 1 → filled_of new ≤ filled_of pages + 1 → length new + less ≡ length pages + spare → Filling all whole (read + 1) (count + 1) e new less
filling_more all whole read count spare less last e pages new u l r f b held made used filled sum =
    let none = filling_behind all whole read count spare last e pages u b in
    let ascending = IsAscending-with e (joined pages) u.union.ascending (subst (IsNotFirst e) (sym none) tt) in
    let n = ap length made ∙ length-with e (joined pages) in
    record {
      held = held;
      some = omega arith;
      few = omega (arith, u.few);
      counted = omega (arith, u.counted);
      union = IsUnion-more [] all (joined pages) (joined new) read e true l r u.union made tt tt (subst IsAscending (sym made) ascending);
      four = subst HaveFour (sym made) (four_with e (joined pages) f u.four);
      last_is = last_behind e (joined pages) none ∙ ap (λ k. get_or k (length k - 1) []) (sym made);
      within = omega (arith, l);
      seen = r ∙ ap (λ k. get_or all k []) (before_next read);
      used = omega (arith, u.used);
      filled = omega (arith, u.filled);
      sum = omega (arith, u.sum);
    }

pub filling_same : (all : List (List ℕ)) (whole read count spare : ℕ) (last e : List ℕ) (pages : List (List (List ℕ))) → Filling all whole read count last pages spare → read < length all → e ≡ get_or all read [] → e ≡ last → Filling all whole (read + 1) count last pages spare
filling_same all whole read count spare last e pages u l r s =
    let stands : Contains (joined pages) e = subst (Contains (joined pages)) (sym (s ∙ u.last_is)) (Contains-get_or (joined pages) (length (joined pages) - 1) [] (omega (arith, u.some, u.counted))) in
    record {
      held = u.held;
      some = u.some;
      few = omega (arith, u.few);
      counted = u.counted;
      union = IsUnion-more [] all (joined pages) (joined pages) read e false l r u.union tt refl stands u.union.ascending;
      four = u.four;
      last_is = u.last_is;
      within = omega (arith, l);
      seen = sym s ∙ r ∙ ap (λ k. get_or all k []) (before_next read);
      used = omega (arith, u.used);
      filled = omega (arith, u.filled);
      sum = u.sum;
    }

pub filling_spare : (all : List (List ℕ)) (whole read count spare : ℕ) (last : List ℕ) (pages : List (List (List ℕ))) → Filling all whole read count last pages spare → read < length all → length all ≤ 256 * whole → 256 ≤ length (page_at pages (length pages - 1)) → 0 < spare
filling_spare all whole read count spare last pages u l r h = omega (arith, u.filled, u.sum, u.held)

-- ---- a page filled at once

filling_as : (all : List (List ℕ)) (whole spare read count : ℕ) (last : List ℕ) (pages : List (List (List ℕ))) (more many : ℕ) (end : List ℕ) (new : List (List (List ℕ))) → read ≡ more → count ≡ many → last ≡ end → pages ≡ new → Filling all whole read count last pages spare → Filling all whole more many end new spare
filling_as all whole spare read count last pages more many end new r c l p u =
    subst (λ k. Filling all whole more many end k spare) p
    (subst (λ k. Filling all whole more many k pages spare) l
    (subst (λ k. Filling all whole more k last pages spare) c
    (subst (λ k. Filling all whole k count last pages spare) r u)))

-- what a page that takes some of the entries after the first `read` leaves
abbrev Fills : (all : List (List ℕ)) (whole spare m : ℕ) (es page : List (List ℕ)) → Type 0
Fills all whole spare m es page = (pages : List (List (List ℕ))) (read count : ℕ) (last : List ℕ) → Filling all whole read count last pages spare → page_at pages m ≡ page → m + 1 ≡ length pages → es ≡ drop read all → (r k : ℕ) → r ≡ taken_in last page es → k + length page ≡ length (extended last page es) → Filling all whole (read + r) (count + k) (get_or all (read + r - 1) []) (set pages m (extended last page es)) spare

-- where it takes none
stays : (all : List (List ℕ)) (whole spare m : ℕ) (page new : List (List ℕ)) (pages : List (List (List ℕ))) (read count : ℕ) (last : List ℕ) → Filling all whole read count last pages spare → page_at pages m ≡ page → new ≡ page → (r k : ℕ) → r ≡ 0 → k ≡ 0 → Filling all whole (read + r) (count + k) (get_or all (read + r - 1) []) (set pages m new) spare
stays all whole spare m page new pages read count last u p e r k hr hk =
    filling_as all whole spare read count last pages (read + r) (count + k) (get_or all (read + r - 1) []) (set pages m new) (omega (arith, hr)) (omega (arith, hk))
    (u.seen ∙ ap (λ n. get_or all n []) (same read r hr)) (sym (ap (set pages m) (e ∙ sym p) ∙ set-get_or pages m [])) u
  where
    same : (n r : ℕ) → r ≡ 0 → n - 1 ≡ n + r - 1
    same n r h = omega (arith, h)

-- one entry first
fills_one : (all : List (List ℕ)) (whole spare m : ℕ) → ((k : ℕ) → k < length all → length (get_or all k []) ≡ 4) → (e : List ℕ) (es page : List (List ℕ)) → Fills all whole spare m es (page ++ e ∷ []) → Fills all whole spare m es page → Fills all whole spare m (e ∷ es) page
fills_one all whole spare m four e es page put pass pages read count last u p n d r k hr hk =
    by_room (nat_lt (length page) 256) refl
  where
    some : read < length all
    some = let a = ap length d ∙ length-drop read all in omega (arith, a)

    split : drop read all ≡ get_or all read [] ∷ drop (read + 1) all
    split = at_drop_more (λ x. x) all read [] some

    it : e ≡ get_or all read []
    it = ap (λ x. get_or x 0 []) (d ∙ split)

    rest : es ≡ drop (read + 1) all
    rest = ap (drop 1) (d ∙ split)

    less : m < length pages
    less = omega (arith, n)

    before_last : (read r : ℕ) → 0 < r → read + 1 + (r - 1) - 1 ≡ read + r - 1
    before_last read r h = omega (arith, h)

    by_test : (b s : Bool) → is_before last e ≡ b → bytes_eq e last ≡ s → length page < 256 → Filling all whole (read + r) (count + k) (get_or all (read + r - 1) []) (set pages m (extended last page (e ∷ es))) spare
    by_test true s b q room =
        let step = extended_step last page es e true s room b q in
        let taken = taken_step last page es e true s room b q in
        let page2 = page ++ e ∷ [] in
        let new = set pages m page2 in
        let end : page2 ≡ insert (page_at pages m) (length (page_at pages m)) e = sym (ap (λ x. insert x (length x) e) p ∙ insert_end page e) in
        let same : new ≡ set pages m (insert (page_at pages m) (length (page_at pages m)) e) = ap (set pages m) end in
        let long = length-set pages m page2 in
        let none = filling_behind all whole read count spare last e pages u b in
        let made : joined new ≡ with_entry e (joined pages) = ap joined same ∙ put_in_order e pages m (length (page_at pages m)) less (omega arith) (rest_last pages m n ∙ sym none) in
        let used : used_of new ≤ used_of pages + 1 = subst (λ x. used_of x ≤ used_of pages + 1) (sym same) (used_put pages m (length (page_at pages m)) e n (omega arith)) in
        let filled : filled_of new ≤ filled_of pages + 1 = subst (λ x. filled_of x ≤ filled_of pages + 1) (sym same) (filled_put pages m (length (page_at pages m)) e n (omega arith)) in
        let u2 = filling_more all whole read count spare spare last e pages new u some it (ap length it ∙ four read some) b (omega (arith, long, u.held)) made used filled (omega (arith, long)) in
        let w = length-append page (e ∷ []) in
        let grown = length-extended e page2 es (omega (arith, w, room)) in
        let size = ap length step in
        let v = put new (read + 1) (count + 1) e u2 (get_or-set_same pages m page2 [] less) (omega (arith, n, long)) rest (r - 1) (k - 1) (omega (arith, hr, taken)) (omega (arith, hk, size, w, grown.0)) in
        filling_as all whole spare (read + 1 + (r - 1)) (count + 1 + (k - 1)) (get_or all (read + 1 + (r - 1) - 1) []) (set new m (extended e page2 es)) (read + r) (count + k) (get_or all (read + r - 1) []) (set pages m (extended last page (e ∷ es)))
        (omega (arith, hr, taken)) (omega (arith, hk, size, w, grown.0)) (ap (λ x. get_or all x []) (before_last read r (omega (arith, hr, taken)))) (set-set pages m page2 (extended e page2 es) ∙ ap (set pages m) (sym step)) v
    by_test false true b q room =
        let step = extended_step last page es e false true room b q in
        let taken = taken_step last page es e false true room b q in
        let u2 = filling_same all whole read count spare last e pages u some it ((bytes_decides e last).0 q) in
        let size = ap length step in
        let v = pass pages (read + 1) count last u2 p n rest (r - 1) k (omega (arith, hr, taken)) (omega (arith, hk, size)) in
        filling_as all whole spare (read + 1 + (r - 1)) (count + k) (get_or all (read + 1 + (r - 1) - 1) []) (set pages m (extended last page es)) (read + r) (count + k) (get_or all (read + r - 1) []) (set pages m (extended last page (e ∷ es)))
        (omega (arith, hr, taken)) refl (ap (λ x. get_or all x []) (before_last read r (omega (arith, hr, taken)))) (ap (set pages m) (sym step)) v
    by_test false false b q room =
        let step = extended_step last page es e false false room b q in
        let taken = taken_step last page es e false false room b q in
        let size = ap length step in
        stays all whole spare m page (extended last page (e ∷ es)) pages read count last u p step r k (omega (arith, hr, taken)) (omega (arith, hk, size))

    by_room : (b : Bool) → nat_lt (length page) 256 ≡ b → Filling all whole (read + r) (count + k) (get_or all (read + r - 1) []) (set pages m (extended last page (e ∷ es))) spare
    by_room true room = by_test (is_before last e) (bytes_eq e last) refl refl (ltb-true (length page) 256 room)
    by_room false room =
        let full = ltb-false (length page) 256 room in
        let step = extended_full last page (e ∷ es) full in
        let taken = taken_full last page (e ∷ es) full in
        let size = ap length step in
        stays all whole spare m page (extended last page (e ∷ es)) pages read count last u p step r k (hr ∙ taken) (omega (arith, hk, size))

pub filling_page : (all : List (List ℕ)) (whole spare m : ℕ) → ((k : ℕ) → k < length all → length (get_or all k []) ≡ 4) → (es page : List (List ℕ)) → Fills all whole spare m es page
filling_page all whole spare m four [] page = λ pages read count last u p n d r k hr hk. stays all whole spare m page page pages read count last u p refl r k hr (omega (arith, hk))
filling_page all whole spare m four (e ∷ es) page = fills_one all whole spare m four e es page (filling_page all whole spare m four es (page ++ e ∷ [])) (filling_page all whole spare m four es page)

-- an entry after all others, and then those after it that its page takes
pub filling_both : (all : List (List ℕ)) (whole read count spare less : ℕ) (last : List ℕ) (pages mid new : List (List (List ℕ))) (rest : List (List ℕ)) (r k : ℕ) → rest ≡ drop (read + 1) all → Filling all whole read count last pages spare → read < length all → ((k : ℕ) → k < length all → length (get_or all k []) ≡ 4) → is_before last (get_or all read []) ≡ true → 0 < length mid → joined mid ≡ with_entry (get_or all read []) (joined pages) → used_of mid ≤ used_of pages + 1 → filled_of mid ≤ filled_of pages + 1 → length mid + less ≡ length pages + spare → r ≡ taken_in (get_or all read []) (page_at mid (length mid - 1)) rest → new ≡ set mid (length mid - 1) (extended (get_or all read []) (page_at mid (length mid - 1)) rest) → k + length (page_at mid (length mid - 1)) ≡ length (extended (get_or all read []) (page_at mid (length mid - 1)) rest) → Filling all whole (read + (1 + r)) (count + (1 + k)) (get_or all (read + (1 + r) - 1) []) new less
filling_both all whole read count spare less last pages mid new rest r k w u l four b held made used filled sum hr e hk =
    let it = get_or all read [] in
    let m = length mid - 1 in
    let one = filling_more all whole read count spare less last it pages mid u l refl (four read l) b held made used filled sum in
    let v = filling_page all whole less m four rest (page_at mid m) mid (read + 1) (count + 1) it one refl (omega (arith, held)) w r k hr hk in
    filling_as all whole less (read + 1 + r) (count + 1 + k) (get_or all (read + 1 + r - 1) []) (set mid m (extended it (page_at mid m) rest)) (read + (1 + r)) (count + (1 + k)) (get_or all (read + (1 + r) - 1) []) new
    (omega arith) (omega arith) (ap (λ n. get_or all n []) (sums read r)) (sym e) v
  where
    sums : (n r : ℕ) → n + 1 + r - 1 ≡ n + (1 + r) - 1
    sums n r = omega arith

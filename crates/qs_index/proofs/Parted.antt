-- A list whose entries of the default graph are moved to the front, as far as a loop came.
use Rattle.std.proofs.Common.{◌≡◌, ◌≢◌, ℕ, ◌+◌, ◌≤◌, ◌<◌, Bool, true, false, cond, List, [], length, get_or, take, drop, length-take, length-drop, ap, sym, ◌∙◌, subst, arith, ⊎_elim}
use Rattle.std.specs.List.{All, AllWithin, SwappedAt}
use Rattle.std.proofs.lemmas.Bool.Decides.{eqb_tells}
use Rattle.std.proofs.lemmas.List.{get_or_default, get_or-take, get_or-drop}
use Rattle.std.proofs.lemmas.List.Elements.{All-from_get_or}
use Rattle.std.proofs.lemmas.List.Filters.{length-filter_more}
use Rattle.qs_index.specs.inner.Graph.{is_named, named_entries}

abbrev pub IsKind : Bool → List ℕ → Type 0
IsKind b entry = is_named entry ≡ b

by_index : (P : Type 0) (j k : ℕ) → (j ≡ k → P) → (j ≢ k → P) → P
by_index P j k same other = ⊎_elim (λ t. same t.1) (λ f. other f.1) (eqb_tells j k)

-- one more of the default graph
pub default_more : (xs ys : List (List ℕ)) (k i : ℕ) → k ≤ i → SwappedAt xs ys k i → is_named (get_or xs i []) ≡ false → length xs ≤ length ys → i < length xs → AllWithin (IsKind false) xs 0 k → AllWithin (IsKind false) ys 0 (k + 1)
default_more xs ys k i h s e n m f j d l g =
    by_index (IsKind false (get_or ys j d)) j k
    (λ t. subst (IsKind false) (sym (ap (λ r. get_or ys r d) t ∙ s.0 d)) (subst (λ r. IsKind false r) (get_or_default xs i [] d m) e))
    (λ t. subst (IsKind false) (sym (s.2 j d t (λ w. t (omega (arith, w, g, h))))) (f j d l (omega (arith, t, g))))

pub named_more : (xs ys : List (List ℕ)) (k i : ℕ) → k ≤ i → SwappedAt xs ys k i → AllWithin (IsKind true) xs k i → AllWithin (IsKind true) ys (k + 1) (i + 1)
named_more xs ys k i h s f j d l g =
    by_index (IsKind true (get_or ys j d)) j i
    (λ t. subst (IsKind true) (sym (ap (λ r. get_or ys r d) t ∙ s.1 d)) (f k d (omega arith) (omega (arith, t, l))))
    (λ t. subst (IsKind true) (sym (s.2 j d (λ w. omega (arith, w, l)) t)) (f j d (omega (arith, l)) (omega (arith, t, g))))

pub named_here : (xs : List (List ℕ)) (k i : ℕ) → i < length xs → is_named (get_or xs i []) ≡ true → AllWithin (IsKind true) xs k i → AllWithin (IsKind true) xs k (i + 1)
named_here xs k i m e f j d l g =
    by_index (IsKind true (get_or xs j d)) j i
    (λ t. subst (λ r. IsKind true (get_or xs r d)) (sym t) (subst (IsKind true) (get_or_default xs i [] d m) e))
    (λ t. f j d l (omega (arith, t, g)))

-- the two parts of the whole list
pub all_front : (b : Bool) (xs : List (List ℕ)) (k : ℕ) → AllWithin (IsKind b) xs 0 k → All (IsKind b) (take k xs)
all_front b xs k f = All-from_get_or (IsKind b) (take k xs) [] (λ j l. let n = length-take k xs in subst (IsKind b) (sym (get_or-take k xs j [] (omega arith))) (f j [] (omega arith) (omega arith)))

pub all_back : (b : Bool) (xs : List (List ℕ)) (k i : ℕ) → length xs ≤ i → AllWithin (IsKind b) xs k i → All (IsKind b) (drop k xs)
all_back b xs k i h f = All-from_get_or (IsKind b) (drop k xs) [] (λ j l. let n = length-drop k xs in subst (IsKind b) (sym (get_or-drop k xs j [])) (f (k + j) [] (omega arith) (omega arith)))

-- how many of the front are of named graphs, with one more
pub named_count_more : (xs : List (List ℕ)) (i : ℕ) (b : Bool) → i < length xs → b ≡ is_named (get_or xs i []) → length (named_entries (take (i + 1) xs)) ≡ length (named_entries (take i xs)) + cond b 1 0
named_count_more xs i b h e = length-filter_more is_named xs i [] h ∙ ap (λ t. length (named_entries (take i xs)) + cond t 1 0) (sym e)

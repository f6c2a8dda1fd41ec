-- Lists without repeats, filters and maps, and that two lists without repeats and with the same members are permutations.
use Rattle.std.proofs.Common.{◌≡◌, ◌≢◌, ℕ, Bool, true, false, cond, List, [], ◌∷◌, ◌++◌, map, refl, ap, sym, ◌∙◌, subst, arith, ⊎_elim}
use Rattle.std.specs.List.{Contains, filter}
use Rattle.std.specs.List.Sorted.{IsPermutation}
use Rattle.std.proofs.lemmas.Bool.{false≢true}
use Rattle.std.proofs.lemmas.List.Elements.{Contains-append_left, Contains-append_right, Contains-append_cases}
use Rattle.std.proofs.lemmas.List.Sorted.{IsPermutation-refl, IsPermutation-sym, IsPermutation-cons, IsPermutation-trans, IsPermutation-middle}
use Rattle.qs_index.specs.inner.Entry.{IsBeforeAll, IsAscending}
use Rattle.qs_index.proofs.EntryEdits.{not_before_itself}
use Rattle.qs_index.proofs.Members.{head_or_tail, before_member, here, there}

-- no entry stands twice
abbrev pub IsDistinct : List (List ℕ) → Type 0
IsDistinct [] = Unit {0}
IsDistinct (x ∷ xs) = (Contains xs x → ⊥) × IsDistinct xs

pub IsDistinct-ascending : (xs : List (List ℕ)) → IsAscending xs → IsDistinct xs
IsDistinct-ascending [] u = tt
IsDistinct-ascending (x ∷ xs) u =
    (λ c. false≢true (sym (not_before_itself x) ∙ before_member x xs x u.0 c), IsDistinct-ascending xs u.1)

pub nothing_in_nil : (x : List ℕ) → Contains [] x → ⊥
nothing_in_nil x c = omega (arith, c.1)

-- the members that pass a test
pub member_of_filter : (p : List ℕ → Bool) (y : List ℕ) (xs : List (List ℕ)) → Contains (filter p xs) y → Contains xs y × (p y ≡ true)
member_of_filter p y [] c = absurd (nothing_in_nil y c)
member_of_filter p y (x ∷ xs) c = at_test (p x) refl (λ t. member_of_filter p y xs t) c
  where
    at_test : (b : Bool) → p x ≡ b → (Contains (filter p xs) y → Contains xs y × (p y ≡ true)) → Contains (cond b (x ∷ filter p xs) (filter p xs)) y → Contains (x ∷ xs) y × (p y ≡ true)
    at_test true e i c =
        ⊎_elim (λ s. (subst (Contains (x ∷ xs)) s (here x xs), subst (λ r. p r ≡ true) s e)) (λ t. let m = i t in (there x y xs m.0, m.1)) (head_or_tail x (filter p xs) y c)
    at_test false e i c = let m = i c in (there x y xs m.0, m.1)

pub filter_has : (p : List ℕ → Bool) (y : List ℕ) (xs : List (List ℕ)) → Contains xs y → p y ≡ true → Contains (filter p xs) y
filter_has p y [] c h = absurd (nothing_in_nil y c)
filter_has p y (x ∷ xs) c h = at_test (p x) refl (λ t. filter_has p y xs t h)
  where
    at_test : (b : Bool) → p x ≡ b → (Contains xs y → Contains (filter p xs) y) → Contains (cond b (x ∷ filter p xs) (filter p xs)) y
    at_test true e i =
        ⊎_elim (λ s. subst (Contains (x ∷ filter p xs)) s (here x (filter p xs))) (λ t. there x y (filter p xs) (i t)) (head_or_tail x xs y c)
    at_test false e i =
        ⊎_elim (λ s. absurd (false≢true (sym e ∙ ap p s ∙ h))) (λ t. i t) (head_or_tail x xs y c)

pub IsDistinct-filter : (p : List ℕ → Bool) (xs : List (List ℕ)) → IsDistinct xs → IsDistinct (filter p xs)
IsDistinct-filter p [] u = tt
IsDistinct-filter p (x ∷ xs) u = at_test (p x) (IsDistinct-filter p xs u.1)
  where
    at_test : (b : Bool) → IsDistinct (filter p xs) → IsDistinct (cond b (x ∷ filter p xs) (filter p xs))
    at_test true i = (λ c. u.0 (member_of_filter p x xs c).0, i)
    at_test false i = i

before_all_filter : (p : List ℕ → Bool) (x : List ℕ) (xs : List (List ℕ)) → IsBeforeAll x xs → IsBeforeAll x (filter p xs)
before_all_filter p x [] u = tt
before_all_filter p x (y ∷ ys) u = at_test (p y) (before_all_filter p x ys u.1)
  where
    at_test : (b : Bool) → IsBeforeAll x (filter p ys) → IsBeforeAll x (cond b (y ∷ filter p ys) (filter p ys))
    at_test true i = (u.0, i)
    at_test false i = i

pub IsAscending-filter : (p : List ℕ → Bool) (xs : List (List ℕ)) → IsAscending xs → IsAscending (filter p xs)
IsAscending-filter p [] u = tt
IsAscending-filter p (x ∷ xs) u = at_test (p x) (IsAscending-filter p xs u.1)
  where
    at_test : (b : Bool) → IsAscending (filter p xs) → IsAscending (cond b (x ∷ filter p xs) (filter p xs))
    at_test true i = (before_all_filter p x xs u.0, i)
    at_test false i = i

-- the members of a list of results
pub member_of_map : (f : List ℕ → List ℕ) (y : List ℕ) (xs : List (List ℕ)) → Contains (map f xs) y → (x : List ℕ) × Contains xs x × (f x ≡ y)
member_of_map f y [] c = absurd (nothing_in_nil y c)
member_of_map f y (x ∷ xs) c =
    ⊎_elim (λ s. (x, here x xs, s)) (λ t. let m = member_of_map f y xs t in (m.0, there x m.0 xs m.1, m.2)) (head_or_tail (f x) (map f xs) y c)

pub map_has : (f : List ℕ → List ℕ) (x : List ℕ) (xs : List (List ℕ)) → Contains xs x → Contains (map f xs) (f x)
map_has f x [] c = absurd (nothing_in_nil x c)
map_has f x (y ∷ ys) c =
    ⊎_elim (λ s. subst (λ r. Contains (f y ∷ map f ys) (f r)) s (here (f y) (map f ys))) (λ t. there (f y) (f x) (map f ys) (map_has f x ys t)) (head_or_tail y ys x c)

pub IsDistinct-map : (f g : List ℕ → List ℕ) → ((x : List ℕ) → g (f x) ≡ x) → (xs : List (List ℕ)) → IsDistinct xs → IsDistinct (map f xs)
IsDistinct-map f g back [] u = tt
IsDistinct-map f g back (x ∷ xs) u =
    (λ c. let m = member_of_map f (f x) xs c in u.0 (subst (Contains xs) (sym (back m.0) ∙ ap g m.2 ∙ back x) m.1), IsDistinct-map f g back xs u.1)

pub map-map : (f g : List ℕ → List ℕ) → ((x : List ℕ) → g (f x) ≡ x) → (xs : List (List ℕ)) → map g (map f xs) ≡ xs
map-map f g back [] = refl
map-map f g back (x ∷ xs) = ap (λ r. r ∷ map g (map f xs)) (back x) ∙ ap (λ r. x ∷ r) (map-map f g back xs)

-- a member stands between two parts of its list
pub parts_at : (y : List ℕ) (xs : List (List ℕ)) → Contains xs y → (front : List (List ℕ)) × ((back : List (List ℕ)) × (xs ≡ front ++ y ∷ back))
parts_at y [] c = absurd (nothing_in_nil y c)
parts_at y (x ∷ xs) c =
    ⊎_elim (λ s. ([], (xs, ap (λ r. r ∷ xs) s))) (λ t. let m = parts_at y xs t in (x ∷ m.0, (m.1.0, ap (λ r. x ∷ r) m.1.1))) (head_or_tail x xs y c)

distinct_parts : (x : List ℕ) (front back : List (List ℕ)) → IsDistinct (front ++ x ∷ back) → IsDistinct (front ++ back) × (Contains (front ++ back) x → ⊥)
distinct_parts x [] back u = (u.1, u.0)
distinct_parts x (y ∷ front) back u =
    let i = distinct_parts x front back u.1 in
    let other : y ≢ x = λ s. u.0 (subst (Contains (front ++ x ∷ back)) (sym s) (Contains-append_right front (x ∷ back) x (here x back))) in
    let new : Contains (front ++ back) y → ⊥ = λ c. u.0 (⊎_elim (λ a. Contains-append_left front (x ∷ back) y a) (λ b. Contains-append_right front (x ∷ back) y (there x y back b)) (Contains-append_cases front back y c)) in
    ((new, i.0), λ c. ⊎_elim other i.1 (head_or_tail y (front ++ back) x c))

member_of_parts : (x y : List ℕ) (front back : List (List ℕ)) → Contains (front ++ x ∷ back) y → (x ≢ y) → Contains (front ++ back) y
member_of_parts x y front back c n =
    ⊎_elim (λ a. Contains-append_left front back y a) (λ b. Contains-append_right front back y (⊎_elim (λ s. absurd (n s)) (λ t. t) (head_or_tail x back y b))) (Contains-append_cases front (x ∷ back) y c)

parts_have : (x y : List ℕ) (front back : List (List ℕ)) → Contains (front ++ back) y → Contains (front ++ x ∷ back) y
parts_have x y front back c =
    ⊎_elim (λ a. Contains-append_left front (x ∷ back) y a) (λ b. Contains-append_right front (x ∷ back) y (there x y back b)) (Contains-append_cases front back y c)

-- two lists without repeats and with the same members have the same entries
pub IsPermutation-distinct : (xs ys : List (List ℕ)) → IsDistinct xs → IsDistinct ys → ((x : List ℕ) → Contains xs x → Contains ys x) → ((x : List ℕ) → Contains ys x → Contains xs x) → IsPermutation xs ys
IsPermutation-distinct [] [] u v to from = IsPermutation-refl []
IsPermutation-distinct [] (y ∷ ys) u v to from = absurd (nothing_in_nil y (from y (here y ys)))
IsPermutation-distinct (x ∷ xs) ys u v to from =
    let parts = parts_at x ys (to x (here x xs)) in
    let front = parts.0 in
    let back = parts.1.0 in
    let w = distinct_parts x front back (subst IsDistinct parts.1.1 v) in
    let to' : (y : List ℕ) → Contains xs y → Contains (front ++ back) y = λ y c. member_of_parts x y front back (subst (λ r. Contains r y) parts.1.1 (to y (there x y xs c))) (λ s. u.0 (subst (Contains xs) (sym s) c)) in
    let from' : (y : List ℕ) → Contains (front ++ back) y → Contains xs y = λ y c. ⊎_elim (λ s. absurd (w.1 (subst (Contains (front ++ back)) (sym s) c))) (λ t. t) (head_or_tail x xs y (from y (subst (λ r. Contains r y) (sym parts.1.1) (parts_have x y front back c)))) in
    let i = IsPermutation-distinct xs (front ++ back) u.1 w.0 to' from' in
    subst (IsPermutation (x ∷ xs)) (sym parts.1.1)
    (IsPermutation-trans (x ∷ xs) (x ∷ (front ++ back)) (front ++ x ∷ back) (IsPermutation-cons x xs (front ++ back) i) (IsPermutation-sym _ _ (IsPermutation-middle front x back)))

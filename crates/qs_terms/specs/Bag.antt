-- Lists as bags and as sets (SPARQL 1.1 Query, 18: solutions form a multiset).
use Rattle.std.specs.Prelude.{◌≡◌, Bool, false, not, List, [], ◌∷◌, ◌++◌, if◌then◌else◌}
use Rattle.std.specs.List.{filter, list_any}
use Rattle.std.specs.List.Sorted.{IsPermutation}

-- every element stands equally often in both: one is a permutation of the other. Of quads the law
-- `same_bag_by_counts` says that the two are one
abbrev pub SameBag : {X : Type 0} → List X → List X → Type 0
SameBag xs ys = IsPermutation xs ys

-- no element stands twice
abbrev pub Distinct : {X : Type 0} → (X → X → Bool) → List X → Type 0
Distinct same [] = Unit {0}
Distinct same (x ∷ xs) = (list_any (same x) xs ≡ false) × Distinct same xs

-- the elements by their first occurrences, each once
abbrev pub once : {X : Type 0} → (X → X → Bool) → List X → List X
once same [] = []
once same (x ∷ xs) = x ∷ filter (λ y. not (same x y)) (once same xs)

-- the list with this element at its end, where it is new
abbrev pub with_new : {X : Type 0} → (X → X → Bool) → List X → X → List X
with_new same xs x = if list_any (same x) xs then xs else xs ++ x ∷ []

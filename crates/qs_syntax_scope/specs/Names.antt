-- Names of variables and labels of blank nodes, by their bytes: `?x` and `$x` are one variable.
use Rattle.std.specs.Prelude.{ℕ, Bool, true, ◌&&◌, not, List, [], ◌∷◌, nat_eq}
use Rattle.std.specs.List.{list_any, flat_map}
use Rattle.std.specs.Cmp.Lexicographic.{pointwise}

abbrev pub Name : Type 0
Name = List ℕ

-- whether the name is among them
abbrev pub contains : List Name → Name → Bool
contains names name = list_any (λ one. pointwise nat_eq one name) names

-- no name stands twice in the list
abbrev pub are_distinct : List Name → Bool
are_distinct [] = true
are_distinct (name ∷ names) = not (contains names name) && are_distinct names

-- no name stands in two of the lists
abbrev pub are_apart : List (List Name) → Bool
are_apart [] = true
are_apart (run ∷ runs) = not (list_any (list_any (contains run)) runs) && are_apart runs

-- one list after another
abbrev pub joined : {X : Type 0} → List (List X) → List X
joined lists = flat_map (λ xs. xs) lists

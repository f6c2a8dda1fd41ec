-- The operators of the algebra on lists of solutions (SPARQL 1.1 Query, 18.5). Counts multiply.
use Rattle.std.specs.Prelude.{Bool, not, ◌&&◌, List, [], ◌∷◌, map}
use Rattle.std.specs.List.{filter, flat_map, list_any}
use Rattle.qs_algebra_solutions.specs.Solution.{Solution, compatible, merge, share}

-- a with each solution that it is compatible with
abbrev pub merges : List Solution → Solution → List Solution
merges right a = map (merge a) (filter (compatible a) right)

-- Join
abbrev pub join : List Solution → List Solution → List Solution
join left right = flat_map (merges right) left

-- a alone, where there are none
abbrev pub or_alone : Solution → List Solution → List Solution
or_alone a [] = a ∷ []
or_alone a (m ∷ ms) = m ∷ ms

-- LeftJoin: the merges for which the condition holds, or a alone where there are none
abbrev pub left_join : (Solution → Bool) → List Solution → List Solution → List Solution
left_join holds left right = flat_map (λ a. or_alone a (filter holds (merges right a))) left

-- b takes a away: both are compatible and share a bound variable
abbrev pub excludes : Solution → Solution → Bool
excludes a b = compatible a b && share a b

-- Minus
abbrev pub minus : List Solution → List Solution → List Solution
minus left right = filter (λ a. not (list_any (excludes a) right)) left

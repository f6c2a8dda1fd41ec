-- Some of the solutions of a pattern, where so many suffice.
use Rattle.std.specs.Prelude.{◌≡◌, ◌⊎◌, ℕ, Bool, true, false, nat_le, List, [], ◌++◌, length, map}
use Rattle.std.specs.Prelude.{Option, Some, None}
use Rattle.qs_terms.specs.Bag.{SameBag, once}
use Rattle.qs_algebra_solutions.specs.Solution.{Solution, projected, same_solution}

-- whether n are as many as suffice; where nothing is said, all are wanted
abbrev pub is_enough : Option ℕ → ℕ → Bool
is_enough None n = false
is_enough (Some most) n = nat_le most n

-- the rows are among all solutions, and are all of them unless they suffice
abbrev pub AreSome : Option ℕ → List Solution → List Solution → Type 0
AreSome most rows all = (rest : List Solution) × SameBag all (rows ++ rest)
    × ((rest ≡ []) ⊎ (is_enough most (length rows) ≡ true))

-- the rows are the terms of these variables in some of all solutions, each once, and those of all
-- solutions unless they suffice (SPARQL 1.1 Query, 18.5: Project and Distinct)
abbrev pub AreSomeDistinct : List ℕ → Option ℕ → List Solution → List Solution → Type 0
AreSomeDistinct columns most rows all =
    (some rest : List Solution) × SameBag all (some ++ rest)
    × (rows ≡ once same_solution (map (projected columns) some))
    × ((rest ≡ []) ⊎ (is_enough most (length rows) ≡ true))

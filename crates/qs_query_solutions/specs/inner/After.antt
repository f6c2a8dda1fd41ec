-- Some of the solutions of a pattern, without the first ones.
use Rattle.std.specs.Prelude.{◌≡◌, ℕ, List, drop, map, Option, Some, None}
use Rattle.qs_algebra_solutions.specs.Solution.{Solution, projected}
use Rattle.qs_algebra_solutions.specs.inner.Some.{AreSome}

-- the terms of these variables alone, where some are given
abbrev pub projected_if : Option (List ℕ) → Solution → Solution
projected_if None m = m
projected_if (Some columns) m = projected columns m

-- the rows are the terms of these variables in the solutions after the first `offset` of some, of
-- which so many suffice (SPARQL 1.1 Query,
-- 18.5: Project and Slice)
abbrev pub AreSomeAfter : Option (List ℕ) → ℕ → Option ℕ → List Solution → List Solution → Type 0
AreSomeAfter columns offset most rows all =
    (some : List Solution) × AreSome most some all
    × (rows ≡ map (projected_if columns) (drop offset some))

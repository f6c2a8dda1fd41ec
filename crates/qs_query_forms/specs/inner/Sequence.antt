-- Definitions over those of `Sequence`, for proofs and the layers between.
use Rattle.std.specs.Prelude.{ℕ, Bool, List, take, Option, if◌then◌else◌}
use Rattle.std.specs.Option.{option_map_or}
use Rattle.qs_terms.specs.Bag.{once}
use Rattle.qs_algebra_solutions.specs.Solution.{Solution, same_solution}

-- where duplicates are eliminated, the first occurrences; else all
abbrev pub once_where : Bool → List Solution → List Solution
once_where distinct rows = if distinct then once same_solution rows else rows

-- LIMIT
abbrev pub limited : {X : Type 0} → Option ℕ → List X → List X
limited limit xs = option_map_or (λ n. take n xs) limit xs

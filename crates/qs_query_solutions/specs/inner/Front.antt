-- Solutions with terms of their own, variable by variable.
use Rattle.std.specs.Prelude.{ℕ, zero, suc, [], ◌∷◌, Option, None, Some, slice_set}
use Rattle.qs_terms.specs.declared.term.Term.{Term}
use Rattle.qs_algebra_solutions.specs.Solution.{Solution, unbound}

-- n variables, of which the first i are bound as in m, and the others are unbound
abbrev pub front : ℕ → ℕ → Solution → Solution
front zero n m = unbound n
front (suc i) zero m = []
front (suc i) (suc n) [] = unbound (suc n)
front (suc i) (suc n) (t ∷ m) = t ∷ front i n m

-- m with the variable bound to the term, if there is one
abbrev pub with_term : Solution → ℕ → Option Term → Solution
with_term m v None = m
with_term m v (Some t) = slice_set m v (Some t)

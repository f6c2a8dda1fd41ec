use Rattle.std.proofs.Common.{◌≡◌, [], ◌∷◌, map, take, Some}
use Rattle.qs_plan.proofs.fixes.rows_of.Given as goal

abbrev pub invariant-loop-term : goal.invariant-loop-term
invariant-loop-term l = l.rows ≡ map (λ t. Some t ∷ []) (take l.term-index l.terms)

use Rattle.std.proofs.Common.{◌≡◌, ◌∷◌, None, map, take, fold, slice_get}
use Rattle.qs_syntax_limits.specs.Large as spec
use Rattle.qs_syntax_limits.specs.inner.Parts.{first, further, addend, operand}
use Rattle.qs_syntax_limits.proofs.expression.+expression.Given as goal

abbrev pub invariant-in_expressions-loop-tree : goal.invariant-in_expressions-loop-tree
invariant-in_expressions-loop-tree l = l.found ≡ fold (further spec.expression) None (take l.tree-index l.all)

abbrev pub invariant-in_operands-loop-operand : goal.invariant-in_operands-loop-operand
invariant-in_operands-loop-operand l =
    l.found ≡ fold (further (λ x. (operand x).rows)) (slice_get (map (λ x. (operand x).place) l.all) spec.limit) (take l.operand-index l.all)

abbrev pub invariant-in_sum-loop-addend : goal.invariant-in_sum-loop-addend
invariant-in_sum-loop-addend l =
    l.found ≡ fold (further (λ x. (addend x).rows)) (first (slice_get (l.fn.start ∷ map (λ x. (addend x).place) l.rest) spec.limit) l.fn.within) (take l.addend-index l.rest)

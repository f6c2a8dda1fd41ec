use Rattle.std.proofs.Common.{◌≡◌, map, take, fold, slice_get}
use Rattle.qs_syntax_limits.specs.Large as spec
use Rattle.qs_syntax_limits.specs.inner.Parts.{further, path_operand}
use Rattle.qs_syntax_limits.proofs.path.+path.Given as goal

abbrev pub invariant-in_operands-loop-operand : goal.invariant-in_operands-loop-operand
invariant-in_operands-loop-operand l =
    l.found ≡ fold (further (λ x. (path_operand x).rows)) (slice_get (map (λ x. (path_operand x).place) l.all) spec.limit) (take l.operand-index l.all)

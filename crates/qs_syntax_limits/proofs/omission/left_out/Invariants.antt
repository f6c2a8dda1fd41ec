use Rattle.std.proofs.Common.{◌≡◌, length}
use Rattle.qs_syntax_limits.specs.LeftOut as spec
use Rattle.qs_syntax_limits.proofs.omission.left_out.Given as goal

abbrev pub invariant-loop-left : goal.invariant-loop-left
invariant-loop-left l = spec.left_out l.text l.left ≡ spec.left_out l.text l.initial.left

abbrev pub decreases-loop-left : goal.decreases-loop-left
decreases-loop-left l = length l.left

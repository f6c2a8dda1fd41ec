use Rattle.std.proofs.Common.{◌≡◌, ◌≤◌, length}
use Rattle.qs_syntax_limits.specs.Brackets as spec
use Rattle.qs_syntax_limits.proofs.bracket.brackets.Given as goal

abbrev pub invariant-loop-left : goal.invariant-loop-left
invariant-loop-left l = (l.count ≤ spec.limit) × (spec.brackets_after l.count l.left ≡ spec.brackets l.fn.tokens)

abbrev pub decreases-loop-left : goal.decreases-loop-left
decreases-loop-left l = length l.left

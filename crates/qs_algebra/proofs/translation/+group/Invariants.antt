use Rattle.std.proofs.Common.{◌≡◌, map, take}
use Rattle.qs_algebra.specs.Translation.{group_pattern}
use Rattle.qs_algebra.specs.inner.Translation.{step_of}
use Rattle.qs_algebra.proofs.translation.+group.Given as goal

abbrev pub invariant-operands-loop-group : goal.invariant-operands-loop-group
invariant-operands-loop-group l = l.parts ≡ map (group_pattern l.names) (take l.group-index l.groups)

abbrev pub invariant-steps-loop-pattern : goal.invariant-steps-loop-pattern
invariant-steps-loop-pattern l = l.steps ≡ map (step_of l.names) (take l.pattern-index l.patterns)

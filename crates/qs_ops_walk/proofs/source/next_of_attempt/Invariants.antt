use Rattle.std.proofs.Common.{◌≡◌, length}
use Rattle.qs_ops_walk.specs.inner.Setting.{known_of}
use Rattle.qs_ops_walk.specs.inner.Coming.{attempted, FitsAttempt}
use Rattle.qs_ops_walk.proofs.source.next_of_attempt.Given as goal

-- the merges that were passed don't meet the conditions
abbrev pub invariant-loop-row : goal.invariant-loop-row
invariant-loop-row g l = record {
  rows : attempted l.reader l.scratch l.fn.attempt ≡ attempted l.reader l.scratch l.attempt;
  fits : FitsAttempt (known_of l.reader) l.scratch l.attempt;
}

abbrev pub decreases-loop-row : goal.decreases-loop-row
decreases-loop-row g l = length l.attempt.probe

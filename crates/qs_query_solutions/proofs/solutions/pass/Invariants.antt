use Rattle.std.proofs.Common.{◌≤◌, ◌-◌}
use Rattle.qs_query_solutions.proofs.Coming.{IsPassing}
use Rattle.qs_query_solutions.proofs.solutions.pass.Given as goal

abbrev pub invariant-loop-passed : goal.invariant-loop-passed
invariant-loop-passed g l = record {
  passing : IsPassing l.fn.op.rows l.passed l.op.rows;
  few : l.passed ≤ l.count;
}

abbrev pub decreases-loop-passed : goal.decreases-loop-passed
decreases-loop-passed g l = l.count - l.passed

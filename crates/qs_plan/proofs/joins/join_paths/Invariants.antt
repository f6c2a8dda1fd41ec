use Rattle.std.proofs.Common.{◌≤◌, ◌+◌, map, take}
use Rattle.qs_plan.specs.inner.Joins.{JoinedAll}
use Rattle.qs_plan.specs.inner.Numbers.{path_of}
use Rattle.qs_plan.proofs.joins.join_paths.Given as goal

abbrev pub invariant-loop-path : goal.invariant-loop-path
invariant-loop-path l = record {
  up : l.start + l.hidden ≤ l.next;
  joined : JoinedAll l.look (l.start + l.hidden) l.next l.stages (map (path_of l.width l.hidden l.start) (take l.path-index l.paths));
}

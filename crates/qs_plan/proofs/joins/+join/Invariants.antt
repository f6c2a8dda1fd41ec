use Rattle.std.proofs.Common.{◌≡◌, ◌≤◌, ◌<◌, length, take}
use Rattle.qs_plan.specs.inner.Joins.{AllJoined, Leading}
use Rattle.qs_plan.proofs.joins.+join.Given as goal

abbrev pub invariant-join_either-loop-part : goal.invariant-join_either-loop-part
invariant-join_either-loop-part l = record {
  up : l.from ≤ l.next;
  joined : AllJoined l.look l.from l.next l.subject l.object l.branches (take l.part-index l.parts);
}

abbrev pub invariant-join_each-loop-part : goal.invariant-join_each-loop-part
invariant-join_each-loop-part l = record {
  is_count : l.count ≡ l.part-index;
  some : 0 < length l.parts → l.part-index < length l.parts;
  leading : Leading l.look l.from l.subject (take l.part-index l.parts) l.stages l.left l.next;
}

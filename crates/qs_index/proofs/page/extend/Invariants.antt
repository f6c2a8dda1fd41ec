use Rattle.std.proofs.Common.{◌≤◌, ◌-◌, length, vec_capacity}
use Rattle.qs_index.proofs.Extending.{IsExtending}
use Rattle.qs_index.proofs.page.extend.Given as goal

abbrev pub invariant-loop-read : goal.invariant-loop-read
invariant-loop-read l = record {
  extending : IsExtending l.fn.last l.fn.list.items l.entries l.read l.last l.list.items;
  capacity : vec_capacity l.fn.list ≤ vec_capacity l.list;
}

abbrev pub decreases-loop-read : goal.decreases-loop-read
decreases-loop-read l = length l.entries - l.read

use Rattle.std.proofs.Common.{◌-◌, ◌≤◌, take, length}
use Rattle.qs_index.specs.inner.Entries.{IsDifference}
use Rattle.qs_index.proofs.order.Order.remove_all.Given as goal

abbrev pub decreases-loop-done : goal.decreases-loop-done
decreases-loop-done l = length l.entries - l.done

abbrev pub invariant-loop-done : goal.invariant-loop-done
invariant-loop-done l = record {
  within : l.done ≤ length l.entries;
  spare : l.fn.self.spare ≤ l.self.spare;
  difference : IsDifference l.fn.self.entries (take l.done l.entries) l.self.entries;
}

use Rattle.std.proofs.Common.{◌+◌, ◌≤◌, take}
use Rattle.qs_index.specs.inner.Entries.{IsUnion}
use Rattle.qs_index.proofs.order.Order.insert_each.Given as goal

abbrev pub invariant-loop-entry : goal.invariant-loop-entry
invariant-loop-entry l = record {
  spare : l.fn.self.spare ≤ l.self.spare + l.entry-index;
  union : IsUnion l.fn.self.entries (take l.entry-index l.entries) l.self.entries;
}

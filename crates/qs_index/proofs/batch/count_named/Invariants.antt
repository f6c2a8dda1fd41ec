use Rattle.std.proofs.Common.{◌≡◌, ◌≤◌, length, take}
use Rattle.qs_index.specs.inner.Graph.{named_entries}
use Rattle.qs_index.proofs.batch.count_named.Given as goal

abbrev pub invariant-loop-i : goal.invariant-loop-i
invariant-loop-i l = record {
  within : l.count ≤ l.i;
  counted : l.count ≡ length (named_entries (take l.i l.entries));
}

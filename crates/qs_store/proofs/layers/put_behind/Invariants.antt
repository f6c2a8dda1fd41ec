use Rattle.std.proofs.Common.{◌≡◌, ◌++◌}
use Rattle.qs_store.proofs.layers.put_behind.Given as goal

abbrev pub invariant-loop-entry : goal.invariant-loop-entry
invariant-loop-entry l = record {
  whole : l.yielded ++ l.entry-iterator.rest ≡ l.fn.index.entries;
  done : l.list.items ≡ l.fn.list.items ++ l.yielded;
}

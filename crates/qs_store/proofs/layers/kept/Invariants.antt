use Rattle.std.proofs.Common.{◌≡◌, ◌++◌, []}
use Rattle.qs_store.specs.inner.Layers.{drafted}
use Rattle.qs_store.proofs.layers.kept.Given as goal

abbrev pub invariant-loop-entry : goal.invariant-loop-entry
invariant-loop-entry l = record {
  whole : l.yielded ++ l.entry-iterator.rest ≡ l.fn.index.entries;
  done : l.kept.items ≡ drafted l.yielded l.removed.entries [];
}

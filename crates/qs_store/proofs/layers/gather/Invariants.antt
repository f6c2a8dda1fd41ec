use Rattle.std.proofs.Common.{◌≤◌, take}
use Rattle.qs_store.specs.inner.Missing.{IsMissing}
use Rattle.qs_store.specs.inner.Layers.{IsPartOf}
use Rattle.qs_store.proofs.layers.gather.Given as goal

abbrev pub invariant-loop-entry : goal.invariant-loop-entry
invariant-loop-entry l = record {
  part : IsPartOf (take l.entry-index l.entries) (take l.count l.batch) (IsMissing l.index.entries l.removed.entries);
  within : l.count ≤ l.entry-index;
}

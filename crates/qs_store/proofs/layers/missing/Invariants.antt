use Rattle.std.proofs.Common.{take}
use Rattle.qs_store.specs.inner.Missing.{MayBeMissing}
use Rattle.qs_store.specs.inner.Layers.{IsPartOf}
use Rattle.qs_store.proofs.layers.missing.Given as goal

abbrev pub invariant-loop-entry : goal.invariant-loop-entry
invariant-loop-entry l = IsPartOf (take l.entry-index l.entries) l.part.items (MayBeMissing l.index.entries l.removed.entries l.taken)

use Rattle.std.proofs.Common.{Contains, take}
use Rattle.qs_store.specs.inner.Layers.{IsPartOf}
use Rattle.qs_store.proofs.layers.standing.Given as goal

abbrev pub invariant-loop-entry : goal.invariant-loop-entry
invariant-loop-entry l = IsPartOf (take l.entry-index l.entries) l.part.items (Contains l.index.entries)

use Rattle.std.proofs.Common.{take}
use Rattle.qs_store.specs.inner.Copied.{AreInGraphs}
use Rattle.qs_store.proofs.layers.Layers.draft_named.Given as goal

abbrev pub invariant-loop-graph : goal.invariant-loop-graph
invariant-loop-graph l = AreInGraphs l.self.draft (take l.graph-index l.graph-items) l.found.items

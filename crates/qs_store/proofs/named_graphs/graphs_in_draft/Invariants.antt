use Rattle.std.proofs.Common.{◌-◌, ◌^◌}
use Rattle.qs_store.specs.inner.Holding.{AreGraphsUpTo}
use Rattle.qs_store.specs.inner.Layers.{drafted}
use Rattle.qs_store.proofs.named_graphs.graphs_in_draft.Given as goal

abbrev pub invariant-graphs : goal.invariant-graphs
invariant-graphs l = AreGraphsUpTo (drafted l.index.entries l.removed.entries l.added.entries) l.after l.graphs.items

abbrev pub decreases-graphs : goal.decreases-graphs
decreases-graphs l = 2 ^ 32 - l.after

use Rattle.std.proofs.Common.{◌-◌, ◌^◌}
use Rattle.qs_store.specs.inner.Holding.{AreGraphsUpTo}
use Rattle.qs_store.proofs.named_graphs.graphs_in.Given as goal

abbrev pub invariant-graphs : goal.invariant-graphs
invariant-graphs l = AreGraphsUpTo l.index.entries l.after l.graphs.items

abbrev pub decreases-graphs : goal.decreases-graphs
decreases-graphs l = 2 ^ 32 - l.after

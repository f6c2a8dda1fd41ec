use Rattle.std.proofs.Common.{refl, sym, subst}
use Rattle.qs_store.specs.inner.Emptied.{AreOut}
use Rattle.qs_store.specs.declared.graphs.Graphs.TheVariants.{One}
use Rattle.qs_store.proofs.Out.{named_graph_out, noted_out}
use Rattle.qs_store.proofs.emptied_graphs.is_out.Goals as goal

pub returns-then-graph-eq0 : goal.returns-then-graph-eq0
returns-then-graph-eq0 c =
    λ h. subst (λ g. AreOut (One g) c.args.index.now.entries c.args.removed.now.entries) (sym c.if-graph-eq0.true) (c.is_default_out.ensures h)

pub returns-then-is_named_out : goal.returns-then-is_named_out
returns-then-is_named_out c =
    λ h. named_graph_out c.args.graph c.args.index.now.entries c.args.removed.now.entries c.if-graph-eq0.false (c.if-is_named_out.ensures refl)

pub returns-else-is_named_out : goal.returns-else-is_named_out
returns-else-is_named_out c =
    λ h. noted_out c.args.graph c.args.index.now.entries c.args.removed.now.entries c.args.emptied.now c.requires.emptied (c.contains.ensures.0 h)

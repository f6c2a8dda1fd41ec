use Rattle.std.proofs.Common.{[], ◌∷◌, arith, sym, subst}
use Rattle.qs_index.specs.inner.Entries.{IsUnion}
use Rattle.qs_index.specs.inner.Entry.{beginning}
use Rattle.qs_index.specs.inner.Named.{AreNamedOf}
use Rattle.qs_index.proofs.GraphParts.{AreNamedOf-with_default, AreNamedOf-with_graph}
use Rattle.qs_index.proofs.named.Named.insert_graph.Goals as goal

pub returns-then-graph-eq0-clause-orders : goal.returns-then-graph-eq0-clause-orders
returns-then-graph-eq0-clause-orders c =
    λ xs ys four s p o u a.
    AreNamedOf-with_default _ xs c.args.gspo.now.entries ys (subst (λ g. IsUnion xs (beginning (g ∷ []) c.args.gspo.now.entries) ys) (omega arith) u) a

pub returns-clause-orders : goal.returns-clause-orders
returns-clause-orders c =
    λ xs ys four s p o u a.
    AreNamedOf-with_graph _ _ c.args.graph xs c.args.gspo.now.entries ys c.args.gpos.now.entries c.args.gosp.now.entries (omega arith) four s p o c.insert_graph_last.ensures.union c.insert_graph_last-2.ensures.union c.insert_graph_last-3.ensures.union u (subst (AreNamedOf xs) (sym c.self.view_is) a)

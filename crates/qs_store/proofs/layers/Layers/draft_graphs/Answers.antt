use Rattle.std.proofs.Common.{refl, subst}
use Rattle.qs_store.specs.inner.Holding.{AreGraphsOf}
use Rattle.qs_store.proofs.Copied.{found_so}
use Rattle.qs_store.proofs.Out.{graphs_of_added, removal}
use Rattle.qs_store.proofs.layers.Layers.draft_graphs.Goals as goal

pub are_out-requires-clause-removal : goal.are_out-requires-clause-removal
are_out-requires-clause-removal c =
    let s = c.self.inside in
    removal s.index.entries s.removed.entries s.added.entries c.self.invariant.parted

pub returns-then-are_out : goal.returns-then-are_out
returns-then-are_out c =
    let s = c.self.inside in
    found_so (λ graphs. AreGraphsOf s.added.entries graphs.items) (λ graphs. AreGraphsOf c.args.self.now.draft graphs.items) c.graphs_in.result
    (λ graphs h. subst (λ v. AreGraphsOf v.draft graphs.items) c.self.view_is (graphs_of_added s.index.entries s.removed.entries s.added.entries graphs.items (c.if-are_out.ensures refl) h)) c.graphs_in.ensures

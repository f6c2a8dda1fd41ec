use Rattle.std.proofs.Common.{refl, sym, subst}
use Rattle.std.proofs.lemmas.Bool.{false≢true}
use Rattle.qs_store.specs.inner.Holding.{AreGraphsUpTo}
use Rattle.qs_store.specs.inner.Layers.{drafted}
use Rattle.qs_store.proofs.Holding.{up_to_more, up_to_same, all_graphs, next_in_draft, within_draft}
use Rattle.qs_store.proofs.named_graphs.graphs_in_draft.Goals as goal

pub graphs-preserved-in_ok-push : goal.graphs-preserved-in_ok-push
graphs-preserved-in_ok-push c =
    let i = c.args.index.now.entries in
    let r = c.args.removed.now.entries in
    let a = c.args.added.now.entries in
    let after = c.graphs.after in
    let g = c.in-Some.graph in
    subst (AreGraphsUpTo (drafted i r a) g) (sym c.in_ok-push.ensures.items)
    (up_to_more (drafted i r a) after g c.graphs.graphs.items c.graphs.invariant (next_in_draft i r a after g c.in-Some.ensures.next) (c.if-holds.ensures.held refl))

pub graphs-preserved : goal.graphs-preserved
graphs-preserved c =
    let i = c.args.index.now.entries in
    let r = c.args.removed.now.entries in
    let a = c.args.added.now.entries in
    let after = c.graphs.after in
    let g = c.in-Some.graph in
    up_to_same (drafted i r a) after g c.graphs.graphs.items c.graphs.invariant (next_in_draft i r a after g c.in-Some.ensures.next) (λ h. false≢true (c.if-holds.ensures.empty h))

pub returns : goal.returns
returns c =
    let i = c.args.index.now.entries in
    let r = c.args.removed.now.entries in
    let a = c.args.added.now.entries in
    all_graphs (drafted i r a) c.graphs.after c.graphs.graphs.items c.graphs.invariant (within_draft i r a c.graphs.after c.in_default.ensures.none)

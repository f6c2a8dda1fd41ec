use Rattle.std.proofs.Common.{refl, subst}
use Rattle.qs_store.specs.inner.Scans.{AreTriplesOf}
use Rattle.qs_store.proofs.Out.{removal, triples_of_added}
use Rattle.qs_store.proofs.layers.Layers.scan_draft.Goals as goal

pub are_out-requires-clause-removal : goal.are_out-requires-clause-removal
are_out-requires-clause-removal c =
    let s = c.self.inside in
    removal s.index.entries s.removed.entries s.added.entries c.self.invariant.parted

pub returns-then-are_out : goal.returns-then-are_out
returns-then-are_out c =
    let s = c.self.inside in
    let a = c.args in
    subst (λ v. AreTriplesOf a.graphs a.subject a.predicate a.object v.draft c.of_store.result) c.self.view_is
    (triples_of_added a.graphs a.subject a.predicate a.object s.index.entries s.removed.entries s.added.entries c.of_store.result (c.if-are_out.ensures refl) c.of_store.ensures)

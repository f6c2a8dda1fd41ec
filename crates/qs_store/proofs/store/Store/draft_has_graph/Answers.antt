use Rattle.std.proofs.Common.{◌≡◌, true, false, Some, sym, subst}
use Rattle.qs_store.specs.inner.Entries.{said}
use Rattle.qs_store.specs.WholeGraphs.{exists}
use Rattle.qs_store.proofs.Copied.{held_said, no_graph}
use Rattle.qs_store.proofs.store.Store.draft_has_graph.Goals as goal

pub returns-in-None : goal.returns-in-None
returns-in-None c =
    let s = c.self.inside in
    let name = c.args.name.now in
    subst (λ v. false ≡ exists (Some name) v.draft.quads) c.self.view_is (sym (no_graph name (said s.dict.terms s.layers.draft) c.in-None.ensures.empty))

pub returns-in-Some : goal.returns-in-Some
returns-in-Some c =
    let s = c.self.inside in
    let i = c.self.invariant in
    let name = c.args.name.now in
    subst (λ v. true ≡ exists (Some name) v.draft.quads) c.self.view_is
    (sym (held_said s.dict.terms i.distinct s.layers.draft i.known_draft (Some name) c.in-Some.field-0 c.in-Some.ensures.number c.in-Some.ensures.held))

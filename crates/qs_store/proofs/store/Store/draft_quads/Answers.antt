use Rattle.std.proofs.Common.{sym, subst, ◌∙◌}
use Rattle.qs_store.specs.inner.Entries.{AreEntries}
use Rattle.qs_store.proofs.store.Store.draft_quads.Goals as goal

pub quads_of-requires : goal.quads_of-requires
quads_of-requires c =
    let s = c.self.inside in
    let i = c.self.invariant in
    subst (AreEntries s.dict.terms) (sym (c.deref.ensures.value ∙ c.in_ok-entries.ensures)) (i.known_draft)

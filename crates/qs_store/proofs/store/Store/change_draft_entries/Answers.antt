use Rattle.std.proofs.Common.{◌≤◌, IsTrue, sym, subst}
use Rattle.qs_terms.specs.Dataset.{is_above_blanks}
use Rattle.qs_store.specs.Change.{IsChanged}
use Rattle.qs_store.specs.inner.Entries.{AreEntries, said}
use Rattle.qs_store.specs.inner.Store.{IsStore}
use Rattle.qs_store.proofs.References.{entries_changed, said_changed}
use Rattle.qs_store.proofs.Stored.{store_changed}
use Rattle.qs_store.proofs.Terms.{front_refl}
use Rattle.qs_store.proofs.store.Store.change_draft_entries.Goals as goal

pub invariant_of-self-2 : goal.invariant_of-self-2
invariant_of-self-2 c =
    let s = c.self.inside in
    let terms = s.dict.terms in
    let old = s.layers.draft in
    let new = c.change.new.self.draft in
    let outs = c.args.remove.now in
    let ins = c.args.add.now in
    let removed : AreEntries terms outs = subst (λ v. AreEntries v.draft.known outs) (sym c.self.view_is) c.requires.removed in
    let added : AreEntries terms ins = subst (λ v. AreEntries v.draft.known ins) (sym c.self.view_is) c.requires.added in
    subst (λ b. IsStore terms b new s.known s.next c.args.next) (sym c.change.ensures.base)
    (store_changed terms terms s.layers.base old new s.known s.next s.draft_next c.args.next (said terms outs) (said terms ins) c.self.invariant (front_refl terms) c.self.invariant.distinct
    (entries_changed terms old outs ins new c.self.invariant.known_draft added c.in_ok-change.ensures.draft)
    (said_changed terms old outs ins new c.self.invariant.distinct c.self.invariant.known_draft removed c.in_ok-change.ensures.draft)
    (subst (λ v. v.draft.next ≤ c.args.next) (sym c.self.view_is) c.requires.next)
    (subst (λ v. IsTrue (is_above_blanks c.args.next (said v.draft.known ins))) (sym c.self.view_is) c.requires.above))

pub returns-clause-quads : goal.returns-clause-quads
returns-clause-quads c =
    let s = c.self.inside in
    let terms = s.dict.terms in
    let old = s.layers.draft in
    let new = c.change.new.self.draft in
    let outs = c.args.remove.now in
    let ins = c.args.add.now in
    let removed : AreEntries terms outs = subst (λ v. AreEntries v.draft.known outs) (sym c.self.view_is) c.requires.removed in
    subst (λ v. IsChanged v.draft.quads (said v.draft.known outs) (said v.draft.known ins) (said terms new)) c.self.view_is
    (said_changed terms old outs ins new c.self.invariant.distinct c.self.invariant.known_draft removed c.in_ok-change.ensures.draft)

use Rattle.std.proofs.Common.{◌≤◌, [], IsTrue, sym, subst}
use Rattle.qs_terms.specs.Dataset.{is_above_blanks}
use Rattle.qs_store.specs.Change.{IsChanged}
use Rattle.qs_store.specs.inner.Entries.{AreEntries, said}
use Rattle.qs_store.specs.inner.Store.{IsStore}
use Rattle.qs_store.proofs.Loaded.{store_with, said_added}
use Rattle.qs_store.proofs.store.Store.settle_with.Goals as goal

pub invariant_of-self : goal.invariant_of-self
invariant_of-self c =
    let s = c.self.inside in
    subst (λ n. IsStore s.dict.terms c.settle_with.new.self.base c.settle_with.new.self.draft n c.args.next c.args.next) (sym c.len-self-inside.ensures.count)
    (store_with s.dict.terms s.layers.base s.layers.draft c.args.entries.now c.settle_with.new.self.base c.settle_with.new.self.draft s.known s.next s.draft_next c.args.next c.self.invariant
    (subst (λ v. AreEntries v.draft.known c.args.entries.now) (sym c.self.view_is) c.requires.entries) c.in-Ok.ensures.base
    (subst (λ v. v.draft.next ≤ c.args.next) (sym c.self.view_is) c.requires.next)
    (subst (λ v. IsTrue (is_above_blanks c.args.next (said v.draft.known c.args.entries.now))) (sym c.self.view_is) c.requires.above) c.in-Ok.ensures.draft)

pub returns-in-Ok-clause-quads : goal.returns-in-Ok-clause-quads
returns-in-Ok-clause-quads c =
    let s = c.self.inside in
    subst (λ v. IsChanged v.draft.quads [] (said v.draft.known c.args.entries.now) (said s.dict.terms c.settle_with.new.self.base)) c.self.view_is
    (said_added s.dict.terms s.layers.draft c.args.entries.now c.settle_with.new.self.base c.in-Ok.ensures.base)

use Rattle.std.proofs.Common.{sym, subst}
use Rattle.qs_store.specs.inner.Entries.{said}
use Rattle.qs_store.specs.Same.{SameSet}
use Rattle.qs_store.specs.inner.Store.{IsStore}
use Rattle.qs_store.proofs.Stored.{store_settled, said_settled}
use Rattle.qs_store.proofs.store.Store.settle.Goals as goal

pub invariant_of-self : goal.invariant_of-self
invariant_of-self c =
    let s = c.self.inside in
    subst (λ n. IsStore s.dict.terms c.settle.new.self.base c.settle.new.self.draft n s.draft_next s.draft_next) (sym c.len-self-inside.ensures.count)
    (store_settled s.dict.terms s.layers.base s.layers.draft c.settle.new.self.base c.settle.new.self.draft s.known s.next s.draft_next c.self.invariant c.settle.ensures.base c.settle.ensures.draft)

pub returns-clause-quads : goal.returns-clause-quads
returns-clause-quads c =
    let s = c.self.inside in
    subst (λ v. SameSet (said s.dict.terms c.settle.new.self.base) v.draft.quads) c.self.view_is (said_settled s.dict.terms s.layers.draft c.settle.new.self.base c.settle.ensures.base)

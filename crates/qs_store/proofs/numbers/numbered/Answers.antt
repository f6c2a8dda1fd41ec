use Rattle.std.proofs.Common.{◌≡◌, Some, IfOk, OnOk, IfErr, length, subst}
use Rattle.qs_store.specs.Change.{terms_of}
use Rattle.qs_store.specs.inner.Change.{with_terms}
use Rattle.qs_store.specs.inner.Change.{IsFullAt}
use Rattle.qs_store.specs.inner.Entries.{entry_of}
use Rattle.qs_store.proofs.numbers.numbered.Goals as goal

pub numbered_ref-requires : goal.numbered_ref-requires
numbered_ref-requires c = c.quad_ref.ensures.fine c.args.dict.now.terms

pub returns-clause-entry : goal.returns-clause-entry
returns-clause-entry c =
    subst (λ q. IfOk c.numbered_ref.result (λ entry. entry_of c.numbered_ref.new.dict.terms q ≡ Some entry)) (c.quad_ref.ensures.same c.args.dict.now.terms) c.numbered_ref.ensures.entry

pub returns-clause-terms : goal.returns-clause-terms
returns-clause-terms c =
    subst (λ q. OnOk c.numbered_ref.result (c.numbered_ref.new.dict.terms ≡ with_terms c.args.dict.now.terms (terms_of q))) (c.quad_ref.ensures.same c.args.dict.now.terms) c.numbered_ref.ensures.terms

pub returns-clause-full : goal.returns-clause-full
returns-clause-full c =
    subst (λ q. IfErr c.numbered_ref.result (λ fault. IsFullAt fault c.args.dict.now.limit (length (with_terms c.args.dict.now.terms (terms_of q))))) (c.quad_ref.ensures.same c.args.dict.now.terms) c.numbered_ref.ensures.full

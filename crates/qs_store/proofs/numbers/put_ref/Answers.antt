use Rattle.std.proofs.Common.{◌≡◌, Some, sym, subst}
use Rattle.qs_terms.specs.Bag.{with_new}
use Rattle.qs_terms.specs.Term.{same_term}
use Rattle.qs_dict.specs.inner.Dict.{number_of, IsInUse}
use Rattle.qs_store.specs.inner.References.{referred, IsReferred}
use Rattle.qs_store.proofs.References.{known_number, known_again}
use Rattle.qs_store.proofs.numbers.put_ref.Goals as goal

pub returns-in-Known-clause-number : goal.returns-in-Known-clause-number
returns-in-Known-clause-number c = λ known f r.
    let terms = c.args.dict.now.terms in
    let n = c.in-Known.number in
    let used : IsInUse known n = subst (IsReferred known) c.in-Known.is r in
    subst (λ t. number_of terms (referred known t) ≡ Some n) (sym c.in-Known.is) (known_number known terms n f c.len-count.ensures.lawful.distinct used)

pub returns-in-Known-clause-terms : goal.returns-in-Known-clause-terms
returns-in-Known-clause-terms c = λ known f r.
    let terms = c.args.dict.now.terms in
    let n = c.in-Known.number in
    let used : IsInUse known n = subst (IsReferred known) c.in-Known.is r in
    subst (λ t. terms ≡ with_new same_term terms (referred known t)) (sym c.in-Known.is) (known_again known terms n f c.len-count.ensures.lawful.distinct used)

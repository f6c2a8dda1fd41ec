use Rattle.std.proofs.Common.{◌≡◌, ◌<◌, ◌≤◌, ◌-◌, Some, length, get_or, ap, subst, ◌∙◌, arith}
use Rattle.qs_dict.specs.inner.Dict.{term_at, number_of}
use Rattle.qs_dict.proofs.Numbers.{exact_number, term_there}
use Rattle.qs_dict.proofs.dict.Dict.is_numbered.Goals as goal

pub returns-in-Some-get : goal.returns-in-Some-get
returns-in-Some-get c = λ same.
    let terms = c.self.inside.terms.keys in
    let number = c.args.number in
    let own = c.in-Some-get.own.now in
    let some : 1 ≤ number = c.in-Some.ensures.0 in
    let place : c.in-Some.place ≡ number - 1 = c.in-Some.ensures.1 in
    let keys : c.as_slice.result.now ≡ terms = c.as_slice.ensures.keys in
    let within : c.in-Some.place < length terms = subst (λ l. c.in-Some.place < length l) keys c.in-Some-get.ensures.lookup.3.0 in
    let read : own ≡ get_or terms (number - 1) own = c.in-Some-get.ensures.lookup.1 ∙ (ap (λ l. get_or l c.in-Some.place own) keys ∙ ap (λ k. get_or terms k own) place) in
    let there : term_at terms number ≡ Some own = term_there terms number own (omega arith) (omega arith) read in
    subst (λ v. number_of v.terms c.args.term.now ≡ Some number) c.self.view_is
    ((exact_number terms c.args.term.now c.self.invariant.0.distinct number).1 (there ∙ ap Some (c.is_same.ensures.same.0 same)))

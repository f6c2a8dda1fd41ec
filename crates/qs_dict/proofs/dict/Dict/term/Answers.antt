use Rattle.std.proofs.Common.{◌≡◌, ◌≤◌, Some, length, ap}
use Rattle.qs_dict.specs.inner.Dict.{term_at}
use Rattle.qs_dict.proofs.Numbers.{term_there, exact_number}
use Rattle.qs_dict.proofs.dict.Dict.term.Goals as goal

pub returns-clause-term : goal.returns-clause-term
returns-clause-term c =
    let terms = c.self.inside.terms.keys in
    let same : terms ≡ c.args.self.now.terms = ap (λ d. d.terms) c.self.view_is in
    let within : c.args.number ≤ length terms = rw same c.requires.1 in
    rw (← same) (term_there terms c.args.number _ c.requires.0 within (rw c.as_slice.ensures.keys at c.index-as_slice-number.is))

pub returns-clause-found : goal.returns-clause-found
returns-clause-found c =
    let terms = c.self.inside.terms.keys in
    let same : terms ≡ c.args.self.now.terms = ap (λ d. d.terms) c.self.view_is in
    let term = c.index-as_slice-number.result in
    let there : term_at terms c.args.number ≡ Some term = rw same (returns-clause-term c) in
    rw (← same) ((exact_number terms term c.self.invariant.0.distinct c.args.number).1 there)

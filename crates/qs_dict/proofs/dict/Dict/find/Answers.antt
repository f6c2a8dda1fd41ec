use Rattle.std.proofs.Common.{arith, Some, None, add-one, sym, ◌∙◌}
use Rattle.qs_dict.proofs.Numbers.{place_number, exact_number}
use Rattle.qs_dict.proofs.dict.Dict.find.Goals as goal

pub returns-in_err-place-clause-place : goal.returns-in_err-place-clause-place
returns-in_err-place-clause-place c =
    rw (c.from_residual.ensures, ← c.self.view_is) (place_number c.self.inside.terms.keys c.args.term.now None c.in_err-place.ensures.index)

pub returns-in_err-place-clause-exact : goal.returns-in_err-place-clause-exact
returns-in_err-place-clause-exact c n =
    rw (returns-in_err-place-clause-place c, ← c.self.view_is) (exact_number _ _ c.self.invariant.0.distinct n)

pub overflow_cast-result : goal.overflow_cast-result
overflow_cast-result c = omega (arith, c.self.invariant.0.within, c.self.invariant.0.bound, c.in_ok-place.ensures.within)

pub overflow_add-result : goal.overflow_add-result
overflow_add-result c = omega (arith, c.self.invariant.0.within, c.self.invariant.0.bound, c.in_ok-place.ensures.within)

pub returns-clause-place : goal.returns-clause-place
returns-clause-place c =
    rw (← c.self.view_is, add-one c.in_ok-place.place) (place_number c.self.inside.terms.keys c.args.term.now (Some c.in_ok-place.place) c.in_ok-place.ensures.index)

pub returns-clause-exact : goal.returns-clause-exact
returns-clause-exact c n = rw (returns-clause-place c, ← c.self.view_is) (exact_number _ _ c.self.invariant.0.distinct n)

pub returns-in-Some-clause-exact : goal.returns-in-Some-clause-exact
returns-in-Some-clause-exact c n =
    let there = c.in-Some.ensures.number in
    let exact = exact_number c.args.self.now.terms c.args.term.now c.recent.ensures.lawful.distinct n in
    (λ e. exact.0 (there ∙ e), λ e. sym there ∙ exact.1 e)

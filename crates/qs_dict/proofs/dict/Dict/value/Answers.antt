use Rattle.std.proofs.Common.{◌≡◌, ◌≤◌, length, ap}
use Rattle.qs_dict.proofs.Table.{value_there}
use Rattle.qs_dict.proofs.dict.Dict.value.Goals as goal

pub returns : goal.returns
returns c =
    let terms = c.self.inside.terms.keys in
    let same : terms ≡ c.args.self.now.terms = ap (λ d. d.terms) c.self.view_is in
    let within : c.args.number ≤ length terms = rw same c.requires.1 in
    rw (← same, c.as_slice.ensures.value) (value_there terms c.self.inside.values.items c.args.number _ c.self.invariant.1 c.requires.0 within)

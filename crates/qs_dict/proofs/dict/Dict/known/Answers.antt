use Rattle.std.proofs.Common.{sym, ◌∙◌}
use Rattle.qs_dict.proofs.Numbers.{with_known}
use Rattle.qs_dict.proofs.dict.Dict.known.Goals as goal

pub returns-in-Some-clause-same : goal.returns-in-Some-clause-same
returns-in-Some-clause-same c = with_known c.args.self.now.terms c.args.term.now c.in-Some.number (sym c.find.ensures.place ∙ c.in-Some.is)

use Rattle.qs_dict.proofs.Numbers.{with_known}
use Rattle.qs_dict.proofs.dict.Dict.number.Goals as goal

pub returns-in-Some-clause-terms : goal.returns-in-Some-clause-terms
returns-in-Some-clause-terms c = with_known c.args.self.now.terms c.args.term.now c.in-Some.number c.in-Some.ensures.number

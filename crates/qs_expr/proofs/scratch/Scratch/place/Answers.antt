use Rattle.qs_dict.proofs.Numbers.{keys_with}
use Rattle.qs_expr.proofs.Places.{stored_there}
use Rattle.qs_expr.proofs.scratch.Scratch.place.Goals as goal

pub returns-clause-terms : goal.returns-clause-terms
returns-clause-terms c = rw (c.in_ok-place.ensures.keys, ← c.self.view_is) (keys_with c.self.inside.terms.keys c.args.term)

pub returns-clause-place : goal.returns-clause-place
returns-clause-place c = stored_there c.insert_full.new.self.keys c.args.term c.in_ok-place.place c.in_ok-place.ensures.stored

use Rattle.std.proofs.Common.{refl, ◌∙◌, ap}
use Rattle.qs_terms.specs.Bag.{with_new}
use Rattle.qs_terms.specs.Term.{same_term}
use Rattle.qs_dict.proofs.Numbers.{keys_with}
use Rattle.qs_expr.proofs.Hits.{with_term}
use Rattle.qs_expr.proofs.members.Members.put_term.Goals as goal

pub returns-clause-hits : goal.returns-clause-hits
returns-clause-hits c x w v h =
    with_term c.args.self.now (record { integers = c.args.self.now.integers; terms = c.insert.new.self; has_true = c.args.self.now.has_true; has_false = c.args.self.now.has_false; kinds = c.args.self.now.kinds }) c.args.term.now refl refl refl
    (c.in_ok-insert.ensures.keys ∙ (keys_with c.args.self.now.terms.keys c.in_ok-own.own ∙ ap (with_new same_term c.args.self.now.terms.keys) c.in_ok-own.ensures)) x w v h

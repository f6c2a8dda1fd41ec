use Rattle.qs_plan.proofs.Fixed.{new_admits}
use Rattle.qs_plan.proofs.fixes.add_iri.Goals as goal

pub returns-in_ok-add_new-in-Term-clause-list : goal.returns-in_ok-add_new-in-Term-clause-list
returns-in_ok-add_new-in-Term-clause-list c h =
    new_admits c.args.expr.now c.in-Term.term c.args.terms.now c.add_new.new.terms (c.is_iri.ensures c.if-not-is_iri.false) c.in-Term.is c.in_ok-add_new-in-Term.ensures.list

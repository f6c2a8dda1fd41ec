use Rattle.qs_expr_values.specs.inner.Value.{seen}
use Rattle.qs_expr.proofs.Hits.{is_in_more, is_apart_more}
use Rattle.qs_expr.proofs.members.Members.put.Goals as goal

pub returns-clause-hits : goal.returns-clause-hits
returns-clause-hits c =
    is_in_more c.args.self.now c.put_by.new.self c.args.term.now (seen c.worth_of_constant.result) c.worth_of_constant.ensures c.show_proper.ensures c.in_ok-put_by.ensures.hits

pub returns-clause-apart : goal.returns-clause-apart
returns-clause-apart c =
    is_apart_more c.args.self.now c.put_by.new.self c.args.term.now (seen c.worth_of_constant.result) c.worth_of_constant.ensures c.show_proper.ensures c.in_ok-put_by.ensures.hits c.in_ok-put_by.ensures.errs

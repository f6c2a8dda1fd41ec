use Rattle.qs_query_solutions.proofs.Fronts.{solution_whole}
use Rattle.qs_query_solutions.proofs.terms.solution.Goals as goal

pub returns : goal.returns
returns g c =
    solution_whole c.args.op.now.known c.args.op.now.table c.args.row.now c.width-width.result c.loop-variable.variable c.loop-variable.solution c.width-width.ensures c.loop-variable.invariant c.loop-variable.auto.variable-end c.loop-variable-test.false

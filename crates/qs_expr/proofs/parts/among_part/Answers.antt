use Rattle.qs_expr.proofs.Amongst.{of_variable}
use Rattle.qs_expr.proofs.parts.among_part.Goals as goal

pub new-requires : goal.new-requires
new-requires g c m = of_variable c.args.denied m c.in-Variable.variable c.args.operand.now c.args.expr.now c.args.exprs.now c.in-Variable.is (c.requires m)

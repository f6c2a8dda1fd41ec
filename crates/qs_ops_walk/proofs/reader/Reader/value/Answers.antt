use Rattle.std.proofs.Common.{take, arith}
use Rattle.qs_expr_meaning.specs.Meaning.{meaning}
use Rattle.qs_expr.specs.inner.Cell.{row_solution}
use Rattle.qs_ops_walk.specs.inner.Setting.{known_of}
use Rattle.qs_ops_walk.proofs.Readings.{whole_value, front_value, cell_is, cell_fits}
use Rattle.qs_ops_walk.proofs.reader.Reader.value.Goals as goal

pub returns-then-width-self-clause-value : goal.returns-then-width-self-clause-value
returns-then-width-self-clause-value g c =
    cell_is _ c.args.self.now c.self.view_is c.args.scratch.now c.eval.new.scratch c.args.row.now c.args.expr.now c.eval.result c.cell_of.result c.cell_of.ensures c.eval.ensures.value
    (meaning (take c.args.self.now.width (row_solution (known_of c.args.self.now) c.args.scratch.now c.args.row.now)) c.args.expr.now)
    (whole_value _ c.args.self.now c.self.view_is c.args.scratch.now c.args.row.now c.args.expr.now (omega (arith, c.width.ensures, c.if-width-self.true)))

pub returns-then-width-self-clause-fits : goal.returns-then-width-self-clause-fits
returns-then-width-self-clause-fits g c =
    cell_fits _ c.args.self.now c.self.view_is c.args.scratch.now c.eval.new.scratch c.args.row.now c.args.expr.now c.eval.result c.cell_of.result c.cell_of.ensures c.eval.ensures.value

pub returns-clause-value : goal.returns-clause-value
returns-clause-value g c =
    cell_is _ c.args.self.now c.self.view_is c.args.scratch.now c.eval-value.new.scratch c.in_ok-named.named c.args.expr.now c.eval-value.result c.cell_of-2.result c.cell_of-2.ensures c.eval-value.ensures.value
    (meaning (take c.args.self.now.width (row_solution (known_of c.args.self.now) c.args.scratch.now c.args.row.now)) c.args.expr.now)
    (front_value _ c.args.self.now c.self.view_is c.args.scratch.now c.args.row.now c.in_ok-named.named c.args.expr.now c.in_ok-named.ensures.terms)

pub returns-clause-fits : goal.returns-clause-fits
returns-clause-fits g c =
    cell_fits _ c.args.self.now c.self.view_is c.args.scratch.now c.eval-value.new.scratch c.in_ok-named.named c.args.expr.now c.eval-value.result c.cell_of-2.result c.cell_of-2.ensures c.eval-value.ensures.value

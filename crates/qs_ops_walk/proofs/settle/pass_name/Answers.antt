use Rattle.std.proofs.Common.{sym, subst, ◌∙◌, arith}
use Rattle.qs_expr.specs.inner.Cell.{Cells}
use Rattle.qs_plan_meaning.specs.declared.stage.Stage.TheVariants as stage
use Rattle.qs_ops_walk.specs.declared.settle.Passes.{Passes}
use Rattle.qs_ops_walk.specs.declared.settle.Passes.TheVariants.{One}
use Rattle.qs_ops_walk.specs.inner.Moves.{IsPassed}
use Rattle.qs_ops_walk.proofs.Names.{name_none, name_binds, name_agrees}
use Rattle.qs_ops_walk.proofs.settle.pass_name.Goals as goal

pub returns-in_default : goal.returns-in_default
returns-in_default c s table w t h =
    name_none s table c.args.row.now c.args.variable c.args.register h (omega (arith, w)) (omega (arith, w, c.width.ensures)) (sym c.cell.ensures ∙ c.in_default.is)

pub returns-in-Some-cell : goal.returns-in-Some-cell
returns-in-Some-cell c s table w t h =
    subst (λ (p : Passes). IsPassed s (stage.Name c.args.variable c.args.register) table c.args.row.now table c.args.row.now p) (sym c.one_if.ensures)
    (name_agrees s table c.args.row.now c.args.variable c.args.register h (omega (arith, w)) (omega (arith, w, c.width.ensures)) t c.in-Some.name c.in-Some-cell.cell c.is_same.result
    (sym c.cell.ensures ∙ c.in-Some.is) (sym c.cell-2.ensures ∙ c.in-Some-cell.is) c.is_same.ensures.terms)

pub returns-in-None : goal.returns-in-None
returns-in-None c s table w t h =
    subst (λ (n : Cells). IsPassed s (stage.Name c.args.variable c.args.register) table c.args.row.now table n One) (sym c.set.ensures.cells)
    (name_binds s table c.args.row.now c.args.variable c.args.register h (omega (arith, w)) (omega (arith, w, c.width.ensures)) c.in-Some.name
    (sym c.cell.ensures ∙ c.in-Some.is) (sym c.cell-2.ensures ∙ c.in-None.is))

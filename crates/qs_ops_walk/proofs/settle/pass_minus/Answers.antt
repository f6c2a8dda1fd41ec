use Rattle.std.proofs.Common.{◌∙◌, ap, sym, subst, take}
use Rattle.std.specs.List.{list_any}
use Rattle.qs_algebra_solutions.specs.Operators.{excludes}
use Rattle.qs_expr.specs.inner.Cell.{row_solution}
use Rattle.qs_ops_tables.specs.inner.Tables.{KeptRows, TellsExcluded, row_solutions}
use Rattle.qs_ops_walk.specs.declared.settle.Passes.{Passes}
use Rattle.qs_ops_walk.specs.inner.Setting.{known_of}
use Rattle.qs_ops_walk.specs.inner.Moves.{IsPassed}
use Rattle.qs_ops_walk.proofs.Passes.{minus_passes, serves_fit}
use Rattle.qs_plan_meaning.specs.declared.stage.Stage.TheVariants as stage
use Rattle.qs_ops_walk.proofs.settle.pass_minus.Goals as goal

pub returns-in-Some : goal.returns-in-Some
returns-in-Some c s table w t h r =
    let k : KeptRows = c.in-Some.kept.now in
    let e : TellsExcluded k.rows c.args.width c.args.row.now c.is_excluded.result =
    subst (λ (x : KeptRows). TellsExcluded x.rows c.args.width c.args.row.now c.is_excluded.result) c.get.ensures c.is_excluded.ensures.terms in
    subst (λ (p : Passes). IsPassed s (stage.Minus c.args.right.now.register c.args.right.now.group.now) table c.args.row.now table c.args.row.now p) (sym c.one_if.ensures)
    (minus_passes s table c.args.right.now c.args.row.now k h c.in-Some.ensures r c.is_excluded.result
    (e (known_of s) table t (serves_fit s table c.args.right.now c.args.row.now k h c.in-Some.ensures r) h
    ∙ ap (λ n. list_any (excludes (take n (row_solution (known_of s) table c.args.row.now))) (row_solutions (known_of s) table k.rows)) (sym w)))

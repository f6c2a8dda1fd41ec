use Rattle.std.proofs.Common.{List, sym, subst}
use Rattle.qs_expr.specs.inner.Cell.{Cells}
use Rattle.qs_ops_scans.proofs.Common.{HaveIf, quads_have}
use Rattle.qs_ops_scans.proofs.quads.QuadRows.common_cell.Goals as goal

pub returns : goal.returns
returns c =
    let p = c.self.inside in
    subst (λ (rows : List Cells). HaveIf c.args.variable c.cell.result rows) c.self.view_is
    (quads_have c.args.variable p.row p.acts p.register p.variable p.scan c.cell.result c.cell.ensures (λ e. c.if-variable-self.false (sym e)) (c.is_also.ensures c.if-is_also.false) (c.leaves.ensures c.if-not-leaves.false))

use Rattle.std.proofs.Common.{List, sym, subst}
use Rattle.qs_expr.specs.inner.Cell.{Cells}
use Rattle.qs_ops_scans.proofs.Common.{HaveIf, names_have}
use Rattle.qs_ops_scans.proofs.names.NameRows.common_cell.Goals as goal

pub returns : goal.returns
returns c =
    let p = c.self.inside in
    subst (λ (rows : List Cells). HaveIf c.args.variable c.cell.result rows) c.self.view_is
    (names_have c.args.variable p.row p.register _ c.cell.result c.cell.ensures (λ e. c.if-variable-self.false (sym e)))

use Rattle.std.proofs.Common.{◌≡◌, List, Some, IfSome, drop, subst}
use Rattle.std.specs.List.{AllByRecursion}
use Rattle.qs_expr.specs.inner.Cell.{Cells, cell_at}
use Rattle.qs_ops_tables.proofs.Common.{merges_have}
use Rattle.qs_ops_tables.proofs.probe.Probe.common_cell.Goals as goal

pub returns : goal.returns
returns c =
    let p = c.self.inside in
    subst (λ (rows : List Cells). IfSome c.cell.result (λ x. AllByRecursion (λ (m : Cells). cell_at m c.args.variable ≡ Some x) rows)) c.self.view_is
    (merges_have p.row c.args.variable (drop p.at p.kept.rows) c.cell.result c.cell.ensures)

use Rattle.std.proofs.Common.{List, subst}
use Rattle.qs_expr.specs.inner.Cell.{Cells}
use Rattle.qs_ops_scans.proofs.Common.{HaveIf, triples_have}
use Rattle.qs_ops_scans.proofs.triples.TripleRows.common_cell.Goals as goal

pub returns : goal.returns
returns c =
    let p = c.self.inside in
    subst (λ (rows : List Cells). HaveIf c.args.variable c.cell.result rows) c.self.view_is
    (triples_have c.args.variable p.row p.acts p.scan c.cell.result c.cell.ensures (c.leaves.ensures c.if-not-leaves.false))

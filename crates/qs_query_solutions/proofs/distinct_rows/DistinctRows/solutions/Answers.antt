use Rattle.std.proofs.Common.{List, map, sym, subst, ◌∙◌, ap}
use Rattle.std.specs.List.{AllByRecursion}
use Rattle.qs_expr.specs.inner.Cell.{Cells, FitsRow}
use Rattle.qs_query_solutions.specs.declared.distinct_rows.KeyCell.{KeyCell}
use Rattle.qs_query_solutions.specs.inner.Distinct.{cell_of, cells_of}
use Rattle.qs_query_solutions.proofs.Keys.{in_keys}
use Rattle.qs_query_solutions.proofs.distinct_rows.DistinctRows.solutions.Goals as goal

pub made-requires : goal.made-requires
made-requires g c =
    let known = c.args.op.now.known in
    let table = c.args.op.now.table in
    let keys = c.as_slice-keys-items in
    subst (λ (l : List KeyCell). FitsRow known table (map cell_of l)) (sym c.as_slice.ensures.value)
    (in_keys (FitsRow known table) keys.result.now c.loop-keys.keys-index c.keys-item.result c.loop-keys-test.true c.keys-item.is
    (subst (λ (l : List Cells). AllByRecursion (FitsRow known table) l) (sym (ap (map cells_of) keys.ensures.keys ∙ c.self.view_is)) c.requires))

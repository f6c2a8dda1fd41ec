use Rattle.std.proofs.Common.{List, map, ◌∙◌, ap}
use Rattle.qs_terms.specs.Bag.{with_new}
use Rattle.qs_expr.specs.inner.Cell.{Cells}
use Rattle.qs_query_solutions.specs.inner.Distinct.{cells_of, same_cells}
use Rattle.qs_query_solutions.proofs.Keys.{put_is}
use Rattle.qs_query_solutions.proofs.distinct_rows.DistinctRows.put.Goals as goal

pub returns : goal.returns
returns c =
    let key = c.in_ok-keys.keys in
    ap (map cells_of) c.in_ok-insert.ensures.keys
    ∙ (put_is key c.self.inside.keys.keys
    ∙ (ap (λ (l : List Cells). with_new same_cells l (cells_of key)) c.self.view_is ∙ ap (with_new same_cells c.args.self.now) c.in_ok-keys.ensures))

use Rattle.std.proofs.Common.{◌<◌, ◌≤◌, [], length, unwrap_or, sym, subst, arith}
use Rattle.std.specs.List.{AllByRecursion}
use Rattle.qs_expr.specs.inner.Cell.{row_solution, FitsRow}
use Rattle.qs_expr.specs.inner.Scratch.{Grows, IsTable}
use Rattle.qs_ops_walk.specs.inner.Stream.{Stream}
use Rattle.qs_query_solutions.specs.inner.Distinct.{IsDistinctWay}
use Rattle.qs_query_solutions.proofs.Coming.{fewer}
use Rattle.qs_query_solutions.proofs.EachOnce.{alike_passed, at_start, none_fit, fit_still, way_still, more_fit, no_more, one_more, none_more}
use Rattle.qs_query_solutions.proofs.distinct.collect.Goals as goal

pub found-init : goal.found-init
found-init g c = record {
  table = c.requires.table;
  fits = none_fit c.args.op.now.known c.args.op.now.table c.args.rows c.requires.none;
  way = at_start c.args.op.now.known c.args.op.now.table c.args.columns.now c.args.op.now.rows c.args.rows c.requires.none;
}

pub found-preserved : goal.found-preserved
found-preserved g c =
    let columns = c.args.columns.now in
    let start = c.args.op.now.rows in
    let rows = c.found.rows in
    let at = c.found.op in
    let next = c.next.new.self in
    let row = c.in-Some.row in
    let new = c.put.new.self in
    let skip = c.skip_alike.new.self in
    let same = sym c.next.ensures.known in
    let grows : Grows next.known at.table next.table = subst (λ k. Grows k at.table next.table) same c.next.ensures.grows in
    let fit0 : AllByRecursion (FitsRow next.known at.table) rows = subst (λ k. AllByRecursion (FitsRow k at.table) rows) same c.found.invariant.fits in
    let way0 : IsDistinctWay next.known at.table columns start rows at.rows = subst (λ k. IsDistinctWay k at.table columns start rows at.rows) same c.found.invariant.way in
    let fit : AllByRecursion (FitsRow next.known next.table) rows = fit_still next.known at.table next.table grows rows fit0 in
    let way : IsDistinctWay next.known next.table columns start rows at.rows = way_still next.known at.table next.table grows columns start rows at.rows fit0 way0 in
    let fits : FitsRow next.known next.table row = rw c.in-Some.is at c.in_ok-row.ensures.fits in
    let put : IsDistinctWay next.known next.table columns start new next.rows =
    one_more next.known next.table grows.table columns start rows fit at.rows way row fits next.rows (rw c.in-Some.is at c.in_ok-row.ensures.rows) new c.in_ok-put.ensures in
    let passed : IsDistinctWay next.known next.table columns start new skip.rows =
    alike_passed next.known next.table grows.table columns rows fit row fits new c.in_ok-put.ensures start next.rows skip.rows put c.skip_alike.ensures.rows in
    record {
      table =
          subst (λ (o : Stream). IsTable o.known o.table) (sym c.give_back.ensures)
          (subst (λ k. IsTable k skip.table) (sym c.skip_alike.ensures.known) (subst (λ t. IsTable next.known t) (sym c.skip_alike.ensures.table) grows.table));
      fits =
          subst (λ (o : Stream). AllByRecursion (FitsRow o.known o.table) new) (sym c.give_back.ensures)
          (subst (λ k. AllByRecursion (FitsRow k skip.table) new) (sym c.skip_alike.ensures.known)
          (subst (λ t. AllByRecursion (FitsRow next.known t) new) (sym c.skip_alike.ensures.table) (more_fit next.known next.table columns row fits rows fit new c.in_ok-put.ensures)));
      way =
          subst (λ (o : Stream). IsDistinctWay o.known o.table columns start new o.rows) (sym c.give_back.ensures)
          (subst (λ k. IsDistinctWay k skip.table columns start new skip.rows) (sym c.skip_alike.ensures.known)
          (subst (λ t. IsDistinctWay next.known t columns start new skip.rows) (sym c.skip_alike.ensures.table) passed));
    }

pub found-smaller : goal.found-smaller
found-smaller g c =
    let next = c.next.new.self in
    let skip = c.skip_alike.new.self in
    let row = row_solution next.known next.table c.in-Some.row in
    let less : length (unwrap_or next.rows []) < length (unwrap_or c.found.op.rows []) = fewer c.found.op.rows row next.rows (rw c.in-Some.is at c.in_ok-row.ensures.rows) in
    let most : length (unwrap_or skip.rows []) ≤ length (unwrap_or next.rows []) = no_more c.args.columns.now row next.rows skip.rows c.skip_alike.ensures.rows in
    subst (λ (o : Stream). length (unwrap_or o.rows []) < length (unwrap_or c.found.op.rows [])) (sym c.give_back.ensures) (omega arith)

pub returns-in_default-clause-fits : goal.returns-in_default-clause-fits
returns-in_default-clause-fits g c =
    let at = c.found.op in
    let next = c.next.new.self in
    let same = sym c.next.ensures.known in
    let grows : Grows next.known at.table next.table = subst (λ k. Grows k at.table next.table) same c.next.ensures.grows in
    fit_still next.known at.table next.table grows c.found.rows (subst (λ k. AllByRecursion (FitsRow k at.table) c.found.rows) same c.found.invariant.fits)

pub returns-in_default-clause-rows : goal.returns-in_default-clause-rows
returns-in_default-clause-rows g c =
    let columns = c.args.columns.now in
    let start = c.args.op.now.rows in
    let rows = c.found.rows in
    let at = c.found.op in
    let next = c.next.new.self in
    let same = sym c.next.ensures.known in
    let grows : Grows next.known at.table next.table = subst (λ k. Grows k at.table next.table) same c.next.ensures.grows in
    let fit0 : AllByRecursion (FitsRow next.known at.table) rows = subst (λ k. AllByRecursion (FitsRow k at.table) rows) same c.found.invariant.fits in
    let way0 : IsDistinctWay next.known at.table columns start rows at.rows = subst (λ k. IsDistinctWay k at.table columns start rows at.rows) same c.found.invariant.way in
    none_more next.known next.table grows.table columns start rows (fit_still next.known at.table next.table grows rows fit0) at.rows (way_still next.known at.table next.table grows columns start rows at.rows fit0 way0) c.args.most next.rows
    (rw c.in_default.is at c.in_ok-row.ensures.rows)

use Rattle.std.proofs.Common.{rules}
use Rattle.qs_algebra_solutions.specs.Solution.{binding}
use Rattle.qs_expr.proofs.Growth.{goes_on}
use Rattle.qs_ops_tables.proofs.TableRows.{rows_more, fit_more}
use Rattle.qs_ops_tables.proofs.values.table_rows.Goals as goal

pub loop-terms-preserved : goal.loop-terms-preserved
loop-terms-preserved g c =
    let known = (g.V.View.content c.args.view.now).known in
    let old = c.loop-terms.scratch in
    let new = c.binding_row.new.scratch in
    let more = c.binding_row.ensures.grows in
    rw c.in_ok-push.ensures.items
    (record {
      grows = goes_on known c.args.scratch.now old new c.loop-terms.invariant.grows more;
      fits = fit_more known old new more c.loop-terms.rows.items c.in_ok-row.row c.loop-terms.invariant.fits c.in_ok-row.ensures.fits;
      rows =
          rows_more known old new more c.loop-terms.rows.items c.in_ok-row.row (binding c.args.width c.args.table.now.variables) c.args.table.now.rows c.loop-terms.terms-index c.terms-item.result (search rules) (search rules) c.loop-terms.invariant.fits c.loop-terms.invariant.rows
          (rw (c.as_slice.ensures, c.as_slice-in-loop-terms.ensures) at c.in_ok-row.ensures.terms);
    })

use Rattle.std.proofs.Common.{◌∙◌, ap, sym}
use Rattle.qs_algebra_solutions.specs.Solution.{bind_all}
use Rattle.qs_algebra_solutions.proofs.Bindings.{none_left}
use Rattle.qs_expr.proofs.Growth.{goes_on, still_row}
use Rattle.qs_ops_tables.proofs.TableRows.{same_table, bound_more}
use Rattle.qs_ops_tables.proofs.values.binding_row.Goals as goal

pub loop-at-init : goal.loop-at-init
loop-at-init g c =
    let known = (g.V.View.content c.args.view.now).known in
    let table = c.args.scratch.now in
    record {
      grows = same_table known table c.requires;
      fits = c.in_ok-row.ensures.fits known table;
      terms = ap (λ s. bind_all s c.args.variables.now c.args.terms.now) (c.in_ok-row.ensures.terms known table);
    }

pub loop-at-preserved : goal.loop-at-preserved
loop-at-preserved g c =
    let known = (g.V.View.content c.args.view.now).known in
    let new = c.cell_of.new.scratch in
    let more = c.cell_of.ensures.grows in
    record {
      grows = goes_on known c.args.scratch.now c.loop-at.scratch new c.loop-at.invariant.grows more;
      fits = c.set.ensures.fits known new (still_row known c.loop-at.scratch new more c.loop-at.row c.loop-at.invariant.fits) c.in_ok-cell.ensures.fits;
      terms =
          bound_more known c.loop-at.scratch new more c.loop-at.row c.set.new.self c.args.variables.now c.args.terms.now c.loop-at.at c.in_ok-cell.cell c.index-terms-at.result _ (rw c.min-at-end.ensures at c.loop-at-test.true) c.index-terms-at.is
          c.loop-at.invariant.fits (c.in_ok-cell.ensures.term ∙ c.as_ref.ensures.value) (c.set.ensures.terms known new) c.loop-at.invariant.terms;
    }

pub returns-clause-terms : goal.returns-clause-terms
returns-clause-terms g c =
    let known = (g.V.View.content c.args.view.now).known in
    sym (none_left _ c.args.variables.now c.args.terms.now c.loop-at.at (rw c.min-at-end.ensures at c.loop-at-test.false)) ∙ c.loop-at.invariant.terms

use Rattle.std.proofs.Common.{◌≡◌, ◌++◌, ◌∷◌, [], ◌∙◌, ap, map, take, sym, List, ◌+◌}
use Rattle.qs_terms.specs.Bag.{once}
use Rattle.qs_algebra_solutions.specs.Solution.{Solution, projected, same_solution}
use Rattle.qs_base.specs.inner.Lent.{lent}
use Rattle.qs_algebra_solutions.proofs.Same.{same_solution-Decides}
use Rattle.qs_algebra_solutions.proofs.KnownValues.{was_new, was_known, on_false}
use Rattle.qs_query_forms.proofs.Cells.{read, order, reads}
use Rattle.qs_algebra_solutions.proofs.KnownKeys.{kept_new, kept_known, knows_more, knows_still}
use Rattle.qs_query_forms.proofs.Known.{lent_taken_more, lent_more}
use Rattle.qs_query_forms.proofs.distinct.firsts.Goals.{then-branch+in_ok-push, else-branch}
use Rattle.qs_query_forms.proofs.distinct.firsts.Goals as goal

pub loop-row-preserved : goal.loop-row-preserved
loop-row-preserved c =
    let columns = c.args.columns.now in
    let before : List Solution = map (projected columns) (lent (take c.loop-row.row-index c.args.rows.now)) in
    let firsts : List Solution = map (projected columns) (lent c.loop-row.firsts.items) in
    let cells = c.in_ok-cells.cells in
    let after : before ++ read cells ∷ [] ≡ map (projected columns) (lent (take (c.loop-row.row-index + 1) c.args.rows.now)) =
    ap (λ s. before ++ s ∷ []) c.in_ok-cells.ensures ∙ sym (lent_taken_more (projected columns) c.args.rows.now c.loop-row.row-index c.row-item.result c.loop-row-test.true c.row-item.is) in
    record {
      kept = elim c.if-branch.branch [
        | then-branch+in_ok-push w ↦
            kept_new read same_solution same_solution-Decides order reads before cells c.loop-row.known.keys firsts (map (projected columns) (lent c.if-branch.firsts.items)) c.loop-row.invariant.kept c.loop-row.invariant.known
            (was_new _ _ c.in_ok-insert.ensures.added w.if-branch.true)
            (lent_more (projected columns) c.loop-row.firsts.items c.if-branch.firsts.items _ (ap (λ f. f.items) w.firsts-is ∙ w.in_ok-push.ensures.items) ∙ ap (λ s. firsts ++ s ∷ []) (sym c.in_ok-cells.ensures))
            ∙ ap (once same_solution) after
        | else-branch w ↦
            kept_known read same_solution same_solution-Decides order reads before cells c.loop-row.known.keys firsts (map (projected columns) (lent c.if-branch.firsts.items)) c.loop-row.invariant.kept c.loop-row.invariant.known
            (was_known _ _ c.in_ok-insert.ensures.added w.if-branch.false)
            (ap (λ f. map (projected columns) (lent f.items)) w.firsts-is)
            ∙ ap (once same_solution) after
      ];
      known = elim c.if-branch.branch [
        | then-branch+in_ok-push w ↦
            knows_more read same_solution same_solution-Decides order reads cells c.loop-row.known.keys c.insert.new.self.keys firsts (map (projected columns) (lent c.if-branch.firsts.items)) c.loop-row.invariant.known c.in_ok-insert.ensures.keys
            (lent_more (projected columns) c.loop-row.firsts.items c.if-branch.firsts.items _ (ap (λ f. f.items) w.firsts-is ∙ w.in_ok-push.ensures.items) ∙ ap (λ s. firsts ++ s ∷ []) (sym c.in_ok-cells.ensures))
        | else-branch w ↦
            knows_still read same_solution same_solution-Decides order reads c.loop-row.known.keys c.insert.new.self.keys firsts (map (projected columns) (lent c.if-branch.firsts.items)) c.loop-row.invariant.known
            (on_false _ _ w.if-branch.false c.in_ok-insert.ensures.unchanged) (ap (λ f. map (projected columns) (lent f.items)) w.firsts-is)
      ];
    }

use Rattle.std.proofs.Common.{◌≡◌, true, false, sym, ◌∙◌, ap}
use Rattle.qs_expr_meaning.specs.declared.expr.Expr.TheVariants as expr_of
use Rattle.qs_expr.proofs.Said.{same_are_equal, same_are_not_unlike}
use Rattle.qs_expr.proofs.parts.variables_part.Goals as goal
use Rattle.qs_expr.proofs.parts.variables_part.Goals.{in-Equal, in-NotEqual}

pub invariant_of-result : goal.invariant_of-result
invariant_of-result c = record {
  alike = λ m x p q.
      elim c.match-comparison.branch [
        | in-Equal w ↦ same_are_equal m c.args.first c.args.second x c.args.expr.now (c.requires ∙ ap (λ k. expr_of.Compare k (expr_of.Variable c.args.first) (expr_of.Variable c.args.second)) w.in-Equal.is) p q ∙ sym w.truth-is
        | in-NotEqual w ↦ same_are_not_unlike m c.args.first c.args.second x c.args.expr.now (c.requires ∙ ap (λ k. expr_of.Compare k (expr_of.Variable c.args.first) (expr_of.Variable c.args.second)) w.in-NotEqual.is) p q ∙ sym w.truth-is
      ];
  unlike = λ e. let f : false ≡ true = e in absurd (cc);
}

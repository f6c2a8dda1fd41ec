use Rattle.std.proofs.Common.{rules, Some, ◌∙◌, sym, ap, FitsSigned}
use Rattle.std.specs.Int.{w128}
use Rattle.qs_expr_values.specs.inner.Value.{term_of}
use Rattle.qs_expr_values.specs.Values as spec
use Rattle.qs_expr_values.proofs.Numbers.{passed}
use Rattle.qs_expr_values.proofs.Terms.{ebv_integer}
use Rattle.qs_expr_values.proofs.value.ebv.Goals as goal

pub returns-in-Integer : goal.returns-in-Integer
returns-in-Integer c =
    let h : FitsSigned w128 c.in-Integer.number = search rules in
    ap Some (passed c.is_other_than_zero.result c.in-Integer.number h c.is_other_than_zero.ensures)
    ∙ (sym (ebv_integer c.in-Integer.number h) ∙ ap (λ v. spec.ebv (term_of v)) (sym c.in-Integer.is))

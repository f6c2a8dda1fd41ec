use Rattle.std.proofs.Common.{rules, ◌∙◌, sym, FitsSigned}
use Rattle.std.specs.Int.{w128}
use Rattle.qs_expr_values.proofs.Numbers.{passed, not_zero_in_range}
use Rattle.qs_expr_values.proofs.number.is_not_zero.Goals as goal

pub returns-in-Some : goal.returns-in-Some
returns-in-Some c =
    let h : FitsSigned w128 c.in-Some.number = search rules in
    passed c.is_other_than_zero.result c.in-Some.number h c.is_other_than_zero.ensures
    ∙ sym (not_zero_in_range c.args.form.now c.in-Some.number (sym c.integer_of.ensures ∙ c.in-Some.is))

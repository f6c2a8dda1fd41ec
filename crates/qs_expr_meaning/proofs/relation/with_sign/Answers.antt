use Rattle.std.proofs.Common.{ap, sym, ◌∙◌, Some, neg_ℤ}
use Rattle.std.specs.Int.{w128}
use Rattle.std.proofs.lemmas.Int.{to_z-of_z}
use Rattle.qs_expr_values.specs.Number.{in_range}
use Rattle.qs_expr_meaning.specs.Meaning.{with_sign}
use Rattle.qs_expr_meaning.proofs.Steps.{stays_in_range}
use Rattle.qs_expr_meaning.proofs.relation.with_sign.Goals as goal

pub returns-in-Plus : goal.returns-in-Plus
returns-in-Plus c =
    ap Some (to_z-of_z w128 c.args.number c.ranges.number)
    ∙ sym (ap (λ s. in_range (Some (with_sign s c.args.number))) c.in-Plus.is ∙ stays_in_range c.args.number c.ranges.number)

pub returns-in-Minus : goal.returns-in-Minus
returns-in-Minus c =
    c.negate.ensures
    ∙ (ap (λ y. in_range (Some (neg_ℤ y))) (to_z-of_z w128 c.args.number c.ranges.number)
    ∙ ap (λ s. in_range (Some (with_sign s c.args.number))) (sym c.in-Minus.is))

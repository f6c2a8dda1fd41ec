-- Groups of one step.
use Rattle.std.proofs.Common.{◌≡◌, ℕ, List, [], ◌∷◌, sym, ap, ◌∙◌}
use Rattle.qs_expr_meaning.specs.declared.expr.Expr.{Expr}
use Rattle.qs_algebra_patterns.specs.declared.pattern.PatternNode.{PatternNode}
use Rattle.qs_algebra_patterns.specs.declared.pattern.PatternNode.TheOpen as level
use Rattle.qs_algebra_patterns.specs.declared.pattern.PatternNode.TheVariants.{Group}
use Rattle.qs_algebra_patterns.specs.declared.pattern.Step.{out-Step, out-roll-Step}
use Rattle.qs_algebra_patterns.specs.declared.pattern.Step.TheVariants.{Join, LeftJoin, Minus, Extend, rolls-Join, rolls-LeftJoin, rolls-Minus, rolls-Extend}
use Rattle.qs_algebra.specs.Translation.{alone, unfiltered}

pub join : (p : PatternNode) → unfiltered (Join p ∷ []) ≡ p
join p = ap (alone (Join p)) (ap out-Step (sym (rolls-Join p)) ∙ out-roll-Step (level.Join p))

pub left_join : (p : PatternNode) (conditions : List Expr) → unfiltered (LeftJoin p conditions ∷ []) ≡ Group (LeftJoin p conditions ∷ []) []
left_join p conditions = ap (alone (LeftJoin p conditions)) (ap out-Step (sym (rolls-LeftJoin p conditions)) ∙ out-roll-Step (level.LeftJoin p conditions))

pub minus : (p : PatternNode) → unfiltered (Minus p ∷ []) ≡ Group (Minus p ∷ []) []
minus p = ap (alone (Minus p)) (ap out-Step (sym (rolls-Minus p)) ∙ out-roll-Step (level.Minus p))

pub extend : (v : ℕ) (e : Expr) → unfiltered (Extend v e ∷ []) ≡ Group (Extend v e ∷ []) []
extend v e = ap (alone (Extend v e)) (ap out-Step (sym (rolls-Extend v e)) ∙ out-roll-Step (level.Extend v e))

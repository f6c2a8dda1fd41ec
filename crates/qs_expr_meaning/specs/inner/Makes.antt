-- Which expressions take memory: those with CONCAT, whose text is made. All others are evaluated
-- without.
use Rattle.std.specs.Prelude.{Bool, true, false, ◌||◌, List, [], ◌∷◌}
use Rattle.qs_expr_meaning.specs.declared.expr.Expr.{Expr, fold-Expr}
use Rattle.qs_expr_meaning.specs.declared.expr.Addend.{Addend, fold-Addend}
use Rattle.qs_expr_meaning.specs.declared.expr.Expr.TheOpen.{Expr-F, Addend-F}

abbrev pub some : List Bool → Bool
some [] = false
some (b ∷ bs) = b || some bs

abbrev pub makes_level : Expr-F Bool Bool → Bool
makes_level (Expr-F.Variable v) = false
makes_level (Expr-F.Term t) = false
makes_level (Expr-F.Or xs) = some xs
makes_level (Expr-F.And xs) = some xs
makes_level (Expr-F.Compare c a b) = a || b
makes_level (Expr-F.In a xs) = a || some xs
makes_level (Expr-F.NotIn a xs) = a || some xs
makes_level (Expr-F.Sum a xs) = a || some xs
makes_level (Expr-F.Product a xs) = a || some xs
makes_level (Expr-F.Not a) = a
makes_level (Expr-F.Signed s a) = a
makes_level (Expr-F.Bound v) = false
makes_level (Expr-F.If c a b) = c || (a || b)
makes_level (Expr-F.Coalesce xs) = some xs
makes_level (Expr-F.Concat xs) = true
makes_level (Expr-F.Unary f a) = a
makes_level (Expr-F.Binary f a b) = a || b

abbrev pub addend_makes_level : Addend-F Bool Bool → Bool
addend_makes_level a = a.operand

abbrev pub makes : Expr → Bool
makes = fold-Expr Bool Bool makes_level addend_makes_level

abbrev pub addend_makes : Addend → Bool
addend_makes = fold-Addend Bool Bool makes_level addend_makes_level

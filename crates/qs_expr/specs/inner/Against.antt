-- Shortcuts of comparisons.
use Rattle.std.specs.Prelude.{ℕ, Bool, false, not, Option, Some, None, if◌then◌else◌}
use Rattle.std.specs.declared.cmp.Ordering.{Ordering}
use Rattle.std.specs.Ordering.{is_eq, is_lt, is_gt, is_le, is_ge}
use Rattle.qs_terms.specs.Term.{same_term}
use Rattle.qs_terms.specs.declared.term.Term.{Term}
use Rattle.qs_expr_values.specs.Values.{Worth, compare}
use Rattle.qs_expr_meaning.specs.declared.expr.Expr.{Expr}
use Rattle.qs_expr_meaning.specs.declared.expr.Expr.TheVariants as expr
use Rattle.qs_syntax_tree.specs.declared.expression.Comparison.{Comparison}
use Rattle.qs_syntax_tree.specs.declared.expression.Comparison.TheVariants.{Equal, NotEqual, Less}
use Rattle.qs_syntax_tree.specs.declared.expression.Comparison.TheVariants.{Greater, LessOrEqual}
use Rattle.qs_syntax_tree.specs.declared.expression.Comparison.TheVariants.{GreaterOrEqual}

-- whether the variable's term is this one, or, where it is to be apart, another one; an unbound
-- variable has none
abbrev pub has_term : Bool → Term → Option Term → Bool
has_term apart t None = false
has_term apart t (Some x) = if apart then not (same_term x t) else same_term x t

-- how the worth of a variable's term stands to that of a constant, or the other way round where the
-- constant comes first
abbrev pub ordered : Bool → Worth → Worth → Option Ordering
ordered first k x = if first then compare k x else compare x k

-- the comparison of a variable with a constant, or of a constant with a variable
abbrev pub with_constant : Bool → Comparison → ℕ → Term → Expr
with_constant first c v k = if first then expr.Compare c (expr.Term k) (expr.Variable v)
    else expr.Compare c (expr.Variable v) (expr.Term k)

-- whether the comparison is true of two values of one kind that stand so to each other
abbrev pub satisfies : Comparison → Ordering → Bool
satisfies Equal o = is_eq o
satisfies NotEqual o = not (is_eq o)
satisfies Less o = is_lt o
satisfies Greater o = is_gt o
satisfies LessOrEqual o = is_le o
satisfies GreaterOrEqual o = is_ge o

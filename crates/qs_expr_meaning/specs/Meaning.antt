-- What an expression means in a solution (SPARQL 1.1 Query, 17): a term, or none where it errs.
-- Unary `+` computes: `+ "01"^^xsd:integer` is `1`, while the token `+1` is a literal as it is
-- written.
use Rattle.std.specs.Prelude.{Bool, false, List, [], ◌∷◌, map, Option, Some, None, ℤ, ◌+ℤ◌}
use Rattle.std.specs.Prelude.{◌-ℤ◌, ◌*ℤ◌, neg_ℤ, if◌then◌else◌}
use Rattle.std.specs.Option.{is_some, unwrap_or, option_or, option_map, option_and_then}
use Rattle.std.specs.List.{fold}
use Rattle.std.specs.Ordering.{is_lt, is_gt, is_le, is_ge}
use Rattle.qs_terms.specs.declared.term.Term.{Term}
use Rattle.qs_algebra_solutions.specs.Solution.{Solution, term_at}
use Rattle.qs_expr_values.specs.Number.{in_range}
use Rattle.qs_expr_values.specs.Values.{worth, ebv, equal, compare, boolean_term, integer_term}
use Rattle.qs_expr_meaning.specs.Calls.{Value, of_both, integer_of_worth, unary, binary, strings}
use Rattle.qs_expr_meaning.specs.Calls.{joined}
use Rattle.qs_expr_meaning.specs.Truth.{any, every, denied}
use Rattle.qs_syntax_tree.specs.declared.expression.Comparison.{Comparison}
use Rattle.qs_syntax_tree.specs.declared.expression.Comparison.TheVariants.{Equal, NotEqual, Less}
use Rattle.qs_syntax_tree.specs.declared.expression.Comparison.TheVariants.{Greater, LessOrEqual}
use Rattle.qs_syntax_tree.specs.declared.expression.Comparison.TheVariants.{GreaterOrEqual}
use Rattle.qs_syntax_tree.specs.declared.expression.Sign.{Sign}
use Rattle.qs_syntax_tree.specs.declared.expression.Sign.TheVariants.{Plus, Minus}
use Rattle.qs_expr_meaning.specs.declared.expr.Expr.{Expr, fold-Expr}
use Rattle.qs_expr_meaning.specs.declared.expr.Expr.TheOpen.{Expr-F, Addend-F}

-- the effective boolean value, or none for an error (17.2.2)
abbrev pub truth : Value → Option Bool
truth x = option_and_then ebv x

-- ---- comparisons (17.3, 17.4.1.7 and 17.4.1.9)

abbrev pub compared : Comparison → Term → Term → Option Bool
compared Equal a b = equal a b
compared NotEqual a b = denied (equal a b)
compared Less a b = option_map is_lt (compare (worth a) (worth b))
compared Greater a b = option_map is_gt (compare (worth a) (worth b))
compared LessOrEqual a b = option_map is_le (compare (worth a) (worth b))
compared GreaterOrEqual a b = option_map is_ge (compare (worth a) (worth b))

-- IN: the `||` of the equalities
abbrev pub among : Value → List Value → Option Bool
among a xs = any (map (of_both equal a) xs)

-- ---- arithmetic (17.3): the range is looked at after each operation

-- the integer of the range that a value is worth
abbrev pub number : Value → Option ℤ
number x = option_and_then (λ t. integer_of_worth (worth t)) x

abbrev pub applied : (ℤ → ℤ → ℤ) → Option ℤ → Option ℤ → Option ℤ
applied f = of_both (λ a b. in_range (Some (f a b)))

abbrev pub by_sign : Sign → ℤ → ℤ → ℤ
by_sign Plus a b = a +ℤ b
by_sign Minus a b = a -ℤ b

-- what an operand of a sum means
abbrev pub SignedValue : Type 0
SignedValue = Sign × Value

abbrev pub added : Option ℤ → SignedValue → Option ℤ
added sum part = applied (by_sign part.0) sum (number part.1)

abbrev pub multiplied : Option ℤ → Value → Option ℤ
multiplied product x = applied (λ a b. a *ℤ b) product (number x)

abbrev pub with_sign : Sign → ℤ → ℤ
with_sign Plus z = z
with_sign Minus z = neg_ℤ z

-- ---- forms that choose (17.4.1.2 and 17.4.1.3)

-- IF: the branch that isn't asked counts for nothing, even where it errs
abbrev pub choice : Option Bool → Value → Value → Value
choice c x y = option_and_then (λ b. if b then x else y) c

-- COALESCE: the first that is no error; what stands after it isn't asked
abbrev pub first_value : List Value → Value
first_value [] = None
first_value (x ∷ xs) = option_or x (first_value xs)

-- ---- expressions

abbrev pub level : Solution → Expr-F Value SignedValue → Value
level m (Expr-F.Variable v) = term_at m v
level m (Expr-F.Term t) = Some t
level m (Expr-F.Or xs) = option_map boolean_term (any (map truth xs))
level m (Expr-F.And xs) = option_map boolean_term (every (map truth xs))
level m (Expr-F.Compare c a b) = option_map boolean_term (of_both (compared c) a b)
level m (Expr-F.In a xs) = option_map boolean_term (among a xs)
level m (Expr-F.NotIn a xs) = option_map boolean_term (denied (among a xs))
level m (Expr-F.Sum a xs) = option_map integer_term (fold added (number a) xs)
level m (Expr-F.Product a xs) = option_map integer_term (fold multiplied (number a) xs)
level m (Expr-F.Not a) = option_map boolean_term (denied (truth a))
level m (Expr-F.Signed s a) =
    option_map integer_term (in_range (option_map (with_sign s) (number a)))
level m (Expr-F.Bound v) = Some (boolean_term (is_some (term_at m v)))
level m (Expr-F.If c a b) = choice (truth c) a b
level m (Expr-F.Coalesce xs) = first_value xs
level m (Expr-F.Concat xs) = option_map joined (strings xs)
level m (Expr-F.Unary f a) = option_and_then (unary f) a
level m (Expr-F.Binary f a b) = of_both (binary f) a b

abbrev pub addend_level : Addend-F Value SignedValue → SignedValue
addend_level a = (a.sign, a.operand)

abbrev pub meaning : Solution → Expr → Value
meaning m = fold-Expr Value SignedValue (level m) addend_level

-- whether the condition is true in the solution; an error isn't true (17.2 and 18.5, Filter)
abbrev pub holds : Solution → Expr → Bool
holds m e = unwrap_or (truth (meaning m e)) false

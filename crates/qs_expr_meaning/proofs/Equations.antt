-- What an expression means, by its variant.
use Rattle.std.proofs.Common.{rules, ◌≡◌, ℕ, true, ◌||◌, List, map, Some}
use Rattle.std.specs.Option.{is_some, option_map, option_and_then}
use Rattle.std.specs.List.{fold}
use Rattle.qs_terms.specs.declared.term.Term.{Term as RdfTerm}
use Rattle.qs_algebra_solutions.specs.Solution.{Solution, term_at}
use Rattle.qs_expr_values.specs.Number.{in_range}
use Rattle.qs_expr_values.specs.Values.{boolean_term}
use Rattle.qs_expr_meaning.specs.Truth.{any, every, denied}
use Rattle.qs_expr_meaning.specs.Calls.{joined, strings, unary, binary, of_both}
use Rattle.qs_expr_meaning.specs.inner.Makes.{makes, addend_makes, some}
use Rattle.qs_expr_meaning.specs.Meaning.{truth, compared, among, number, added, multiplied, with_sign, choice, first_value, meaning}
use Rattle.qs_expr_meaning.specs.inner.Meaning.{boolean_value, integer_value, addend_meaning}
use Rattle.qs_syntax_tree.specs.declared.expression.Comparison.{Comparison}
use Rattle.qs_syntax_tree.specs.declared.expression.Sign.{Sign}
use Rattle.qs_syntax_tree.specs.declared.expression.UnaryFunction.{UnaryFunction}
use Rattle.qs_syntax_tree.specs.declared.expression.BinaryFunction.{BinaryFunction}
use Rattle.qs_expr_meaning.specs.declared.expr.Expr.{Expr, the_lemmas}
use Rattle.qs_expr_meaning.specs.declared.expr.Expr.TheVariants as expr
use Rattle.qs_expr_meaning.specs.declared.expr.Addend.{Addend, the_lemmas as addend_lemmas}

module _ (m : Solution) where
  pub variable_is : (v : ℕ) → meaning m (expr.Variable v) ≡ term_at m v
  variable_is v = search (rules, the_lemmas)

  pub term_is : (t : RdfTerm) → meaning m (expr.Term t) ≡ Some t
  term_is t = search (rules, the_lemmas)

  pub or_is : (es : List Expr) → meaning m (expr.Or es) ≡ boolean_value (any (map truth (map (meaning m) es)))
  or_is es = search (rules, the_lemmas)

  pub and_is : (es : List Expr) → meaning m (expr.And es) ≡ boolean_value (every (map truth (map (meaning m) es)))
  and_is es = search (rules, the_lemmas)

  pub compare_is : (c : Comparison) (a b : Expr) → meaning m (expr.Compare c a b) ≡ boolean_value (of_both (compared c) (meaning m a) (meaning m b))
  compare_is c a b = search (rules, the_lemmas)

  pub in_is : (a : Expr) (es : List Expr) → meaning m (expr.In a es) ≡ boolean_value (among (meaning m a) (map (meaning m) es))
  in_is a es = search (rules, the_lemmas)

  pub not_in_is : (a : Expr) (es : List Expr) → meaning m (expr.NotIn a es) ≡ boolean_value (denied (among (meaning m a) (map (meaning m) es)))
  not_in_is a es = search (rules, the_lemmas)

  pub sum_is : (a : Expr) (more : List Addend) → meaning m (expr.Sum a more) ≡ integer_value (fold added (number (meaning m a)) (map (addend_meaning m) more))
  sum_is a more = search (rules, the_lemmas)

  pub addend_is : (a : Addend) → addend_meaning m a ≡ (a.sign, meaning m a.operand)
  addend_is a = search (rules, the_lemmas, addend_lemmas)

  pub product_is : (a : Expr) (es : List Expr) → meaning m (expr.Product a es) ≡ integer_value (fold multiplied (number (meaning m a)) (map (meaning m) es))
  product_is a es = search (rules, the_lemmas)

  pub not_is : (a : Expr) → meaning m (expr.Not a) ≡ boolean_value (denied (truth (meaning m a)))
  not_is a = search (rules, the_lemmas)

  pub signed_is : (s : Sign) (a : Expr) → meaning m (expr.Signed s a) ≡ integer_value (in_range (option_map (with_sign s) (number (meaning m a))))
  signed_is s a = search (rules, the_lemmas)

  pub bound_is : (v : ℕ) → meaning m (expr.Bound v) ≡ Some (boolean_term (is_some (term_at m v)))
  bound_is v = search (rules, the_lemmas)

  pub if_is : (c a b : Expr) → meaning m (expr.If c a b) ≡ choice (truth (meaning m c)) (meaning m a) (meaning m b)
  if_is c a b = search (rules, the_lemmas)

  pub coalesce_is : (es : List Expr) → meaning m (expr.Coalesce es) ≡ first_value (map (meaning m) es)
  coalesce_is es = search (rules, the_lemmas)

  pub concat_is : (es : List Expr) → meaning m (expr.Concat es) ≡ option_map joined (strings (map (meaning m) es))
  concat_is es = search (rules, the_lemmas)

  pub unary_is : (f : UnaryFunction) (a : Expr) → meaning m (expr.Unary f a) ≡ option_and_then (unary f) (meaning m a)
  unary_is f a = search (rules, the_lemmas)

  pub binary_is : (f : BinaryFunction) (a b : Expr) → meaning m (expr.Binary f a b) ≡ of_both (binary f) (meaning m a) (meaning m b)
  binary_is f a b = search (rules, the_lemmas)

-- ---- which take memory

pub or_makes : (es : List Expr) → makes (expr.Or es) ≡ some (map makes es)
or_makes es = search (rules, the_lemmas)

pub and_makes : (es : List Expr) → makes (expr.And es) ≡ some (map makes es)
and_makes es = search (rules, the_lemmas)

pub compare_makes : (c : Comparison) (a b : Expr) → makes (expr.Compare c a b) ≡ (makes a || makes b)
compare_makes c a b = search (rules, the_lemmas)

pub in_makes : (a : Expr) (es : List Expr) → makes (expr.In a es) ≡ (makes a || some (map makes es))
in_makes a es = search (rules, the_lemmas)

pub not_in_makes : (a : Expr) (es : List Expr) → makes (expr.NotIn a es) ≡ (makes a || some (map makes es))
not_in_makes a es = search (rules, the_lemmas)

pub sum_makes : (a : Expr) (more : List Addend) → makes (expr.Sum a more) ≡ (makes a || some (map addend_makes more))
sum_makes a more = search (rules, the_lemmas)

pub addend_makes_is : (a : Addend) → addend_makes a ≡ makes a.operand
addend_makes_is a = search (rules, the_lemmas, addend_lemmas)

pub product_makes : (a : Expr) (es : List Expr) → makes (expr.Product a es) ≡ (makes a || some (map makes es))
product_makes a es = search (rules, the_lemmas)

pub not_makes : (a : Expr) → makes (expr.Not a) ≡ makes a
not_makes a = search (rules, the_lemmas)

pub signed_makes : (s : Sign) (a : Expr) → makes (expr.Signed s a) ≡ makes a
signed_makes s a = search (rules, the_lemmas)

pub if_makes : (c a b : Expr) → makes (expr.If c a b) ≡ (makes c || (makes a || makes b))
if_makes c a b = search (rules, the_lemmas)

pub coalesce_makes : (es : List Expr) → makes (expr.Coalesce es) ≡ some (map makes es)
coalesce_makes es = search (rules, the_lemmas)

pub concat_makes : (es : List Expr) → makes (expr.Concat es) ≡ true
concat_makes es = search (rules, the_lemmas)

pub unary_makes : (f : UnaryFunction) (a : Expr) → makes (expr.Unary f a) ≡ makes a
unary_makes f a = search (rules, the_lemmas)

pub binary_makes : (f : BinaryFunction) (a b : Expr) → makes (expr.Binary f a b) ≡ (makes a || makes b)
binary_makes f a b = search (rules, the_lemmas)

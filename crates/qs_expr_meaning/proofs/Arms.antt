-- Errors of the first operand, and chains of none.
use Rattle.std.proofs.Common.{◌≡◌, ◌==◌, Bool, true, false, List, [], ◌∷◌, map, length, Some, None, refl, ap, sym, ◌∙◌, arith}
use Rattle.std.specs.List.{fold}
use borrow.Author.Tests.{eqb-true}
use Rattle.qs_algebra_solutions.specs.Solution.{Solution}
use Rattle.qs_expr_values.specs.Values.{boolean_term}
use Rattle.qs_expr_meaning.specs.Calls.{Value}
use Rattle.qs_expr_meaning.specs.Truth.{either, denied}
use Rattle.qs_expr_meaning.specs.inner.Makes.{makes, addend_makes, some}
use Rattle.qs_expr_meaning.specs.Meaning.{number, among, added, multiplied, meaning}
use Rattle.qs_expr_meaning.specs.inner.Meaning.{boolean_value, integer_value, addend_meaning}
use Rattle.qs_expr_meaning.specs.inner.Comes.{Errs}
use Rattle.qs_expr_meaning.specs.declared.fault.ExprFault.{ExprFault}
use Rattle.qs_expr_meaning.specs.declared.fault.ExprFault.TheVariants.{TypeError, Memory}
use Rattle.qs_expr_meaning.specs.declared.expr.Expr.{Expr}
use Rattle.qs_expr_meaning.specs.declared.expr.Expr.TheVariants as expr
use Rattle.qs_expr_meaning.specs.declared.expr.Addend.{Addend}
use Rattle.qs_expr_meaning.proofs.Equations.{in_is, not_in_is, sum_is, product_is, in_makes, not_in_makes, sum_makes, product_makes}
use Rattle.qs_expr_meaning.proofs.Flags.{first_of_two}
use Rattle.qs_expr_meaning.proofs.Steps.{no_sum, no_product}

-- an error is among no values, and of some it is not known
among_error : (x : Value) (xs : List Value) → among None (x ∷ xs) ≡ None
among_error x [] = refl
among_error x (y ∷ xs) = ap (λ o. either None o) (among_error y xs)

error_among : (m : Solution) (es : List Expr) → (length es == 0) ≡ false → among None (map (meaning m) es) ≡ None
error_among m [] n = let k : true ≡ false = n in cc
error_among m (d ∷ rest) n = among_error (meaning m d) (map (meaning m) rest)

module _ (m : Solution) (e inner : Expr) (es : List Expr) where
  pub in_error : (f : ExprFault) → e ≡ expr.In inner es → (length es == 0) ≡ false → Errs (makes inner) (meaning m inner) f → Errs (makes e) (meaning m e) f
  in_error TypeError is n h = ap (meaning m) is ∙ (in_is m inner es ∙ (ap (λ x. boolean_value (among x (map (meaning m) es))) h ∙ ap boolean_value (error_among m es n)))
  in_error Memory is n h = ap makes is ∙ (in_makes inner es ∙ first_of_two (makes inner) (some (map makes es)) h)

  pub not_in_error : (f : ExprFault) → e ≡ expr.NotIn inner es → (length es == 0) ≡ false → Errs (makes inner) (meaning m inner) f → Errs (makes e) (meaning m e) f
  not_in_error TypeError is n h = ap (meaning m) is ∙ (not_in_is m inner es ∙ (ap (λ x. boolean_value (denied (among x (map (meaning m) es)))) h ∙ ap (λ o. boolean_value (denied o)) (error_among m es n)))
  not_in_error Memory is n h = ap makes is ∙ (not_in_makes inner es ∙ first_of_two (makes inner) (some (map makes es)) h)

  none : (ds : List Expr) → (length ds == 0) ≡ true → among (meaning m inner) (map (meaning m) ds) ≡ Some false
  none [] n = refl
  none (d ∷ ds) n = absurd (let k : length (d ∷ ds) ≡ 0 = eqb-true (length (d ∷ ds)) 0 n in omega arith)

  pub in_none : e ≡ expr.In inner es → (length es == 0) ≡ true → meaning m e ≡ Some (boolean_term false)
  in_none is n = ap (meaning m) is ∙ (in_is m inner es ∙ ap boolean_value (none es n))

  pub not_in_none : e ≡ expr.NotIn inner es → (length es == 0) ≡ true → meaning m e ≡ Some (boolean_term true)
  not_in_none is n = ap (meaning m) is ∙ (not_in_is m inner es ∙ ap (λ o. boolean_value (denied o)) (none es n))

module _ (m : Solution) (e first : Expr) where
  pub sum_error_first : (more : List Addend) (f : ExprFault) → e ≡ expr.Sum first more → Errs (makes first) (number (meaning m first)) f → Errs (makes e) (meaning m e) f
  sum_error_first more TypeError is h = ap (meaning m) is ∙ (sum_is m first more ∙ (ap (λ s. integer_value (fold added s (map (addend_meaning m) more))) h ∙ ap integer_value (no_sum (map (addend_meaning m) more))))
  sum_error_first more Memory is h = ap makes is ∙ (sum_makes first more ∙ first_of_two (makes first) (some (map addend_makes more)) h)

  pub product_error_first : (more : List Expr) (f : ExprFault) → e ≡ expr.Product first more → Errs (makes first) (number (meaning m first)) f → Errs (makes e) (meaning m e) f
  product_error_first more TypeError is h = ap (meaning m) is ∙ (product_is m first more ∙ (ap (λ s. integer_value (fold multiplied s (map (meaning m) more))) h ∙ ap integer_value (no_product (map (meaning m) more))))
  product_error_first more Memory is h = ap makes is ∙ (product_makes first more ∙ first_of_two (makes first) (some (map makes more)) h)

-- whether a slice of the parts is empty is whether the parts are
pub as_parts : (slice parts : List Expr) (r b : Bool) → slice ≡ parts → r ≡ (length slice == 0) → r ≡ b → (length parts == 0) ≡ b
as_parts slice parts r b e k h = ap (λ l. length l == 0) (sym e) ∙ (sym k ∙ h)

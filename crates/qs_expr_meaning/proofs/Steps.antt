-- One operand more of a chain.
use Rattle.std.proofs.Common.{◌≡◌, ℕ, suc, ◌+◌, ◌<◌, List, [], ◌∷◌, map, drop, length, get_or, Option, Some, None, refl, ap, sym, ◌∙◌, add-one, drop-cons, if◌then◌else◌}
use Rattle.std.specs.Prelude.{ℤ}
use Rattle.std.specs.Int.{w128}
use Rattle.std.specs.Int.RustNames.{FitsSigned}
use Rattle.qs_expr_values.specs.Number.{in_range}
use Rattle.qs_expr_values.proofs.Numbers.{fits}
use Rattle.qs_algebra_solutions.specs.Solution.{Solution}
use Rattle.qs_expr_meaning.specs.Calls.{Value}
use Rattle.qs_expr_meaning.specs.Meaning.{SignedValue, meaning, added, multiplied}
use Rattle.qs_expr_meaning.specs.inner.Meaning.{addend_meaning}
use Rattle.std.specs.List.{fold}
use Rattle.qs_expr_meaning.specs.inner.Comes.{Errs}
use Rattle.qs_expr_meaning.specs.inner.Makes.{makes, addend_makes, some}
use Rattle.qs_expr_meaning.proofs.Flags.{some_at}
use Rattle.qs_expr_meaning.specs.declared.fault.ExprFault.{ExprFault}
use Rattle.qs_expr_meaning.specs.declared.fault.ExprFault.TheVariants.{TypeError, Memory}
use Rattle.qs_expr_meaning.specs.declared.expr.Addend.{Addend}
use Rattle.qs_expr_meaning.specs.inner.SoFar.{sum_from, product_from}
use Rattle.qs_expr_meaning.specs.declared.expr.Expr.{Expr}

pub next : {X : Type 0} (xs : List X) (i : ℕ) (x : X) → i < length xs → x ≡ get_or xs i x → drop i xs ≡ x ∷ drop (i + 1) xs
next xs i x l e = drop-cons xs i x l ∙ (ap (λ y. y ∷ drop (suc i) xs) (sym e) ∙ ap (λ n. x ∷ drop n xs) (sym (add-one i)))

-- a number of the range stays in it
pub stays_in_range : (z : ℤ) → FitsSigned w128 z → in_range (Some z) ≡ Some z
stays_in_range z h = ap (λ b. if b then Some z else None) (fits z h)

-- ---- sums and products

pub no_sum : (parts : List SignedValue) → fold added None parts ≡ None
no_sum [] = refl
no_sum (p ∷ parts) = no_sum parts

pub no_product : (parts : List Value) → fold multiplied None parts ≡ None
no_product [] = refl
no_product (p ∷ parts) = no_product parts

module _ (m : Solution) (more : List Addend) (i : ℕ) (a : Addend) (due : Option ℤ) (sum : ℤ) where
  sum_next : i < length more → a ≡ get_or more i a → due ≡ sum_from m (Some sum) more i → due ≡ sum_from m (added (Some sum) (addend_meaning m a)) more (i + 1)
  sum_next l is h = h ∙ ap (λ rest. fold added (Some sum) (map (addend_meaning m) rest)) (next more i a l is)

  pub sum_more : (s : ℤ) → i < length more → a ≡ get_or more i a → due ≡ sum_from m (Some sum) more i → added (Some sum) (addend_meaning m a) ≡ Some s → due ≡ sum_from m (Some s) more (i + 1)
  sum_more s l is h e = sum_next l is h ∙ ap (λ o. sum_from m o more (i + 1)) e

  pub sum_error : (f : ExprFault) → i < length more → a ≡ get_or more i a → due ≡ sum_from m (Some sum) more i → Errs (addend_makes a) (added (Some sum) (addend_meaning m a)) f → Errs (some (map addend_makes more)) due f
  sum_error TypeError l is h e = sum_next l is h ∙ (ap (λ o. sum_from m o more (i + 1)) e ∙ no_sum (map (addend_meaning m) (drop (i + 1) more)))
  sum_error Memory l is h e = some_at addend_makes more i a l is e

module _ (m : Solution) (more : List Expr) (i : ℕ) (a : Expr) (due : Option ℤ) (product : ℤ) where
  product_next : i < length more → a ≡ get_or more i a → due ≡ product_from m (Some product) more i → due ≡ product_from m (multiplied (Some product) (meaning m a)) more (i + 1)
  product_next l is h = h ∙ ap (λ rest. fold multiplied (Some product) (map (meaning m) rest)) (next more i a l is)

  pub product_more : (s : ℤ) → i < length more → a ≡ get_or more i a → due ≡ product_from m (Some product) more i → multiplied (Some product) (meaning m a) ≡ Some s → due ≡ product_from m (Some s) more (i + 1)
  product_more s l is h e = product_next l is h ∙ ap (λ o. product_from m o more (i + 1)) e

  pub product_error : (f : ExprFault) → i < length more → a ≡ get_or more i a → due ≡ product_from m (Some product) more i → Errs (makes a) (multiplied (Some product) (meaning m a)) f → Errs (some (map makes more)) due f
  product_error TypeError l is h e = product_next l is h ∙ (ap (λ o. product_from m o more (i + 1)) e ∙ no_product (map (meaning m) (drop (i + 1) more)))
  product_error Memory l is h e = some_at makes more i a l is e

-- One operand more of `||`, `&&`, IN, COALESCE and CONCAT.
use Rattle.std.proofs.Common.{◌≡◌, ℕ, ◌+◌, ◌<◌, ◌≤◌, Bool, true, false, List, ◌∷◌, map, drop, length, get_or, Option, Some, None, refl, ap, sym, ◌∙◌, subst}
use Rattle.std.specs.Option.{option_map, option_and_then}
use Rattle.std.proofs.lemmas.List.{drop_all}
use Rattle.qs_algebra_solutions.specs.Solution.{Solution}
use Rattle.qs_terms.specs.declared.term.Term.{Term}
use Rattle.qs_expr_meaning.specs.Calls.{joined, strings}
use Rattle.qs_expr_meaning.specs.inner.Comes.{Errs}
use Rattle.qs_expr_meaning.specs.inner.Joined.{SoFar, nothing, with_value, finished, joined_from}
use Rattle.qs_expr_meaning.specs.inner.Makes.{makes, some}
use Rattle.qs_expr_meaning.specs.Meaning.{meaning}
use Rattle.qs_expr_meaning.specs.inner.SoFar.{so_far}
use Rattle.qs_expr_meaning.specs.Truth.{either, both}
use Rattle.qs_expr_meaning.specs.declared.expr.Expr.{Expr}
use Rattle.qs_expr_meaning.specs.declared.fault.ExprFault.{ExprFault}
use Rattle.qs_expr_meaning.specs.declared.fault.ExprFault.TheVariants.{TypeError, Memory}
use Rattle.qs_expr_meaning.proofs.Flags.{some_at}
use Rattle.qs_expr_meaning.proofs.Joining.{all_joined, one_more, no_more}
use Rattle.qs_expr_meaning.proofs.Steps.{next}

-- where a part wants memory, it takes some
pub part_wants : {X : Type 0} (parts : List Expr) (i : ℕ) (e : Expr) (due : Option X) (f : ExprFault) → i < length parts → e ≡ get_or parts i e → f ≡ Memory → Errs (makes e) due f → some (map makes parts) ≡ true
part_wants parts i e due f l is k h = some_at makes parts i e l is (subst (Errs (makes e) due) k h)

either_error : (errs : Bool) (rest : Option Bool) → either (so_far false errs) (either None rest) ≡ either None rest
either_error false rest = refl
either_error true (Some true) = refl
either_error true (Some false) = refl
either_error true None = refl

both_error : (errs : Bool) (rest : Option Bool) → both (so_far true errs) (both None rest) ≡ both None rest
both_error false rest = refl
both_error true (Some true) = refl
both_error true (Some false) = refl
both_error true None = refl

-- a chain of `either`
module _ (due : List Expr → Option Bool) (parts : List Expr) (i : ℕ) (e : Expr) (first : Option Bool) (errs now : Bool) (step : (rest : List Expr) → due (e ∷ rest) ≡ either first (due rest)) (l : i < length parts) (is : e ≡ get_or parts i e) (before : due parts ≡ either (so_far false errs) (due (drop i parts))) where
  either_at : due parts ≡ either (so_far false errs) (either first (due (drop (i + 1) parts)))
  either_at = before ∙ (ap (λ ps. either (so_far false errs) (due ps)) (next parts i e l is) ∙ ap (either (so_far false errs)) (step (drop (i + 1) parts)))

  pub either_false : (b : Bool) → b ≡ false → first ≡ Some b → now ≡ errs → due parts ≡ either (so_far false now) (due (drop (i + 1) parts))
  either_false b k h n =
      either_at ∙ (ap (λ o. either (so_far false errs) (either o (due (drop (i + 1) parts)))) (h ∙ ap Some k)
      ∙ ap (λ c. either (so_far false c) (due (drop (i + 1) parts))) (sym n))

  pub either_errs : (mk : Bool) (f : ExprFault) → f ≡ TypeError → Errs mk first f → now ≡ true → due parts ≡ either (so_far false now) (due (drop (i + 1) parts))
  either_errs mk f k h n =
      either_at ∙ (ap (λ o. either (so_far false errs) (either o (due (drop (i + 1) parts)))) (subst (Errs mk first) k h)
      ∙ (either_error errs (due (drop (i + 1) parts)) ∙ ap (λ c. either (so_far false c) (due (drop (i + 1) parts))) (sym n)))

-- a chain of `both`
module _ (due : List Expr → Option Bool) (parts : List Expr) (i : ℕ) (e : Expr) (first : Option Bool) (errs now : Bool) (step : (rest : List Expr) → due (e ∷ rest) ≡ both first (due rest)) (l : i < length parts) (is : e ≡ get_or parts i e) (before : due parts ≡ both (so_far true errs) (due (drop i parts))) where
  both_at : due parts ≡ both (so_far true errs) (both first (due (drop (i + 1) parts)))
  both_at = before ∙ (ap (λ ps. both (so_far true errs) (due ps)) (next parts i e l is) ∙ ap (both (so_far true errs)) (step (drop (i + 1) parts)))

  pub both_true : (b : Bool) → b ≡ true → first ≡ Some b → now ≡ errs → due parts ≡ both (so_far true now) (due (drop (i + 1) parts))
  both_true b k h n =
      both_at ∙ (ap (λ o. both (so_far true errs) (both o (due (drop (i + 1) parts)))) (h ∙ ap Some k)
      ∙ ap (λ c. both (so_far true c) (due (drop (i + 1) parts))) (sym n))

  pub both_errs : (mk : Bool) (f : ExprFault) → f ≡ TypeError → Errs mk first f → now ≡ true → due parts ≡ both (so_far true now) (due (drop (i + 1) parts))
  both_errs mk f k h n =
      both_at ∙ (ap (λ o. both (so_far true errs) (both o (due (drop (i + 1) parts)))) (subst (Errs mk first) k h)
      ∙ (both_error errs (due (drop (i + 1) parts)) ∙ ap (λ c. both (so_far true c) (due (drop (i + 1) parts))) (sym n)))

-- CONCAT
module _ (m : Solution) (parts : List Expr) (i : ℕ) (s : SoFar) (before : joined_from nothing (map (meaning m) parts) ≡ joined_from s (map (meaning m) (drop i parts))) where
  pub concat_end : (t : Term) → length parts ≤ i → t ≡ finished s → option_map joined (strings (map (meaning m) parts)) ≡ Some t
  concat_end t l h =
      sym (all_joined (map (meaning m) parts)) ∙ (before ∙ (ap (λ ps. joined_from s (map (meaning m) ps)) (drop_all i parts l) ∙ ap Some (sym h)))

  pub concat_more : (e : Expr) (n : SoFar) → i < length parts → e ≡ get_or parts i e → option_and_then (with_value s) (meaning m e) ≡ Some n → joined_from nothing (map (meaning m) parts) ≡ joined_from n (map (meaning m) (drop (i + 1) parts))
  concat_more e n l is h =
      before ∙ (ap (λ ps. joined_from s (map (meaning m) ps)) (next parts i e l is) ∙ one_more s n (meaning m e) (map (meaning m) (drop (i + 1) parts)) h)

  pub concat_error : (e : Expr) (f : ExprFault) → i < length parts → e ≡ get_or parts i e → Errs true (option_and_then (with_value s) (meaning m e)) f → Errs true (option_map joined (strings (map (meaning m) parts))) f
  concat_error e TypeError l is h =
      sym (all_joined (map (meaning m) parts)) ∙ (before ∙ (ap (λ ps. joined_from s (map (meaning m) ps)) (next parts i e l is) ∙ no_more s (meaning m e) (map (meaning m) (drop (i + 1) parts)) h))
  concat_error e Memory l is h = h

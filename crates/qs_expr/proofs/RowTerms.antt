-- The terms of a row's variables, and what is asked of them.
use Rattle.std.proofs.Common.{◌≡◌, ℕ, Bool, false, not, if◌then◌else◌, List, Some, None, sym, ◌∙◌, ap}
use Rattle.std.proofs.Math.ListN.{get_or-map}
use Rattle.qs_terms.specs.declared.term.Term.{Term}
use Rattle.qs_terms.specs.Term.{same_term}
use Rattle.std.specs.Option.{option_map}
use Rattle.std.proofs.lemmas.Option.{same_Some}
use Rattle.qs_expr_values.specs.inner.TermValue.{term_value}
use Rattle.qs_expr_values.specs.declared.term_value.TermValue.{TermValue}
use Rattle.qs_dict.specs.inner.Dict as dict
use Rattle.qs_algebra_solutions.specs.Solution.{term_at}
use Rattle.qs_expr_meaning.specs.Meaning.{meaning}
use Rattle.qs_expr_meaning.specs.declared.expr.Expr.{Expr}
use Rattle.qs_expr_meaning.specs.declared.expr.Expr.TheVariants as expr
use Rattle.qs_expr_meaning.proofs.Equations.{variable_is}
use Rattle.qs_expr.specs.declared.cell.Cell.{Cell}
use Rattle.qs_expr.specs.inner.Cell.{Cells, cell_at, denoted, denoted_if, row_solution, FitsRow}
use Rattle.qs_expr.specs.inner.Evaluated.{IsDue}
use Rattle.qs_expr.specs.inner.Against.{has_term}
use Rattle.qs_expr.proofs.Finding.{term_there}

module _ (known table : List Term) (m : Cells) where
  pub term_at_row : (v : ℕ) → term_at (row_solution known table m) v ≡ denoted_if known table (cell_at m v)
  term_at_row v = get_or-map (denoted_if known table) m v None

  pub term_read : (v : ℕ) (c : Cell) (t : Term) → Some c ≡ cell_at m v → denoted known table c ≡ Some t → Some t ≡ term_at (row_solution known table m) v
  term_read v c t e h = sym (term_at_row v ∙ (ap (denoted_if known table) (sym e) ∙ h))

  pub none_read : (v : ℕ) → None ≡ cell_at m v → None ≡ term_at (row_solution known table m) v
  none_read v e = sym (term_at_row v ∙ ap (denoted_if known table) (sym e))

  -- the value of a variable
  pub variable_due : (e : Expr) (v : ℕ) (c : Cell) → FitsRow known table m → e ≡ expr.Variable v → Some c ≡ cell_at m v → IsDue (meaning (row_solution known table m) e) known table c
  variable_due e v c h is k =
      let p = term_there (denoted known table c) (h.each v c (sym k)) in
      record {
        term = p.0;
        is = ap (meaning (row_solution known table m)) is ∙ (variable_is (row_solution known table m) v ∙ sym (term_read v c p.0 k p.1));
        denotes = p.1;
      }

  pub variable_errs : (e : Expr) (v : ℕ) → e ≡ expr.Variable v → None ≡ cell_at m v → meaning (row_solution known table m) e ≡ None
  variable_errs e v is k = ap (meaning (row_solution known table m)) is ∙ (variable_is (row_solution known table m) v ∙ sym (none_read v k))

  -- whether a variable has a term
  pub has_there : FitsRow known table m → (v : ℕ) (c : Cell) (t : Term) (apart it : Bool) → Some c ≡ cell_at m v → ((x : Term) → denoted known table c ≡ Some x → it ≡ same_term x t)
      → has_term apart t (term_at (row_solution known table m) v) ≡ (if apart then not it else it)
  has_there h v c t apart it k told =
      let p = term_there (denoted known table c) (h.each v c (sym k)) in
      ap (has_term apart t) (sym (term_read v c p.0 k p.1)) ∙ ap (λ b. if apart then not b else b) (sym (told p.0 p.1))

  pub has_nowhere : (v : ℕ) (t : Term) (apart : Bool) → None ≡ cell_at m v → has_term apart t (term_at (row_solution known table m) v) ≡ false
  has_nowhere v t apart k = ap (has_term apart t) (sym (none_read v k))

-- what is kept of a known term is that of the term
pub value_of_term : (terms : List Term) (n : ℕ) (t : Term) (v : TermValue) → dict.term_at terms n ≡ Some t → option_map term_value (dict.term_at terms n) ≡ Some v → v ≡ term_value t
value_of_term terms n t v there kept = sym (same_Some _ _ (ap (option_map term_value) (sym there) ∙ kept))

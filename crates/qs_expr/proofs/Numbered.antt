-- What the numbers of cells say of their terms.
use Rattle.std.proofs.Common.{◌≡◌, ℕ, ◌==◌, Bool, true, false, List, Some, None, refl, sym, ◌∙◌, ap}
use Rattle.std.specs.Prelude.{is_some, slice_get}
use Rattle.qs_terms.specs.declared.term.Term.{Term}
use Rattle.qs_terms.specs.Term.{same_term}
use Rattle.qs_terms.proofs.SameTerm.{same_term-Decides}
use Rattle.qs_dict.specs.inner.Dict.{number_of}
use Rattle.qs_expr.specs.declared.cell.Cell.TheVariants.{Known, Scratch}
use Rattle.qs_expr.specs.declared.cell.Cell.{Cell}
use Rattle.qs_expr.specs.inner.Cell.{Cells, cell_at, denoted, FitsRow}
use Rattle.qs_expr.specs.inner.Scratch.{IsTable}
use Rattle.qs_expr.proofs.Finding.{numbered, same_cells}
use Rattle.qs_expr.proofs.Places.{number_nowhere, number_there}

module _ (known table : List Term) (h : IsTable known table) (t x : Term) where
  -- two numbers are one where their terms are the same
  pub known_is : (n own : ℕ) → number_of known t ≡ Some own → denoted known table (Known n) ≡ Some x → (n == own) ≡ same_term x t
  known_is n own e d = same_cells known table h (Known n) (Known own) x t d (number_there known t own e)

  -- a term without a number is none of the known ones
  pub known_is_not : (n : ℕ) → number_of known t ≡ None → denoted known table (Known n) ≡ Some x → same_term x t ≡ false
  known_is_not n e d = by (same_term x t) refl
    where
      by : (b : Bool) → same_term x t ≡ b → b ≡ false
      by false s = refl
      by true s =
          let i : x ≡ t = (same_term-Decides x t).0 s in
          let k = numbered known t n (d ∙ ap Some i) in
          sym k ∙ number_nowhere known t e

  -- a term of the table is none of the known ones
  pub scratch_is_not : (k own : ℕ) → number_of known t ≡ Some own → denoted known table (Scratch k) ≡ Some x → same_term x t ≡ false
  scratch_is_not k own e d = sym (same_cells known table h (Scratch k) (Known own) x t d (number_there known t own e))

-- a row's cell of the table is one of its places
pub scratch_fits : (known table : List Term) (m : Cells) (v : ℕ) (c : Cell) (k : ℕ) → FitsRow known table m → cell_at m v ≡ Some c → c ≡ Scratch k → is_some (slice_get table k) ≡ true
scratch_fits known table m v c k f e s = ap (λ x. is_some (denoted known table x)) (sym s) ∙ f.each v c e

-- The scratch table: the terms that the dictionary lacks.
use Rattle.std.specs.Prelude.{◌≡◌, Bool, List, [], ◌∷◌, ◌++◌, Some, if◌then◌else◌}
use Rattle.std.specs.List.{list_any}
use Rattle.qs_terms.specs.Term.{same_term}
use Rattle.qs_terms.specs.declared.term.Term.{Term}
use Rattle.qs_expr.specs.declared.cell.Cell.{Cell}
use Rattle.qs_expr.specs.inner.Cell.{denoted}

-- each term has one cell: it stands once in the dictionary, or once in the table, and not in both
pub record IsTable (known table : List Term) : Type 0 where
  pub one : (a b : Cell) (t : Term) → denoted known table a ≡ Some t → denoted known table b
      ≡ Some t → a ≡ b

-- the table goes on, and each term still has one cell
pub record Grows (known old new : List Term) : Type 0 where
  pub more : List Term
  pub is : new ≡ old ++ more
  pub table : IsTable known new

-- the table with the term at its end, where neither the dictionary nor the table has it
abbrev pub with_term : List Term → List Term → Term → List Term
with_term known table t = if list_any (same_term t) (known ++ table) then table else table ++ t ∷ []

-- whether cells of a dictionary and its table denote the same term
abbrev pub TellsSameTerm : Cell → Cell → Bool → Type 0
TellsSameTerm a b result =
    (known table : List Term) (x y : Term) → IsTable known table → denoted known table a ≡ Some x
    → denoted known table b ≡ Some y → result ≡ same_term x y

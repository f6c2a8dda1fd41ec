-- Values of expressions at rows of cells (SPARQL 1.1 Query, 17).
use Rattle.std.specs.Prelude.{◌≡◌, Bool, ◌||◌, List, Option, Some, Result, MatchResult}
use Rattle.std.specs.Option.{is_some}
use Rattle.qs_terms.specs.declared.term.Term.{Term}
use Rattle.qs_expr_meaning.specs.inner.Comes.{Errs}
use Rattle.qs_expr_meaning.specs.inner.Makes.{makes}
use Rattle.qs_expr_meaning.specs.Meaning.{holds, meaning}
use Rattle.qs_expr_meaning.specs.declared.expr.Expr.{Expr}
use Rattle.qs_expr_meaning.specs.declared.fault.ExprFault.{ExprFault}
use Rattle.qs_expr.specs.declared.cell.Cell.{Cell}
use Rattle.qs_expr.specs.inner.Cell.{Cells, denoted, row_solution}

-- what the expression means at the row
abbrev pub value_at : List Term → List Term → Cells → Expr → Option Term
value_at known table m e = meaning (row_solution known table m) e

-- whether the condition is true of the row
abbrev pub holds_at : List Term → List Term → Cells → Expr → Bool
holds_at known table m e = holds (row_solution known table m) e

-- the cell denotes the term that is due
pub record IsDue (due : Option Term) (known table : List Term) (c : Cell) : Type 0 where
  pub term : Term
  pub is : due ≡ Some term
  pub denotes : denoted known table c ≡ Some term

-- the cell, by the new table, of what the expression means at the row, by the old one; an error
-- exactly where it means nothing, and running out of memory only where memory is taken: for a term,
-- or by the expression
abbrev pub Evaluates : List Term → List Term → List Term → Cells → Expr → Result Cell ExprFault
    → Type 0
Evaluates known old new m e result =
    let due = value_at known old m e in
    MatchResult result (IsDue due known new) (Errs (makes e || is_some due) due)

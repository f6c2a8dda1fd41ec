-- Rows that are gathered of a walk.
use Rattle.std.specs.Prelude.{List, ◌++◌}
use Rattle.qs_terms.specs.Bag.{SameBag}
use Rattle.qs_terms.specs.declared.term.Term.{Term}
use Rattle.qs_algebra_solutions.specs.Solution.{Solution}
use Rattle.qs_expr.specs.inner.Cell.{Cells}
use Rattle.qs_ops_program.specs.inner.Flow.{Instruction}
use Rattle.qs_ops_tables.specs.inner.Tables.{FitRows, row_solutions}
use Rattle.qs_ops_walk.specs.declared.source.Level.{Level}
use Rattle.qs_ops_walk.specs.inner.Setting.{Setting, known_of}
use Rattle.qs_ops_walk.specs.inner.Cursor.{named_coming}

-- the rows, and what is still to come over named variables, are all of these solutions
pub record Gathers (s : Setting) (code : List Instruction) (all : List Solution) (table : List Term)
    (rows : List Cells) (ls : List Level) : Type 0 where
  pub bag : SameBag all (row_solutions (known_of s) table rows ++ named_coming s code table ls)
  pub fit : FitRows (known_of s) table rows

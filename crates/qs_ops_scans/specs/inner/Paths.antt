-- The pairs of a path by cells, and the rows that they serve.
use Rattle.std.specs.Prelude.{List, map, Option, None, Some}
use Rattle.std.specs.List.{filter}
use Rattle.qs_terms.specs.Bag.{SameBag}
use Rattle.qs_terms.specs.declared.term.Term.{Term}
use Rattle.qs_paths_meaning.specs.Pair.{Pair}
use Rattle.qs_paths_meaning.specs.Steps.{is_between}
use Rattle.qs_algebra_patterns.specs.Basic.{Graph}
use Rattle.qs_algebra_patterns.specs.declared.pattern.Slot.{Slot}
use Rattle.qs_algebra_patterns.specs.declared.pattern.Slot.TheVariants as slot
use Rattle.qs_algebra_patterns.specs.declared.pattern.PathPattern.{PathPattern}
use Rattle.qs_expr.specs.declared.cell.Cell.{Cell}
use Rattle.qs_expr.specs.inner.Cell.{Cells, cell_at, denoted_if}
use Rattle.qs_plan_meaning.specs.inner.Scans.{path_pairs}
use Rattle.qs_ops_scans.specs.declared.bound.RowEnds.{RowEnds}
pub use Rattle.qs_paths.specs.inner.Coming.{denoted_pair, pair_if}

-- the cells denote these pairs, in any order
abbrev pub ArePairs : List Term → List Term → List (Cell × Cell) → List Pair → Type 0
ArePairs known table cells pairs = SameBag (map (denoted_pair known table) cells) (map Some pairs)

-- the cell that a row has for the variable at an end; none where the end is a term
abbrev pub row_end : Slot → Cells → Option Cell
row_end (slot.Term t) m = None
row_end (slot.Variable v) m = cell_at m v

abbrev pub row_ends : PathPattern → Cells → RowEnds
row_ends p m = record { subject = row_end p.subject m; object = row_end p.object m }

-- the cells denote pairs among which the pattern's pairs with these ends are all that have them;
-- an end may be left open
pub record ServeBetween
    (known table : List Term) (p : PathPattern) (graph : Graph) (left right : Option Term)
    (cells : List (Cell × Cell)) : Type 0 where
  pub pairs : List Pair
  pub are : ArePairs known table cells pairs
  pub same :
      SameBag (filter (is_between left right) pairs)
      (filter (is_between left right) (path_pairs p graph))

-- the pairs serve between the terms of the cells at the ends; an end without a cell is open
abbrev pub Serve :
    List Term → List Term → PathPattern → Graph → RowEnds → List (Cell × Cell) → Type 0
Serve known table p graph ends cells =
    ServeBetween known table p graph
    (denoted_if known table ends.subject) (denoted_if known table ends.object) cells

-- Pairs that ascend by one end.
use Rattle.std.specs.Prelude.{◌≡◌, ℕ, ◌<◌, ◌≤◌, List, drop, length, slice_index_or, take, Option}
use Rattle.std.specs.Prelude.{None, Some}
use Rattle.std.specs.List.{filter_map}
use Rattle.std.specs.List.Sorted.{IsNonDecreasingBy}
use Rattle.qs_expr.specs.declared.cell.Cell.{Cell}
use Rattle.qs_expr.specs.declared.cell.Cell.TheVariants.{Known, Scratch}
use Rattle.qs_expr.specs.inner.Cell.{Cells}
use Rattle.qs_ops_scans.specs.declared.ends.Ends.{Ends}
use Rattle.qs_ops_scans.specs.declared.kept.Side.{Side}
use Rattle.qs_ops_scans.specs.declared.kept.Side.TheVariants.{Subject, Object}
use Rattle.qs_ops_scans.specs.declared.kept.Span.{Span}
use Rattle.qs_ops_scans.specs.inner.Ends.{pair_made}

abbrev pub cell_key : Cell → ℕ
cell_key (Known n) = n
cell_key (Scratch k) = k

abbrev pub side_key : Side → Cell × Cell → ℕ
side_key Subject cells = cell_key cells.0
side_key Object cells = cell_key cells.1

-- the pairs ascend by this end, if one is given
abbrev pub IsInOrder : Option Side → List (Cell × Cell) → Type 0
IsInOrder None cells = Unit {0}
IsInOrder (Some side) cells = IsNonDecreasingBy (side_key side) cells

abbrev pub end_at : Ends → Side → Option ℕ
end_at ends Subject = ends.subject
end_at ends Object = ends.object

-- outside of the span no pair has the key
pub record IsSpanOf (side : Side) (key : ℕ) (cells : List (Cell × Cell)) (span : Span) : Type
    0 where
  pub before : (k : ℕ) (d : Cell × Cell) → k < span.from → k < length cells
      → (side_key side (slice_index_or cells k d) ≡ key → ⊥)
  pub past : (k : ℕ) (d : Cell × Cell) → span.to ≤ k → k < length cells
      → (side_key side (slice_index_or cells k d) ≡ key → ⊥)

-- those of the span make all rows
abbrev pub IsSpan : Ends → Cells → List (Cell × Cell) → Span → Type 0
IsSpan ends m cells span = filter_map (pair_made ends m) (drop span.from (take span.to cells))
    ≡ filter_map (pair_made ends m) cells

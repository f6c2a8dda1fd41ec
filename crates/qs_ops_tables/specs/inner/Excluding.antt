-- The test of MINUS, variable by variable.
use Rattle.std.specs.Prelude.{Bool, true, ◌&&◌, ◌||◌, Option, None, Some, if◌then◌else◌}
use Rattle.qs_expr.specs.declared.cell.Cell.{Cell}
use Rattle.qs_expr.specs.inner.Cell.{Cells, same_cell}
use Rattle.qs_expr.specs.inner.Row.{compatible_cells}
use Rattle.qs_ops_tables.specs.inner.Tables.{share_cells}

-- whether some variable is shared, with one more; none where its cells differ
abbrev pub share_next : Bool → Option Cell → Option Cell → Option Bool
share_next shared None y = Some shared
share_next shared (Some x) None = Some shared
share_next shared (Some x) (Some y) = if same_cell x y then Some true else None

-- the test from a variable on, where some variable before it may be shared
abbrev pub excludes_from : Bool → Cells → Cells → Bool
excludes_from shared a b = compatible_cells a b && (shared || share_cells a b)

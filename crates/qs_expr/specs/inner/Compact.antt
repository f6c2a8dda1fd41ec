-- Cells as rows keep them.
use Rattle.std.specs.Prelude.{◌+◌, ◌*◌, List, map, Option, None, Some}
use Rattle.qs_expr.specs.declared.cell.Cell.{Cell}
use Rattle.qs_expr.specs.declared.cell.Cell.TheVariants as cell
use Rattle.qs_expr.specs.declared.compact.CompactCell.{CompactCell}
use Rattle.qs_expr.specs.declared.compact.CompactCell.TheVariants.{Unbound, Known, Scratch}
use Rattle.qs_expr.specs.inner.Cell.{Cells}

-- the cell, or none
abbrev pub cell_of : CompactCell → Option Cell
cell_of Unbound = None
cell_of (Known n) = Some (cell.Known n)
cell_of (Scratch low high) = Some (cell.Scratch (high * 4294967296 + low))

-- the cells of all variables
abbrev pub cells_of : List CompactCell → Cells
cells_of compact = map cell_of compact

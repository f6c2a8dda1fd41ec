-- What a pair of cells makes of a row.
use Rattle.std.specs.Prelude.{◌≡◌, ℕ, Bool, true, false, ◌==◌, ◌&&◌, nat_lt, List, [], ◌∷◌, drop}
use Rattle.std.specs.Prelude.{length, Option, None, Some, slice_set, if◌then◌else◌}
use Rattle.std.specs.List.{filter_map}
use Rattle.qs_algebra_patterns.specs.declared.pattern.Slot.{Slot}
use Rattle.qs_algebra_patterns.specs.declared.pattern.Slot.TheVariants as slot
use Rattle.qs_algebra_patterns.specs.declared.pattern.PathPattern.{PathPattern}
use Rattle.qs_expr.specs.declared.cell.Cell.{Cell}
use Rattle.qs_expr.specs.inner.Cell.{Cells, cell_at, same_cell}
use Rattle.qs_ops_scans.specs.declared.ends.Ends.{Ends}
use Rattle.qs_ops_scans.specs.declared.ends.EndAct.{EndAct}
use Rattle.qs_ops_scans.specs.declared.ends.EndAct.TheVariants.{Pass, Bind, Test, AsSubject}
use Rattle.qs_ops_scans.specs.declared.ends.EndActs.{EndActs}

-- the variable of an end, if it is one
abbrev pub variable_of : Slot → Option ℕ
variable_of (slot.Term t) = None
variable_of (slot.Variable v) = Some v

abbrev pub ends_of : PathPattern → Ends
ends_of p = record { subject = variable_of p.subject; object = variable_of p.object }

-- the cell that the row has for the variable of an end
abbrev pub bound_cell : Cells → Option ℕ → Option Cell
bound_cell m None = None
bound_cell m (Some v) = cell_at m v

-- no other cell is bound
abbrev pub agrees_cell : Option Cell → Cell → Bool
agrees_cell None c = true
agrees_cell (Some d) c = same_cell d c

-- the end's variable, if it is one, has this cell in the row or none
abbrev pub subject_agrees : Option ℕ → Cell → Cells → Bool
subject_agrees None c m = true
subject_agrees (Some v) c m = agrees_cell (cell_at m v) c

-- the end has this variable, and the row has a cell for it
abbrev pub binds_end : Cells → Option ℕ → ℕ → Bool
binds_end m None w = false
binds_end m (Some v) w = (v == w) && nat_lt w (length m)

-- the cell of a variable after the end was bound to c
abbrev pub cell_after : Option Cell → Bool → Cell → Option Cell
cell_after None false c = None
cell_after None true c = Some c
cell_after (Some d) b c = Some d

-- the object's variable, if it is one, has this cell in the row or none, after the subject was
-- bound
abbrev pub object_agrees : Option ℕ → Option ℕ → Cell × Cell → Cells → Bool
object_agrees subject None cells m = true
object_agrees subject (Some v) cells m =
    agrees_cell (cell_after (cell_at m v) (binds_end m subject v) cells.0) cells.1

abbrev pub pair_agrees : Ends → Cells → Cell × Cell → Bool
pair_agrees ends m cells =
    subject_agrees ends.subject cells.0 m && object_agrees ends.subject ends.object cells m

abbrev pub set_open : Option Cell → ℕ → Cell → Cells → Cells
set_open None v c m = slice_set m v (Some c)
set_open (Some d) v c m = m

-- the row with the end's variable, if it is one, bound where it is not
abbrev pub end_bound : Option ℕ → Cell → Cells → Cells
end_bound None c m = m
end_bound (Some v) c m = set_open (cell_at m v) v c m

abbrev pub pair_bound : Ends → Cells → Cell × Cell → Cells
pair_bound ends m cells = end_bound ends.object cells.1 (end_bound ends.subject cells.0 m)

-- the row that the pair makes of the row
abbrev pub pair_made : Ends → Cells → Cell × Cell → Option Cells
pair_made ends m cells = if pair_agrees ends m cells then Some (pair_bound ends m cells) else None

-- ---- what is left to do for an end, once the row is known

abbrev pub open_act : Bool → ℕ → EndAct
open_act true v = AsSubject
open_act false v = Bind v

abbrev pub act_for : Option Cell → EndAct → EndAct
act_for None act = act
act_for (Some c) act = Test c

abbrev pub subject_act : Cells → Option ℕ → EndAct
subject_act m None = Pass
subject_act m (Some v) = act_for (cell_at m v) (Bind v)

abbrev pub object_act : Cells → Option ℕ → Option ℕ → EndAct
object_act m subject None = Pass
object_act m subject (Some v) = act_for (cell_at m v) (open_act (binds_end m subject v) v)

abbrev pub end_acts : Cells → Ends → EndActs
end_acts m ends =
    record { subject = subject_act m ends.subject; object = object_act m ends.subject ends.object }

abbrev pub act_agrees : EndAct → Cell → Cell → Bool
act_agrees Pass s c = true
act_agrees (Bind v) s c = true
act_agrees (Test d) s c = same_cell d c
act_agrees AsSubject s c = same_cell s c

abbrev pub acts_agree : EndActs → Cell × Cell → Bool
acts_agree acts cells =
    act_agrees acts.subject cells.0 cells.0 && act_agrees acts.object cells.0 cells.1

abbrev pub act_bound : EndAct → Cell → Cells → Cells
act_bound Pass c m = m
act_bound (Bind v) c m = slice_set m v (Some c)
act_bound (Test d) c m = m
act_bound AsSubject c m = m

abbrev pub acts_bound : EndActs → Cell × Cell → Cells → Cells
acts_bound acts cells m = act_bound acts.object cells.1 (act_bound acts.subject cells.0 m)

-- the row that the pair makes of the row
abbrev pub act_made : EndActs → Cells → Cell × Cell → Option Cells
act_made acts m cells = if acts_agree acts cells then Some (acts_bound acts cells m) else None

-- the first pair from a place on that makes a row, and the place after it; none where none does
abbrev pub IsNextPair : EndActs → Cells → List (Cell × Cell) → ℕ → Option (ℕ × (Cell × Cell))
    → Type 0
IsNextPair acts m cells from None = filter_map (act_made acts m) (drop from cells) ≡ []
IsNextPair acts m cells from (Some next) =
    filter_map (act_made acts m) (drop from cells) ≡ acts_bound acts next.1 m ∷ filter_map
    (act_made acts m) (drop next.0 cells)

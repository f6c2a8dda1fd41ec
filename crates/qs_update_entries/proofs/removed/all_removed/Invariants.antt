use Rattle.std.proofs.Common.{◌≡◌, map, take}
use Rattle.std.specs.List.{flat_map}
use Rattle.qs_expr.specs.inner.Cell.{row_solution}
use Rattle.qs_update_entries.specs.inner.Removed.{entries_under}
use Rattle.qs_update_entries.proofs.removed.all_removed.Given as goal

abbrev pub invariant-loop-row : goal.invariant-loop-row
invariant-loop-row l =
    l.entries.items ≡ flat_map (entries_under l.draft.store.now.draft.known l.template) (map (row_solution l.draft.store.now.draft.known l.scratch) (take l.row-index l.rows))

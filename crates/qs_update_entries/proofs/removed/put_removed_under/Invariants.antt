use Rattle.std.proofs.Common.{◌≡◌, ◌++◌, take}
use Rattle.std.specs.List.{filter_map, flat_map}
use Rattle.qs_expr.specs.inner.Cell.{row_solution}
use Rattle.qs_query_template.specs.Instances.{instance}
use Rattle.qs_store.specs.inner.Entries.{entry_of}
use Rattle.qs_update_entries.proofs.removed.put_removed_under.Given as goal

abbrev pub invariant-loop-quad : goal.invariant-loop-quad
invariant-loop-quad l =
    l.entries.items
    ≡ l.fn.entries.items ++ flat_map (λ q. filter_map (entry_of l.draft.store.now.draft.known) (instance 0 0 (row_solution l.draft.store.now.draft.known l.scratch l.row) q)) (take l.quad-index l.template.quads)

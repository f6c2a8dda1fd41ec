use Rattle.std.proofs.Common.{◌≡◌, map, take}
use Rattle.qs_expr.specs.inner.Cell.{row_solution}
use Rattle.qs_query_template.specs.Instances.{instances, next_after}
use Rattle.qs_store.specs.inner.Store.{IsFront}
use Rattle.qs_update_entries.specs.inner.Say.{Learns, Say}
use Rattle.qs_update_entries.proofs.added.all_added.Given as goal

abbrev pub invariant-loop-row : goal.invariant-loop-row
invariant-loop-row l = record {
  same_reference : l.draft.store.ghost_name ≡ l.fn.draft.store.ghost_name;
  learns : Learns l.fn.draft.store.now l.draft.store.now;
  front : IsFront l.fn.draft.store.now.draft.known l.draft.store.now.draft.known;
  first : l.first ≡ next_after l.template l.next l.row-index;
  say : Say l.fn.draft.store.now.draft.known l.draft.store.now.draft.known l.entries.items (instances l.template l.next (map (row_solution l.fn.draft.store.now.draft.known l.scratch) (take l.row-index l.rows)));
}

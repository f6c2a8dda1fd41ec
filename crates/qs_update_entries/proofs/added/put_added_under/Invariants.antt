use Rattle.std.proofs.Common.{◌≡◌, ◌++◌, List, take}
use Rattle.std.specs.List.{flat_map}
use Rattle.qs_terms.specs.Statement.{Statement}
use Rattle.qs_terms.specs.declared.term.Term.{Term}
use Rattle.qs_expr.specs.inner.Cell.{row_solution}
use Rattle.qs_query_template.specs.Instances.{instance}
use Rattle.qs_store.specs.inner.Store.{IsFront}
use Rattle.qs_update_entries.specs.inner.Say.{Learns, Say}
use Rattle.qs_update_entries.proofs.added.put_added_under.Given as goal

abbrev pub invariant-loop-quad : goal.invariant-loop-quad
invariant-loop-quad l = record {
  same_reference : l.draft.store.ghost_name ≡ l.fn.draft.store.ghost_name;
  learns : Learns l.fn.draft.store.now l.draft.store.now;
  front : IsFront l.fn.draft.store.now.draft.known l.draft.store.now.draft.known;
  say : (known : List Term) (quads : List Statement) → Say known l.fn.draft.store.now.draft.known l.fn.entries.items quads
      → Say known l.draft.store.now.draft.known l.entries.items (quads ++ flat_map (instance l.template.blanks l.first (row_solution l.fn.draft.store.now.draft.known l.scratch l.row)) (take l.quad-index l.template.quads));
}

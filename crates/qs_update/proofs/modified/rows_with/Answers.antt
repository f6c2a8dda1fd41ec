use Rattle.std.proofs.Common.{◌∙◌, subst}
use Rattle.qs_query_solutions.specs.inner.CellRows.{AreAllCells}
use Rattle.qs_update.specs.Effect.{solutions}
use Rattle.qs_update.proofs.modified.rows_with.Goals as goal

pub returns : goal.returns
returns c =
    let held = c.args.draft.now.store.now in
    subst (λ name. AreAllCells c.args.max_rows held.draft.known (solutions c.args.pattern.now held.default_graph name held.draft.quads) c.cell_solutions.result) (c.as_ref.ensures.value ∙ c.in_ok-with.ensures) c.cell_solutions.ensures

use Rattle.std.proofs.Common.{Some, None, sym, subst}
use Rattle.qs_expr.specs.inner.Cell.{row_solution}
use Rattle.qs_query_template.specs.Instances.{slot_term, graph_term}
use Rattle.qs_update_entries.specs.inner.Refers.{RefersToGraph}
use Rattle.qs_update_entries.proofs.Referring.{graph_none, graph_some}
use Rattle.qs_update_entries.proofs.references.graph_ref.Goals as goal

pub returns-in-None-slot_ref : goal.returns-in-None-slot_ref
returns-in-None-slot_ref c = λ known count first fresh fits.
    let m = row_solution known c.args.scratch.now c.args.row.now in
    subst (λ g. RefersToGraph known (graph_term count first m g) None) (sym c.in-Some.is) (graph_none known (slot_term count first m c.in-Some.slot) (c.in-None-slot_ref.ensures known count first fresh fits))

pub returns-in-Some-slot_ref : goal.returns-in-Some-slot_ref
returns-in-Some-slot_ref c = λ known count first fresh fits.
    let m = row_solution known c.args.scratch.now c.args.row.now in
    subst (λ g. RefersToGraph known (graph_term count first m g) (Some (Some c.in-Some-slot_ref.name))) (sym c.in-Some.is) (graph_some known (slot_term count first m c.in-Some.slot) c.in-Some-slot_ref.name (c.in-Some-slot_ref.ensures known count first fresh fits))

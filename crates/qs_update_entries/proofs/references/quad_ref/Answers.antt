use Rattle.std.proofs.Common.{sym, subst}
use Rattle.qs_expr.specs.inner.Cell.{row_solution}
use Rattle.qs_query_template.specs.Instances.{slot_term, graph_term}
use Rattle.qs_update_entries.specs.inner.Refers.{RefersToQuad}
use Rattle.qs_update_entries.proofs.Referring.{no_graph, no_subject, no_predicate, no_object, all_four}
use Rattle.qs_update_entries.proofs.references.quad_ref.Goals as goal

pub returns-in_err-graph : goal.returns-in_err-graph
returns-in_err-graph c = λ known count first fresh fits.
    let m = row_solution known c.args.scratch.now c.args.row.now in
    let q = c.args.quad.now in
    subst (RefersToQuad known _) (sym c.from_residual.ensures) (no_graph known (graph_term count first m q.graph) (slot_term count first m q.subject) (slot_term count first m q.predicate) (slot_term count first m q.object) (c.in_err-graph.ensures known count first fresh fits))

pub returns-in_err-subject : goal.returns-in_err-subject
returns-in_err-subject c = λ known count first fresh fits.
    let m = row_solution known c.args.scratch.now c.args.row.now in
    let q = c.args.quad.now in
    subst (RefersToQuad known _) (sym c.from_residual-in_err-subject.ensures) (no_subject known (graph_term count first m q.graph) (slot_term count first m q.subject) (slot_term count first m q.predicate) (slot_term count first m q.object) (c.in_err-subject.ensures known count first fresh fits))

pub returns-in_err-predicate : goal.returns-in_err-predicate
returns-in_err-predicate c = λ known count first fresh fits.
    let m = row_solution known c.args.scratch.now c.args.row.now in
    let q = c.args.quad.now in
    subst (RefersToQuad known _) (sym c.from_residual-in_err-predicate.ensures) (no_predicate known (graph_term count first m q.graph) (slot_term count first m q.subject) (slot_term count first m q.predicate) (slot_term count first m q.object) (c.in_err-predicate.ensures known count first fresh fits))

pub returns-in_err-object : goal.returns-in_err-object
returns-in_err-object c = λ known count first fresh fits.
    let m = row_solution known c.args.scratch.now c.args.row.now in
    let q = c.args.quad.now in
    subst (RefersToQuad known _) (sym c.from_residual-in_err-object.ensures) (no_object known (graph_term count first m q.graph) (slot_term count first m q.subject) (slot_term count first m q.predicate) (slot_term count first m q.object) (c.in_err-object.ensures known count first fresh fits))

pub returns : goal.returns
returns c = λ known count first fresh fits.
    let m = row_solution known c.args.scratch.now c.args.row.now in
    let q = c.args.quad.now in
    all_four known (graph_term count first m q.graph) (slot_term count first m q.subject) (slot_term count first m q.predicate) (slot_term count first m q.object) (record { graph = c.in_ok-graph.graph; subject = c.in_ok-subject.subject; predicate = c.in_ok-predicate.predicate; object = c.in_ok-object.object })
    (c.in_ok-graph.ensures known count first fresh fits) (c.in_ok-subject.ensures known count first fresh fits) (c.in_ok-predicate.ensures known count first fresh fits) (c.in_ok-object.ensures known count first fresh fits)

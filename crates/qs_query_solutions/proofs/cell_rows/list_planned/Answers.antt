use Rattle.std.proofs.Common.{◌∙◌, sym, subst}
use Rattle.qs_store.specs.inner.ActiveGraph.{active_graph}
use Rattle.qs_plan.specs.inner.Plans.{plan_list}
use Rattle.qs_query_solutions.specs.inner.CellRows.{AreAll}
use Rattle.qs_query_solutions.proofs.Listing.{Fitting, all_planned, too_many_planned}
use Rattle.qs_query_solutions.proofs.cell_rows.list_planned.Goals as goal

pub returns-in-Ok : goal.returns-in-Ok
returns-in-Ok g c =
    let content = g.V.View.content c.args.view.now in
    let all = plan_list c.args.plan.now content.quads (active_graph content (g.V.View.default_seen c.args.view.now) c.args.active) in
    let op = c.list.new.op in
    let rows = c.in-Ok.rows.items in
    let known = c.list.ensures.known ∙ c.in_ok-op.ensures.known in
    let table = sym c.into_scratch-scratch.ensures.table in
    let scratch = c.into_scratch-scratch.result in (
      subst (λ k. Fitting k scratch rows) known (subst (λ t. Fitting op.known t rows) table c.in-Ok.ensures.fits),
      subst (λ k. AreAll c.args.max_rows k scratch all rows) known
          (subst (λ t. AreAll c.args.max_rows op.known t all rows) table
          (all_planned c.args.max_rows op.known op.table rows all c.in_ok-op.op.rows c.in_ok-op.ensures.rows c.in-Ok.ensures.all)),
    )

pub returns-in-Err : goal.returns-in-Err
returns-in-Err g c =
    let content = g.V.View.content c.args.view.now in
    let all = plan_list c.args.plan.now content.quads (active_graph content (g.V.View.default_seen c.args.view.now) c.args.active) in
    λ n. let k = c.in-Err.ensures.fault n in (k.0, too_many_planned c.args.max_rows all c.in_ok-op.op.rows c.in_ok-op.ensures.rows k.1)

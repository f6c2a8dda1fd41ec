use Rattle.std.specs.Option.{option_copied}
use Rattle.qs_query_solutions.proofs.Listing.{cells_of_same}
use Rattle.qs_query_solutions.proofs.SeenQuads.{planned_as_seen}
use Rattle.qs_query_solutions.proofs.cell_rows.cell_solutions.Goals as goal

pub returns : goal.returns
returns g c =
    let content = g.V.View.content c.args.view.now in
    cells_of_same c.args.max_rows content.known _ _ c.list_planned-found.result
    (planned_as_seen content c.count-count.ensures.lawful (g.V.View.default_seen c.args.view.now) c.in_ok-plan.plan c.args.pattern.now c.in_ok-plan.ensures.plan (option_copied c.args.name) c.active_of-active.result c.active_of-active.ensures)
    c.list_planned-found.ensures

use Rattle.qs_paths_meaning.specs.Steps.{is_outside}
use Rattle.qs_paths.proofs.Scanned.{no_end, set_scan}
use Rattle.qs_paths.proofs.seen.outside_scan.Goals as goal

pub returns-in-Some : goal.returns-in-Some
returns-in-Some g c name n =
    set_scan (g.V.View.content c.args.edges.now.view.now) (g.V.View.default_seen c.args.edges.now.view.now) c.args.edges.now.active c.is_lawful.ensures.seen.lawful c.is_lawful.ensures.seen.knows name n c.is_lawful.ensures.few c.args.left c.args.right c.args.inverse c.args.members.now c.in-Some.triples c.in_ok-outside.outside.items
    c.in_ok-outside.ensures c.in-Some.ensures

pub returns-in-None : goal.returns-in-None
returns-in-None g c name n =
    no_end (g.V.View.content c.args.edges.now.view.now) (g.V.View.default_seen c.args.edges.now.view.now) c.args.edges.now.active c.is_lawful.ensures.seen.lawful c.is_lawful.ensures.seen.knows name n c.is_lawful.ensures.few c.args.left c.args.right (is_outside c.args.inverse c.args.members.now) c.in-None.ensures

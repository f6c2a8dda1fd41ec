use Rattle.qs_ops_scans.proofs.Named.{tells_named}
use Rattle.qs_ops_scans.proofs.names.has_quads.Goals as goal

pub returns : goal.returns
returns g c name seen is =
    tells_named (g.V.View.content c.args.view.now) (g.V.View.default_seen c.args.view.now) c.args.number seen name is c.scan-triples.result c.next.new.self c.next.result c.is_some.result c.scan-triples.ensures c.next.ensures.steps c.is_some.ensures

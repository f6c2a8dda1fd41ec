use Rattle.qs_store.proofs.Scanned.{stored_one, stored_named}
use Rattle.qs_store.proofs.triples.Triples.of_store.Goals as goal

pub returns-in-One : goal.returns-in-One
returns-in-One c =
    let a = c.args in
    stored_one a.graphs c.in-One.graph a.subject a.predicate a.object a.index.now.entries c.scan-scan.result.rest c.new-in-One.result c.in-One.is c.scan-scan.ensures.agreeing c.scan-scan.ensures.ascending c.new-in-One.ensures

pub returns-in-Named : goal.returns-in-Named
returns-in-Named c =
    let a = c.args in
    stored_named a.graphs a.subject a.predicate a.object a.index.now.entries c.scan_named-scan.result.rest c.new-in-Named.result c.in-Named.is c.scan_named-scan.ensures.agreeing c.scan_named-scan.ensures.ascending c.new-in-Named.ensures

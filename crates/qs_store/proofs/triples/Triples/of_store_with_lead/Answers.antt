use Rattle.qs_store.proofs.Scanned.{led_one, led_named, led_nothing}
use Rattle.qs_store.proofs.triples.Triples.of_store_with_lead.Goals as goal

pub returns-in-Nothing : goal.returns-in-Nothing
returns-in-Nothing c =
    let a = c.args in
    led_nothing a.graphs a.subject a.predicate a.object a.index.now.entries c.new.result c.in-Nothing.is c.new.ensures

pub returns-in-One : goal.returns-in-One
returns-in-One c =
    let a = c.args in
    let scan = c.scan_with_lead-entries in
    led_one a.graphs c.in-One.graph a.subject a.predicate a.object a.lead a.index.now.entries scan.result.rest c.new-in-One.result c.in-One.is scan.ensures.agreeing scan.ensures.ascending c.new-in-One.ensures

pub returns-in-Named : goal.returns-in-Named
returns-in-Named c =
    let a = c.args in
    let scan = c.scan_named_with_lead-entries in
    led_named a.graphs a.subject a.predicate a.object a.lead a.index.now.entries scan.result.rest c.new-in-Named.result c.in-Named.is scan.ensures.agreeing scan.ensures.ascending c.new-in-Named.ensures

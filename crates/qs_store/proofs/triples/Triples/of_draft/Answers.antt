use Rattle.qs_store.proofs.Scanned.{scan_of_one, scan_of_named, drafted_one, drafted_named}
use Rattle.qs_store.proofs.triples.Triples.of_draft.Goals as goal

pub returns-in-One : goal.returns-in-One
returns-in-One c =
    let a = c.args in
    let g = c.in-One.graph in
    let x = c.scan in
    let y = c.scan-in-One in
    let z = c.scan-in-One-2 in
    drafted_one a.graphs g a.subject a.predicate a.object c.new-lookup.result.permutation a.index.now.entries a.removed.now.entries a.added.now.entries x.result.rest y.result.rest z.result.rest c.new-entries.result c.new-in-One.result c.in-One.is c.requires
    (scan_of_one g a.subject a.predicate a.object a.index.now.entries x.result.rest x.ensures.agreeing x.ensures.ascending)
    (scan_of_one g a.subject a.predicate a.object a.removed.now.entries y.result.rest y.ensures.agreeing y.ensures.ascending)
    (scan_of_one g a.subject a.predicate a.object a.added.now.entries z.result.rest z.ensures.agreeing z.ensures.ascending)
    c.new-lookup.ensures.permutation c.new-entries.ensures c.new-in-One.ensures

pub returns-in-Named : goal.returns-in-Named
returns-in-Named c =
    let a = c.args in
    let x = c.scan_named in
    let y = c.scan_named-in-Named in
    let z = c.scan_named-in-Named-2 in
    drafted_named a.graphs a.subject a.predicate a.object c.of_named-lookup.result.permutation a.index.now.entries a.removed.now.entries a.added.now.entries x.result.rest y.result.rest z.result.rest c.new-entries-in-Named.result c.new-in-Named.result c.in-Named.is c.requires
    (scan_of_named a.subject a.predicate a.object a.index.now.entries x.result.rest x.ensures.agreeing x.ensures.ascending)
    (scan_of_named a.subject a.predicate a.object a.removed.now.entries y.result.rest y.ensures.agreeing y.ensures.ascending)
    (scan_of_named a.subject a.predicate a.object a.added.now.entries z.result.rest z.ensures.agreeing z.ensures.ascending)
    c.of_named-lookup.ensures.permutation c.new-entries-in-Named.ensures c.new-in-Named.ensures

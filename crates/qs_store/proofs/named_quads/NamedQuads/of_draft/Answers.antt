use Rattle.qs_store.proofs.Scanned.{scan_of_named}
use Rattle.qs_store.proofs.NamedQuadsSaid.{drafted_quads}
use Rattle.qs_store.proofs.named_quads.NamedQuads.of_draft.Goals as goal

pub returns : goal.returns
returns c =
    let a = c.args in
    let x = c.scan_named in
    let y = c.scan_named-2 in
    let z = c.scan_named-3 in
    drafted_quads a.subject a.predicate a.object c.of_named-lookup.result.permutation a.index.now.entries a.removed.now.entries a.added.now.entries x.result.rest y.result.rest z.result.rest c.new-entries.result c.requires.draft
    (scan_of_named a.subject a.predicate a.object a.index.now.entries x.result.rest x.ensures.agreeing x.ensures.ascending)
    (scan_of_named a.subject a.predicate a.object a.removed.now.entries y.result.rest y.ensures.agreeing y.ensures.ascending)
    (scan_of_named a.subject a.predicate a.object a.added.now.entries z.result.rest z.ensures.agreeing z.ensures.ascending)
    c.of_named-lookup.ensures.permutation c.new-entries.ensures

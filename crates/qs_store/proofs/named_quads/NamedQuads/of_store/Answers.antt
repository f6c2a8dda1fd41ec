use Rattle.qs_store.proofs.Scanned.{scan_of_named}
use Rattle.qs_store.proofs.named_quads.NamedQuads.of_store.Goals as goal

pub returns : goal.returns
returns c =
    let a = c.args in
    let x = c.scan_named-scan in
    scan_of_named a.subject a.predicate a.object a.index.now.entries x.result.rest x.ensures.agreeing x.ensures.ascending

use Rattle.std.proofs.Common.{None, sym, ◌∙◌}
use Rattle.qs_index.specs.inner.Permutation.{turned, order_used}
use Rattle.qs_store.proofs.Out.{scanned_out}
use Rattle.qs_store.proofs.Scanned.{scan_of_one}
use Rattle.qs_store.proofs.emptied_graphs.is_emptied.Goals as goal

pub returns-in-None : goal.returns-in-None
returns-in-None c =
    let i = c.args.index.now.entries in
    let r = c.args.removed.now.entries in
    let g = c.args.graph in
    let x = c.scan in
    let y = c.scan-2 in
    λ h. scanned_out g (turned (order_used None None None)) i r x.result.rest y.result.rest (λ z m. (c.entries-each.ensures.each z m).four)
    (scan_of_one g None None None i x.result.rest x.ensures.agreeing x.ensures.ascending)
    (scan_of_one g None None None r y.result.rest y.ensures.agreeing y.ensures.ascending)
    (sym c.new-kept.ensures ∙ c.in-None.ensures.0)

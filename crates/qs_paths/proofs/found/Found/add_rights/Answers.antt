use Rattle.std.proofs.Common.{◌∙◌, ap, get_or, sym}
use Rattle.qs_terms.specs.Bag.{with_new}
use Rattle.qs_paths_meaning.specs.inner.Links.{same_number}
use Rattle.qs_paths.proofs.Names.{item, rights_more, zero_pair}
use Rattle.qs_paths.proofs.found.Found.add_rights.Goals as goal

pub loop-pair-preserved : goal.loop-pair-preserved
loop-pair-preserved c =
    let e = get_or c.args.pairs.now c.loop-pair.pair-index zero_pair in
    c.in_ok-add.ensures
    ∙ (ap (λ l. with_new same_number l e.right) c.loop-pair.invariant
    ∙ sym (rights_more c.args.self.now.nodes.keys c.args.pairs.now c.loop-pair.pair-index e c.loop-pair-test.true (item c.args.pairs.now c.loop-pair.pair-index zero_pair c.loop-pair-test.true)))

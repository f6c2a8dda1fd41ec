use Rattle.std.proofs.Common.{◌∙◌, ap, get_or, sym, []}
use Rattle.std.specs.List.{flat_map}
use Rattle.std.proofs.lemmas.List.{take_all}
use Rattle.qs_terms.specs.Bag.{with_new}
use Rattle.qs_paths_meaning.specs.inner.Links.{same_number, with_numbers}
use Rattle.qs_paths.specs.inner.Nodes.{both_ends}
use Rattle.qs_paths.proofs.Along.{nodes_found}
use Rattle.qs_paths.proofs.Names.{both_more, item, zero_pair}
use Rattle.qs_paths.proofs.found.nodes.Goals as goal

pub returns : goal.returns
returns g c =
    nodes_found (g.E.Source.known c.args.edges.now) (g.E.Source.graph c.args.edges.now) c.in_ok-all.all.items c.loop-pair.found.nodes.keys c.in_ok-all.ensures
    (c.loop-pair.invariant ∙ ap (λ l. with_numbers [] (flat_map both_ends l)) (take_all c.loop-pair.pair-index c.as_slice-pair-items.result.now c.loop-pair-test.false ∙ c.as_slice-pair-items.ensures.value))

pub loop-pair-preserved : goal.loop-pair-preserved
loop-pair-preserved g c =
    let e = get_or c.as_slice-pair-items.result.now c.loop-pair.pair-index zero_pair in
    c.in_ok-add-2.ensures
    ∙ (ap (λ l. with_new same_number l e.right) (c.in_ok-add.ensures ∙ ap (λ l. with_new same_number l e.left) c.loop-pair.invariant)
    ∙ sym (both_more [] c.as_slice-pair-items.result.now c.loop-pair.pair-index e c.loop-pair-test.true (item c.as_slice-pair-items.result.now c.loop-pair.pair-index zero_pair c.loop-pair-test.true)))

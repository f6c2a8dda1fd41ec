use Rattle.std.proofs.Common.{◌≡◌, [], sym}
use Rattle.std.proofs.lemmas.Bool.{false≢true}
use Rattle.std.specs.Option.{option_copied}
use Rattle.qs_store.specs.inner.Entries.{said}
use Rattle.qs_store.specs.WholeGraphs.{in_graph}
use Rattle.qs_store.proofs.Copied.{none_so, unknown_said, not_held}
use Rattle.qs_store.proofs.GraphsSaid.{have_four}
use Rattle.qs_store.proofs.whole_graphs.filled.Goals as goal

pub returns-in_err-graph-clause-empty : goal.returns-in_err-graph-clause-empty
returns-in_err-graph-clause-empty c =
    let terms = c.args.dict.now.terms in
    let entries = c.args.layers.now.draft in
    let name = option_copied c.args.name in
    none_so (in_graph name (said terms entries) ≡ []) c.from_residual.result (unknown_said terms c.len-count.ensures.lawful.distinct entries c.requires name (sym c.in_err-graph.ensures))

pub draft_holds-requires : goal.draft_holds-requires
draft_holds-requires c = have_four c.args.dict.now.terms c.args.layers.now.draft c.requires

pub returns-else-draft_holds-clause-empty : goal.returns-else-draft_holds-clause-empty
returns-else-draft_holds-clause-empty c =
    not_held c.args.dict.now.terms c.len-count.ensures.lawful.distinct c.args.layers.now.draft c.requires (option_copied c.args.name) c.in_ok-graph.graph (sym c.in_ok-graph.ensures)
    (λ h. false≢true (c.if-draft_holds.ensures.empty h))

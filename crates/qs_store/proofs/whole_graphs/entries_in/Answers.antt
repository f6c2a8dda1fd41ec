use Rattle.std.proofs.Common.{sym}
use Rattle.std.specs.Option.{option_copied}
use Rattle.qs_store.specs.inner.Copied.{AreCopies, AreEntriesOf}
use Rattle.qs_store.specs.inner.Entries.{said}
use Rattle.qs_store.specs.WholeGraphs.{in_graph}
use Rattle.qs_store.proofs.Copied.{found_so, in_graph_said, none_said, same_entries, unknown_said}
use Rattle.qs_store.proofs.GraphsSaid.{have_four}
use Rattle.qs_store.proofs.whole_graphs.entries_in.Goals as goal

pub draft_copies-requires : goal.draft_copies-requires
draft_copies-requires c = have_four c.args.dict.now.terms c.args.layers.now.draft c.requires

pub returns-in-None : goal.returns-in-None
returns-in-None c =
    let terms = c.args.dict.now.terms in
    let entries = c.args.layers.now.draft in
    let name = option_copied c.args.name in
    let quads = in_graph name (said terms entries) in
    same_entries terms quads _ c.new.result.items (sym c.new.ensures.items)
    (none_said terms quads (unknown_said terms c.len-count.ensures.lawful.distinct entries c.requires name (sym c.in-None.ensures)))

pub returns-in-Some : goal.returns-in-Some
returns-in-Some c =
    let terms = c.args.dict.now.terms in
    let entries = c.args.layers.now.draft in
    let name = option_copied c.args.name in
    let g = c.in-Some.graph in
    found_so (λ found. AreCopies entries g g found.items) (λ found. AreEntriesOf terms (in_graph name (said terms entries)) found.items) c.draft_copies.result
    (λ found h. in_graph_said terms c.len-count.ensures.lawful.distinct entries c.requires name g (sym c.in-Some.ensures) found.items (have_four terms entries c.requires) h) c.draft_copies.ensures

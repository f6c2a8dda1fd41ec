use Rattle.std.specs.List.{filter}
use Rattle.qs_store.specs.inner.Copied.{AreNamed, AreEntriesOf}
use Rattle.qs_store.specs.inner.Entries.{said}
use Rattle.qs_store.specs.WholeGraphs.{is_named}
use Rattle.qs_store.proofs.Copied.{found_so, named_said}
use Rattle.qs_store.proofs.GraphsSaid.{have_four}
use Rattle.qs_store.proofs.whole_graphs.entries_named.Goals as goal

pub draft_named-requires : goal.draft_named-requires
draft_named-requires c = have_four c.args.dict.now.terms c.args.layers.now.draft c.requires

pub returns : goal.returns
returns c =
    let terms = c.args.dict.now.terms in
    let entries = c.args.layers.now.draft in
    found_so (λ found. AreNamed entries found.items) (λ found. AreEntriesOf terms (filter is_named (said terms entries)) found.items) c.draft_named.result
    (λ found h. named_said terms c.len-count.ensures.lawful.distinct entries c.requires found.items h) c.draft_named.ensures

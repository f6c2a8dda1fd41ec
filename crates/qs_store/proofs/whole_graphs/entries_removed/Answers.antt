use Rattle.std.proofs.Common.{◌++◌, sym, subst}
use Rattle.std.specs.Option.{option_copied}
use Rattle.qs_store.specs.inner.Copied.{AreEntriesOf}
use Rattle.qs_store.specs.inner.Entries.{said}
use Rattle.qs_store.specs.WholeGraphs.{in_graph, removed_by}
use Rattle.qs_store.proofs.Copied.{both_said, same_entries}
use Rattle.qs_store.proofs.whole_graphs.entries_removed.Goals as goal

pub returns-in_ok-append-in-Both : goal.returns-in_ok-append-in-Both
returns-in_ok-append-in-Both c =
    let terms = c.args.dict.now.terms in
    let quads = said terms c.args.layers.now.draft in
    let from = option_copied c.args.from in
    let to = option_copied c.args.to in
    let a = c.in_ok-found-in-Both.found.items in
    let b = c.in_ok-more-in-Both.more.items in
    subst (λ r. AreEntriesOf terms (removed_by r from to quads) c.append.new.self.items) (sym c.in-Both.is)
    (same_entries terms (in_graph to quads ++ in_graph from quads) (a ++ b) c.append.new.self.items (sym c.in_ok-append-in-Both.ensures.items)
    (both_said terms a b (in_graph to quads) (in_graph from quads) c.in_ok-found-in-Both.ensures c.in_ok-more-in-Both.ensures))

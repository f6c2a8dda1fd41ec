use Rattle.std.proofs.Common.{[], sym, subst}
use Rattle.std.specs.Option.{option_copied}
use Rattle.qs_store.specs.Change.{IsChanged}
use Rattle.qs_store.specs.inner.Entries.{said, AreEntries}
use Rattle.qs_store.specs.WholeGraphs.{in_graph}
use Rattle.qs_store.proofs.Copied.{cleared_said, entries_left, none_cleared, unknown_said}
use Rattle.qs_store.proofs.whole_graphs.clear.Goals as goal

pub returns-in_default-clause-quads : goal.returns-in_default-clause-quads
returns-in_default-clause-quads c =
    let terms = c.args.dict.now.terms in
    let entries = c.args.layers.now.draft in
    let name = option_copied c.args.name in
    none_cleared (said terms entries) name (unknown_said terms c.len-count.ensures.lawful.distinct entries c.requires name (sym c.in_default.ensures))

pub returns-clause-quads : goal.returns-clause-quads
returns-clause-quads c =
    let terms = c.args.dict.now.terms in
    let entries = c.args.layers.now.draft in
    let name = option_copied c.args.name in
    subst (λ d. IsChanged (said terms entries) (in_graph name (said terms entries)) [] (said terms d)) (sym c.note.ensures.draft)
    (cleared_said terms c.len-count.ensures.lawful.distinct entries c.requires name c.in-Some.graph (sym c.in-Some.ensures) c.clear_graph.new.self.draft c.in_ok-clear_graph.ensures.draft)

pub returns-clause-entries : goal.returns-clause-entries
returns-clause-entries c =
    let terms = c.args.dict.now.terms in
    subst (AreEntries terms) (sym c.note.ensures.draft) (entries_left terms c.in-Some.graph c.args.layers.now.draft c.clear_graph.new.self.draft c.requires c.in_ok-clear_graph.ensures.draft)

use Rattle.std.proofs.Common.{[], subst}
use Rattle.std.specs.Option.{option_copied}
use Rattle.qs_store.specs.Change.{IsChanged}
use Rattle.qs_store.specs.inner.Entries.{said}
use Rattle.qs_store.specs.WholeGraphs.{in_graph}
use Rattle.qs_store.proofs.Emptied.{store_emptied}
use Rattle.qs_store.proofs.store.Store.clear_draft_graph.Goals as goal

pub invariant_of-self-2 : goal.invariant_of-self-2
invariant_of-self-2 c =
    let s = c.self.inside in
    let terms = s.dict.terms in
    store_emptied terms s.layers.base s.layers.draft c.clear.new.layers.draft c.clear.new.layers.base s.known s.next s.draft_next (in_graph (option_copied c.args.name) (said terms s.layers.draft))
    c.self.invariant c.in_ok-clear.ensures.entries c.in_ok-clear.ensures.quads c.clear.ensures.base

pub returns-clause-quads : goal.returns-clause-quads
returns-clause-quads c =
    let s = c.self.inside in
    let terms = s.dict.terms in
    subst (λ v. IsChanged v.draft.quads (in_graph (option_copied c.args.name) v.draft.quads) [] (said terms c.clear.new.layers.draft)) c.self.view_is c.in_ok-clear.ensures.quads

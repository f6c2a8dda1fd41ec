use Rattle.std.proofs.Common.{[], subst}
use Rattle.std.specs.List.{filter}
use Rattle.qs_store.specs.Change.{IsChanged}
use Rattle.qs_store.specs.inner.Entries.{said}
use Rattle.qs_store.specs.WholeGraphs.{is_named}
use Rattle.qs_store.proofs.Emptied.{store_emptied, emptied_of}
use Rattle.qs_store.proofs.store.Store.clear_draft_named.Goals as goal

pub invariant_of-self-2 : goal.invariant_of-self-2
invariant_of-self-2 c =
    let s = c.self.inside in
    store_emptied s.dict.terms s.layers.base s.layers.draft c.remove.new.layers.draft c.remove.new.layers.base s.known s.next s.draft_next (said s.dict.terms c.as_mut_slice.result.now)
    c.self.invariant c.in_ok-remove.ensures.entries c.in_ok-remove.ensures.quads c.remove.ensures.base

pub returns-clause-quads : goal.returns-clause-quads
returns-clause-quads c =
    let s = c.self.inside in
    let new = c.remove.new.layers.draft in
    subst (λ v. IsChanged v.draft.quads (filter is_named v.draft.quads) [] (said s.dict.terms new)) c.self.view_is
    (emptied_of s.dict.terms s.layers.draft new c.as_mut_slice.result.now c.in_ok-outs.outs.items (filter is_named (said s.dict.terms s.layers.draft)) c.in_ok-remove.ensures.quads c.as_mut_slice.ensures.value c.in_ok-outs.ensures)

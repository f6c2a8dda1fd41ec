use Rattle.std.proofs.Common.{◌≤◌, IsTrue, take, ap, arith, sym, subst, ◌∙◌}
use Rattle.std.specs.Option.{option_copied}
use Rattle.qs_terms.specs.inner.Dataset.{is_graph_below}
use Rattle.qs_store.specs.Change.{IsChanged}
use Rattle.qs_store.specs.inner.Entries.{said}
use Rattle.qs_store.specs.inner.Store.{IsStore}
use Rattle.qs_store.specs.WholeGraphs.{copies, removed_by}
use Rattle.qs_store.proofs.CopiedTerms.{copies_below}
use Rattle.qs_store.proofs.Stored.{content, store_changed, base_same}
use Rattle.qs_store.proofs.store.Store.transfer_draft.Goals as goal

pub invariant_of-self : goal.invariant_of-self
invariant_of-self c =
    let s = c.self.inside in
    let i = c.self.invariant in
    let more = c.transfer.new.dict.terms in
    let new = c.transfer.new.layers.draft in
    let quads = said s.dict.terms s.layers.draft in
    let from = option_copied c.args.from in
    let to = option_copied c.args.to in
    let not_less : s.draft_next ≤ s.draft_next = omega arith in
    let above = copies_below s.draft_next from to quads (subst (λ v. IsTrue (is_graph_below v.draft.next to)) (sym c.self.view_is) c.requires.above) i.above in
    subst (λ b. IsStore more b new s.known s.next s.draft_next) (sym c.transfer.ensures.base)
    (store_changed s.dict.terms more s.layers.base s.layers.draft new s.known s.next s.draft_next s.draft_next (removed_by c.args.removal from to quads) (copies from to quads) i c.transfer.ensures.front c.in-Ok.ensures.lawful.distinct c.in-Ok.ensures.entries c.in-Ok.ensures.quads not_less above)

pub returns-in-Ok-clause-base : goal.returns-in-Ok-clause-base
returns-in-Ok-clause-base c =
    let s = c.self.inside in
    let i = c.self.invariant in
    let more = c.transfer.new.dict.terms in
    ap (λ b. content (said more b) s.next (take s.known more)) c.transfer.ensures.base
    ∙ base_same s.dict.terms more s.layers.base s.known s.next i.within i.known_base c.transfer.ensures.front
    ∙ ap (λ v. v.base) c.self.view_is

pub returns-in-Ok-clause-quads : goal.returns-in-Ok-clause-quads
returns-in-Ok-clause-quads c =
    let from = option_copied c.args.from in
    let to = option_copied c.args.to in
    subst (λ v. IsChanged v.draft.quads (removed_by c.args.removal from to v.draft.quads) (copies from to v.draft.quads) (said c.transfer.new.dict.terms c.transfer.new.layers.draft)) c.self.view_is c.in-Ok.ensures.quads

use Rattle.std.proofs.Common.{◌≤◌, IsTrue, ap, subst, sym, ◌∙◌}
use Rattle.qs_terms.specs.Dataset.{is_above_blanks}
use Rattle.qs_store.specs.inner.Entries.{said}
use Rattle.qs_store_load.specs.inner.Loading.{IsNumbered}
use Rattle.qs_store_load.proofs.Loads.{loaded}
use Rattle.qs_store_load.proofs.nquads.finish.Goals as goal

pub commit_with-requires-clause-next : goal.commit_with-requires-clause-next
commit_with-requires-clause-next c =
    let held = c.args.draft.store.now in
    let r = rw c.in-Ok.is at c.requires in
    let n : IsNumbered r.0 c.in-Ok.next held c.args.entries.items = r.1 in
    subst (λ m. m ≤ c.in-Ok.next) (sym n.same_next) (c.next_number_is_fresh.ensures.at_least r.0 held.base.next n.numbered.quads c.in-Ok.next n.numbered.reads)

pub commit_with-requires-clause-above : goal.commit_with-requires-clause-above
commit_with-requires-clause-above c =
    let held = c.args.draft.store.now in
    let r = rw c.in-Ok.is at c.requires in
    let n : IsNumbered r.0 c.in-Ok.next held c.args.entries.items = r.1 in
    subst (λ q. IsTrue (is_above_blanks c.in-Ok.next q)) (sym (ap (said held.draft.known) c.as_mut_slice.ensures.value ∙ n.numbered.say.says)) (c.next_number_is_fresh.ensures.above r.0 held.base.next n.numbered.quads c.in-Ok.next n.numbered.reads)

pub returns-in-Ok-commit_with-clause-loaded : goal.returns-in-Ok-commit_with-clause-loaded
returns-in-Ok-commit_with-clause-loaded c = λ bytes h.
    let done = c.in-Ok-commit_with.ensures in
    let n : IsNumbered bytes c.in-Ok.next c.args.draft.store.now c.args.entries.items = rw c.in-Ok.is at h in
    loaded bytes c.in-Ok.next c.args.draft.store.now c.commit_with.new.self.0.base c.args.entries.items c.as_mut_slice.result.now n c.as_mut_slice.ensures.value done.quads done.next done.known done.room c.quads_make_their_terms_known.ensures

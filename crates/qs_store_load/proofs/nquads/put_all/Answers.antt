use Rattle.std.proofs.Common.{◌∷◌, ◌++◌, [], List, length, subst, ◌∙◌}
use Rattle.qs_nquads.specs.inner.Unread.{HasRead}
use Rattle.qs_terms.specs.Statement.{Statement}
use Rattle.qs_store.specs.Change.{with_terms_of}
use Rattle.qs_store.specs.inner.Change.{IsFullAt}
use Rattle.qs_store.specs.inner.Entries.{said}
use Rattle.qs_store_load.specs.inner.Loading.{IsToldFor}
use Rattle.qs_store_load.proofs.Loads.{refused_for}
use Rattle.qs_store_load.proofs.nquads.put_all.Goals as goal

pub returns-in-Err-outcome-clause-fault : goal.returns-in-Err-outcome-clause-fault
returns-in-Err-outcome-clause-fault c = λ first h.
    let i = c.statements.invariant in
    let held = c.args.draft.now.store.now in
    let quads : List Statement = said c.statements.draft.store.now.draft.known c.statements.entries.items in
    let q = c.in-Ok-Some.quad in
    let fault = c.in-Err-outcome.fault in
    let read : HasRead first (quads ++ q ∷ []) c.next.new.self = rw c.in-Ok-Some.field-0-is at (c.in-Ok-Some.ensures.next first quads (i.read first h)) in
    refused_for fault held.limit c.args.reader.now.bytes first held.draft.known quads q c.refused.result
    (λ more. subst (λ l. IsFullAt fault l (length (with_terms_of held.draft.known (quads ++ q ∷ more)))) i.learns.limit (c.in-Err-outcome.ensures.full held.draft.known quads more i.say))
    (subst (λ b. IsToldFor fault b first (quads ++ q ∷ []) c.refused.result) (c.in-Ok-Some.ensures.bytes ∙ i.bytes) (c.refused.ensures first (quads ++ q ∷ []) read))

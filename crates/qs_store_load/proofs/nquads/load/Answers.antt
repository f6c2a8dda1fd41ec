use Rattle.std.proofs.Common.{refl}
use Rattle.qs_store_load.proofs.Loads.{same_fault}
use Rattle.qs_store_load.proofs.nquads.load.Goals as goal

pub returns-clause-fault : goal.returns-clause-fault
returns-clause-fault c =
    let store = c.args.store.now in
    let begun = c.draft-draft.result.store.now in
    c.finish.ensures.fault store.limit c.args.bytes.now store.base.next store.base.known
    (same_fault c.args.bytes.now c.args.bytes.now begun.base store.base begun.limit store.limit c.number_all-numbered.result refl c.draft-draft.ensures.base c.draft-draft.ensures.limit c.number_all-numbered.ensures.fault)

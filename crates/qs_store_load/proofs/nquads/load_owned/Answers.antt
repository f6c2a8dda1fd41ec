use Rattle.qs_store_load.proofs.Loads.{same_fault}
use Rattle.qs_store_load.proofs.nquads.load_owned.Goals as goal

pub returns-clause-fault : goal.returns-clause-fault
returns-clause-fault c =
    let store = c.args.store.now in
    let begun = c.draft-draft.result.store.now in
    c.finish.ensures.fault store.limit c.args.file.items store.base.next store.base.known
    (same_fault c.as_slice.result.now c.args.file.items begun.base store.base begun.limit store.limit c.number_all-numbered.result c.as_slice.ensures.value c.draft-draft.ensures.base c.draft-draft.ensures.limit c.number_all-numbered.ensures.fault)

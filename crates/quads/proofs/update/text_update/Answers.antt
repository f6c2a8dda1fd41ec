use Rattle.quads.proofs.Updates.{becomes, no_text}
use Rattle.quads.proofs.update.text_update.Goals as goal

pub returns-in-Ok : goal.returns-in-Ok
returns-in-Ok c =
    becomes c.args.store.now c.args.text.now c.in-Ok.text.now c.update.new.store.base c.update.result c.requires.limit c.in-Ok.ensures c.update.ensures.accepted c.update.ensures.fault

pub returns-in-Err : goal.returns-in-Err
returns-in-Err c = no_text c.args.store.now.default_graph c.args.text.now c.args.store.now.base c.args.store.now.base c.in-Err.fault c.in-Err.ensures

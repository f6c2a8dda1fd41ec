use Rattle.quads.proofs.Results.{no_explained_text, of_explained_text}
use Rattle.quads.proofs.explain.text_explained.Goals as goal

pub returns-in-Ok : goal.returns-in-Ok
returns-in-Ok c = of_explained_text c.args.kind c.args.text.now c.in-Ok.text.now c.args.store.now.base c.in-Ok.ensures c.explained.result c.explained.ensures

pub returns-in-Err : goal.returns-in-Err
returns-in-Err c = no_explained_text c.args.kind c.args.text.now c.args.store.now.base c.in-Err.fault c.in-Err.ensures

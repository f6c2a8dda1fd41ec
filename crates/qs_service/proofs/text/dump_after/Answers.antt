use Rattle.qs_service.proofs.Texts.{written}
use Rattle.qs_service.proofs.text.dump_after.Goals as goal

pub returns : goal.returns
returns c =
    written c.args.before.items c.args.store.now.base c.in_ok-quads.quads.items c.as_slice.result.now c.text_after.result c.in_ok-quads.ensures c.as_slice.ensures.value c.text_after.ensures

use Rattle.std.proofs.lemmas.Result.{on_ok_weaker}
use Rattle.qs_query_template.proofs.DataBlocks.{deleted_is}
use Rattle.qs_query_template.proofs.data_blocks.put_quads_to_delete.Goals as goal

pub returns : goal.returns
returns c =
    on_ok_weaker c.put_blocks.result (λ h next. deleted_is c.args.blocks.now c.new-blanks.result c.args.quads.now c.put_blocks.new.quads next c.new-blanks.ensures h) c.put_blocks.ensures

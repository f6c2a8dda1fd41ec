use Rattle.qs_update.proofs.DataRun.{insertion_ok, insertion_lawful}
use Rattle.qs_update.proofs.data.put_insertion.Goals as goal

pub returns-clause-lawful : goal.returns-clause-lawful
returns-clause-lawful c first l =
    insertion_lawful c.quads_are_told_one_by_one.ensures.later c.effects_are_lawful.ensures.of_data first c.args.effect.now _ l c.args.blocks.now
    (insertion_ok c.args.blocks.now c.args.effect.now c.in_ok-next.next c.put_quads_to_insert.new.quads c.in_ok-next.ensures)

use Rattle.qs_expr.proofs.Taken.{number_of_part}
use Rattle.qs_expr.proofs.condition.all_hold.Goals as goal

pub holds-requires-clause-number : goal.holds-requires-clause-number
holds-requires-clause-number g c =
    number_of_part (g.V.View.content c.args.view.now).known c.args.parts.now c.loop-part.part-index c.part-item.result c.loop-part-test.true c.part-item.is c.requires.numbers

use Rattle.std.proofs.Common.{refl}
use Rattle.qs_paths.proofs.Whole.{inverse_there}
use Rattle.qs_paths.proofs.steps.inverse_part.Goals as goal

pub returns-then-has_any_of : goal.returns-then-has_any_of
returns-then-has_any_of g c =
    inverse_there (g.E.Source.known c.args.edges.now) (g.E.Source.graph c.args.edges.now) c.args.members.now c.args.left c.args.right c.has_any_of.result c.in_ok-pairs.pairs.items c.in_ok-pairs.pairs.items c.swapped-turned.result.items
    c.has_any_of.ensures c.if-has_any_of.true c.in_ok-pairs.ensures refl c.swapped-turned.ensures

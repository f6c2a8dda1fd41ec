use Rattle.qs_paths.proofs.Whole.{two_named}
use Rattle.qs_paths.proofs.steps.negated.Goals as goal

pub returns : goal.returns
returns g c =
    two_named (g.E.Source.known c.args.edges.now) (g.E.Source.graph c.args.edges.now) c.args.members.now c.args.left c.args.right c.in_ok-pairs.pairs.items c.in_ok-more.more.items c.append.new.self.items
    c.in_ok-pairs.ensures c.in_ok-more.ensures c.in_ok-append.ensures.items

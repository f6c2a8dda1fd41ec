use Rattle.qs_paths_meaning.specs.inner.Links.{rows_of}
use Rattle.qs_paths.proofs.Along.{followed_one}
use Rattle.qs_paths.proofs.linked.walk.Goals as goal

pub returns-in-ZeroOrOne-clause-ends : goal.returns-in-ZeroOrOne-clause-ends
returns-in-ZeroOrOne-clause-ends g c =
    followed_one (g.E.Source.known c.args.edges.now) (g.E.Source.graph c.args.edges.now) c.args.path.now c.args.links.now.nodes.keys (rows_of c.args.links.now.next.items) c.requires.web c.requires.links c.args.start.node c.args.repetition c.requires.node c.begin.new.found.numbers.items c.in-ZeroOrOne.is c.in_ok-begin.ensures.holds

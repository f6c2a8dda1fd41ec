use Rattle.qs_paths_meaning.specs.Pairs.{pairs}
use Rattle.qs_paths.proofs.Alike.{alike_more}
use Rattle.qs_paths.proofs.linked.reach.Goals as goal

pub returns-clause-alike : goal.returns-clause-alike
returns-clause-alike g c =
    alike_more (g.E.Source.known c.args.edges.now) c.args.repetition (pairs (g.E.Source.graph c.args.edges.now) c.args.path.now) (g.E.Source.graph c.args.edges.now) c.args.links.now.nodes.keys c.walk_unless_alike.new.found.numbers.items c.walk_unless_alike.new.alike.numbers.items c.add.new.self.numbers.items
    c.args.start.place c.args.start.node c.requires.at c.in_ok-walk_unless_alike.ensures.ends c.in_ok-walk_unless_alike.ensures.alike c.in_ok-add.ensures.numbers

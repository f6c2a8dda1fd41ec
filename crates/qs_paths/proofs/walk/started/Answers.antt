use Rattle.std.proofs.Common.{arith}
use Rattle.qs_paths.proofs.Walked.{walk_begins, walk_starts}
use Rattle.qs_paths.proofs.walk.started.Goals as goal

pub returns : goal.returns
returns g c name n ps h = record {
  closing = c.requires;
  search = walk_begins (g.E.Source.known c.args.edges.now) (g.E.Source.graph c.args.edges.now) name n c.args.path.now c.args.repetition c.args.backward c.args.start c.args.end c.begin.new.found.nodes.keys c.in_ok-begin.ensures;
  given = omega arith;
  left = walk_starts (g.E.Source.known c.args.edges.now) (g.E.Source.graph c.args.edges.now) name n c.args.path.now c.args.repetition c.args.backward c.args.start c.args.end c.begin.new.found.nodes.keys ps h;
}

use Rattle.std.proofs.Common.{ap}
use Rattle.qs_paths.specs.inner.Nodes.{named_end}
use Rattle.qs_paths.specs.inner.Seen.{graph_in}
use Rattle.qs_paths.proofs.Opening.{left_walk, right_walk}
use Rattle.qs_paths.proofs.state.closure_at.Goals as goal

pub returns-in_ok-walk-in-Some-default : goal.returns-in_ok-walk-in-Some-default
returns-in_ok-walk-in-Some-default g c name n ps h =
    c.in_ok-walk-in-Some-default.ensures name n ps
    (left_walk (graph_in g.V.View.content g.V.View.default_seen c.args.edges.now) c.args.path.now c.args.inner.now c.args.repetition (named_end name c.args.left) (named_end name c.args.right) (name c.in-Some-default.start) ps c.requires.path (ap (named_end name) c.in-Some-default.is-0) h)

pub returns-in_ok-walk-in-None-Some : goal.returns-in_ok-walk-in-None-Some
returns-in_ok-walk-in-None-Some g c name n ps h =
    c.in_ok-walk-in-None-Some.ensures name n ps
    (right_walk (graph_in g.V.View.content g.V.View.default_seen c.args.edges.now) c.args.path.now c.args.inner.now c.args.repetition (named_end name c.args.left) (named_end name c.args.right) (name c.in-None-Some.start) ps c.requires.path (ap (named_end name) c.in-None-Some.is-0) (ap (named_end name) c.in-None-Some.is-1) h)

use Rattle.qs_paths.specs.inner.Nodes.{named_end, named_pairs}
use Rattle.qs_paths.specs.inner.Scans.{edges_in}
use Rattle.qs_paths.specs.inner.Seen.{graph_in}
use Rattle.qs_paths.specs.inner.State.{more_pairs}
use Rattle.qs_paths.proofs.Opening.{opens_both}
use Rattle.qs_paths.proofs.stretch.of_set.Goals as goal

pub returns : goal.returns
returns g c name n ps h = record {
  left =
      opens_both c.args.members.now (graph_in g.V.View.content g.V.View.default_seen c.args.edges.now) (named_end name c.args.left) (named_end name c.args.right) c.has_forward.result c.has_forward.ensures ps
      (more_pairs (graph_in g.V.View.content g.V.View.default_seen c.args.edges.now) name c.more_of-more.result) h (c.more_of-more.ensures (graph_in g.V.View.content g.V.View.default_seen c.args.edges.now) name)
      (named_pairs name (edges_in c.in_ok-scan.scan)) c.if-not-has_forward.false (c.in_ok-scan.ensures name n);
}

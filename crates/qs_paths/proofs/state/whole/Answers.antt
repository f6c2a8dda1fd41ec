use Rattle.std.proofs.Common.{refl}
use Rattle.qs_paths_meaning.specs.Pairs.{pairs}
use Rattle.qs_paths.specs.inner.Nodes.{named_end, named_pairs}
use Rattle.qs_paths.specs.inner.Seen.{graph_in, known_in}
use Rattle.qs_paths.proofs.Opening.{rows_open}
use Rattle.qs_paths.proofs.state.whole.Goals as goal

pub returns : goal.returns
returns g c name n ps h = record {
  left =
      rows_open (known_in g.V.View.content c.args.edges.now) ps (pairs (graph_in g.V.View.content g.V.View.default_seen c.args.edges.now) c.args.path.now (named_end name c.args.left) (named_end name c.args.right)) (named_pairs name c.in_ok-rows.rows.items) (named_pairs name c.in_ok-rows.rows.items) h
      (c.in_ok-rows.ensures name n) refl;
}

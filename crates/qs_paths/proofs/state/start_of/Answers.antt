use Rattle.std.proofs.Common.{map, true}
use Rattle.qs_paths_meaning.specs.Pair.{swapped}
use Rattle.qs_paths_meaning.specs.Pairs.{pairs}
use Rattle.qs_paths.specs.inner.Nodes.{named_end}
use Rattle.qs_paths.specs.inner.Seen.{graph_in}
use Rattle.qs_paths.proofs.Opening.{turned_left}
use Rattle.qs_paths.proofs.Streamed.{as_inverse, bag_is}
use Rattle.qs_paths.proofs.state.start_of.Goals as goal

pub returns-in_ok-state-in-Inverse : goal.returns-in_ok-state-in-Inverse
returns-in_ok-state-in-Inverse g c name n ps h =
    let graph = graph_in g.V.View.content g.V.View.default_seen c.args.edges.now in
    let l = named_end name c.args.request.now.left in
    let r = named_end name c.args.request.now.right in
    c.in_ok-state-in-Inverse.ensures name n (map swapped ps) (turned_left true ps (pairs graph c.get.result.now r l) (bag_is ps _ _ h (as_inverse graph c.args.request.now.path.now c.in-Inverse.inner c.get.result.now l r c.in-Inverse.is c.get.ensures)))

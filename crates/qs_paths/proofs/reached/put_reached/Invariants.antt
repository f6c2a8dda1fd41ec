use Rattle.std.proofs.Common.{◌≡◌, ◌≤◌, ◌+◌, ◌++◌, length, map, take, vec_len, vec_capacity}
use Rattle.qs_paths.specs.inner.Links.{nodes_at}
use Rattle.qs_paths.specs.inner.Nodes.{node_pair}
use Rattle.qs_paths.proofs.reached.put_reached.Given as goal

abbrev pub invariant-loop-number : goal.invariant-loop-number
invariant-loop-number l = record {
  items : l.pairs.items ≡ l.fn.pairs.items ++ map (node_pair l.start) (nodes_at l.start l.nodes (take l.number-index l.numbers));
  room : vec_len l.pairs + length l.numbers ≤ vec_capacity l.pairs + l.number-index;
}

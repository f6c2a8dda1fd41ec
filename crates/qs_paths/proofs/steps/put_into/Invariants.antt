use Rattle.std.proofs.Common.{◌≡◌, ◌++◌, take}
use Rattle.qs_paths.specs.inner.Nodes.{into_nodes}
use Rattle.qs_paths.proofs.steps.put_into.Given as goal

abbrev pub invariant-loop-first : goal.invariant-loop-first
invariant-loop-first l = l.pairs.items ≡ l.fn.pairs.items ++ into_nodes (take l.first-index l.firsts) l.second

use Rattle.std.proofs.Common.{◌≡◌, ◌++◌, map, take, drop}
use Rattle.qs_paths.specs.inner.Nodes.{swapped_nodes}
use Rattle.qs_paths.proofs.steps.swap_all.Given as goal

-- the pairs so far are swapped
abbrev pub invariant-loop-pair : goal.invariant-loop-pair
invariant-loop-pair l = l.pairs ≡ map swapped_nodes (take l.pair-index l.fn.pairs) ++ drop l.pair-index l.fn.pairs

use Rattle.std.proofs.Common.{◌≡◌, [], map, take}
use Rattle.qs_paths_meaning.specs.inner.Links.{with_numbers}
use Rattle.qs_paths.proofs.found.left_ends.Given as goal

abbrev pub invariant-loop-pair : goal.invariant-loop-pair
invariant-loop-pair l = l.found.nodes.keys ≡ with_numbers [] (map (λ e. e.left) (take l.pair-index l.pairs))

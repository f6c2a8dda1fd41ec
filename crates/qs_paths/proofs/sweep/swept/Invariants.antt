use Rattle.std.proofs.Common.{◌≡◌, length}
use Rattle.qs_paths_meaning.specs.inner.Links.{IsMarked}
use Rattle.qs_paths.proofs.sweep.swept.Given as goal

abbrev pub invariant-loop-start : goal.invariant-loop-start
invariant-loop-start l = record {
  long : length l.found.rounds.items ≡ length l.links.nodes.keys;
  marked : IsMarked l.found.round l.found.rounds.items l.found.numbers.items;
}

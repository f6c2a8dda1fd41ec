use Rattle.std.proofs.Common.{◌≡◌, length}
use Rattle.qs_paths_meaning.specs.inner.Links.{IsMarked}
use Rattle.qs_paths.proofs.sweep.spread.Given as goal

abbrev pub invariant-loop-step : goal.invariant-loop-step
invariant-loop-step l = record {
  long : length l.found.rounds.items ≡ length l.fn.found.rounds.items;
  marked : IsMarked l.found.round l.found.rounds.items l.found.numbers.items;
}

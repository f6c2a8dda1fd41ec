use Rattle.std.proofs.Common.{◌≡◌, length, take}
use Rattle.qs_paths_meaning.specs.inner.Links.{IsMarked, with_numbers}
use Rattle.qs_paths.proofs.reached.Reached.add_all.Given as goal

abbrev pub invariant-loop-number : goal.invariant-loop-number
invariant-loop-number l = record {
  numbers : l.self.numbers.items ≡ with_numbers l.fn.self.numbers.items (take l.number-index l.numbers);
  long : length l.self.rounds.items ≡ length l.fn.self.rounds.items;
  marked : IsMarked l.self.round l.self.rounds.items l.self.numbers.items;
}

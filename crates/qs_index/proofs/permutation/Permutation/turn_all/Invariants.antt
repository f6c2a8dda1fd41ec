use Rattle.std.proofs.Common.{◌≡◌, ◌++◌, map, take, drop}
use Rattle.std.specs.List.{All}
use Rattle.qs_index.specs.inner.Entry.{IsEntry}
use Rattle.qs_index.specs.inner.Permutation.{turned}
use Rattle.qs_index.proofs.permutation.Permutation.turn_all.Given as goal

abbrev pub invariant-loop-entry : goal.invariant-loop-entry
invariant-loop-entry l = record {
  turned : l.entries ≡ map (turned l.self) (take l.entry-index l.fn.entries) ++ drop l.entry-index l.fn.entries;
  entries : All IsEntry (take l.entry-index l.entries);
}

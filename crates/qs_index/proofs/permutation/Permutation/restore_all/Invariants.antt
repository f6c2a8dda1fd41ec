use Rattle.std.proofs.Common.{◌≡◌, ◌++◌, map, take, drop}
use Rattle.qs_index.specs.inner.Permutation.{restored}
use Rattle.qs_index.proofs.permutation.Permutation.restore_all.Given as goal

abbrev pub invariant-loop-entry : goal.invariant-loop-entry
invariant-loop-entry l = l.entries ≡ map (restored l.self) (take l.entry-index l.fn.entries) ++ drop l.entry-index l.fn.entries

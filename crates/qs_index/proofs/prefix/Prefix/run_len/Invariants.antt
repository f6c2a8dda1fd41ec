use Rattle.std.proofs.Common.{◌≡◌, ◌+◌, length, drop}
use Rattle.qs_index.specs.inner.Entry.{run_of}
use Rattle.qs_index.proofs.prefix.Prefix.run_len.Given as goal

abbrev pub invariant-loop-i : goal.invariant-loop-i
invariant-loop-i l = length (run_of l.self l.entries) ≡ l.i + length (run_of l.self (drop l.i l.entries))

use Rattle.std.proofs.Common.{◌≡◌, drop}
use Rattle.qs_index.specs.inner.Entry.{begins}
use Rattle.qs_index.proofs.entry.begins.Given as goal

abbrev pub invariant-loop-k : goal.invariant-loop-k
invariant-loop-k l = begins (drop l.k l.prefix) (drop l.k l.entry) ≡ begins l.prefix l.entry

use Rattle.std.proofs.Common.{◌≡◌, ◌++◌, take}
use Rattle.qs_nquads.specs.inner.Written.{escaped}
use Rattle.qs_nquads.proofs.written.push_escaped.Given as goal

abbrev pub invariant-loop-byte : goal.invariant-loop-byte
invariant-loop-byte l = l.out.items ≡ l.initial.out.items ++ escaped (take l.byte-index l.form)

use Rattle.std.proofs.Common.{◌≡◌, ◌++◌, take}
use Rattle.qs_nquads.specs.inner.Joined.{joined}
use Rattle.qs_nquads.proofs.output.join.Given as goal

abbrev pub invariant-loop-line : goal.invariant-loop-line
invariant-loop-line l = l.text.items ≡ l.fn.before.items ++ joined (take l.line-index l.lines)

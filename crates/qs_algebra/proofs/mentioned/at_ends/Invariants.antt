use Rattle.std.proofs.Common.{◌≡◌, take}
use Rattle.qs_algebra_patterns.specs.inner.Basic.{is_end}
use Rattle.qs_algebra.specs.inner.Flags.{flags_from}
use Rattle.qs_algebra.proofs.mentioned.at_ends.Given as goal

abbrev pub invariant-loop-path : goal.invariant-loop-path
invariant-loop-path l = l.flags.items ≡ flags_from (is_end (take l.path-index l.paths)) 0 l.width

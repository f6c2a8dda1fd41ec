use Rattle.std.proofs.Common.{◌≡◌, map, take}
use Rattle.qs_nquads.specs.Written.{line}
use Rattle.qs_nquads.proofs.output.lines.Given as goal

abbrev pub invariant-loop-quad : goal.invariant-loop-quad
invariant-loop-quad l = l.lines.items ≡ map line (take l.quad-index l.quads)

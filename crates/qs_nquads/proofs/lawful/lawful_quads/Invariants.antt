use Rattle.std.proofs.Common.{take}
use Rattle.qs_nquads.specs.inner.Renumbered.{AreQuads}
use Rattle.qs_nquads.proofs.lawful.lawful_quads.Given as goal

abbrev pub invariant-loop-quad : goal.invariant-loop-quad
invariant-loop-quad l = AreQuads (take l.quad-index l.quads)

use Rattle.std.proofs.Common.{subst, arith}
use Rattle.qs_nquads.specs.inner.Renumbered.{IsQuad}
use Rattle.qs_nquads.proofs.LawfulQuads.{one_more}
use Rattle.qs_nquads.proofs.lawful.lawful_quads.Goals as goal

pub loop-quad-preserved : goal.loop-quad-preserved
loop-quad-preserved c =
    one_more c.args.quads.now c.loop-quad.quad-index c.quad-item.result (omega arith) c.loop-quad.invariant (subst IsQuad c.quad-item.is c.lawful_quad.ensures)

use Rattle.std.proofs.Common.{[], ◌+◌, arith}
use Rattle.qs_plan.proofs.Getting.{binds_to, gets_at, names_get}
use Rattle.qs_plan.proofs.certain.is_named.Goals as goal

pub returns-then-other-register : goal.returns-then-other-register
returns-then-other-register c h =
    binds_to c.args.register c.args.size [] c.args.stages.now (c.loop-at.at + 1) c.args.place (omega (arith, c.loop-at-test.true))
    (gets_at c.args.register c.args.size [] c.args.stages.now c.loop-at.at c.index-stages-at.result (omega (arith, c.loop-at-test.true, c.requires)) c.index-stages-at.is
    (names_get c.args.register c.args.size c.index-stages-at.result c.in-Names.other c.in-Names.is (omega (arith, c.if-register-size.false)) c.if-other-register.true))

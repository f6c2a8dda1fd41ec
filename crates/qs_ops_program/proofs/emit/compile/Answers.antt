use Rattle.std.proofs.Common.{List, subst}
use Rattle.qs_ops_program.specs.inner.Emitted.{Emitted}
use Rattle.qs_ops_program.specs.inner.Flow.{Instruction}
use Rattle.qs_ops_program.proofs.Emits.{whole_made}
use Rattle.qs_ops_program.proofs.emit.compile.Goals as goal

pub returns-clause-makes : goal.returns-clause-makes
returns-clause-makes c =
    whole_made c.emit_stages.new.code.items c.in_ok-start.start c.args.stages.now
    (subst (λ (l : List Instruction). Emitted l c.emit_stages.new.code.items c.in_ok-start.start 0 c.args.stages.now) c.new-code.ensures.items c.in_ok-start.ensures)

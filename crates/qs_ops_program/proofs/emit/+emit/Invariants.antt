use Rattle.std.proofs.Common.{take, drop}
use Rattle.qs_ops_program.specs.inner.Emitted.{Emitted, Forked}
use Rattle.qs_ops_program.proofs.emit.+emit.Given as goal

abbrev pub invariant-emit_branches-loop-branch : goal.invariant-emit_branches-loop-branch
invariant-emit_branches-loop-branch l = Forked l.fn.code.items l.code.items l.starts.items l.next (take l.branch-index l.branches)

abbrev pub invariant-emit_stages-loop-left : goal.invariant-emit_stages-loop-left
invariant-emit_stages-loop-left l = Emitted l.fn.code.items l.code.items l.at l.next (drop l.left l.stages)

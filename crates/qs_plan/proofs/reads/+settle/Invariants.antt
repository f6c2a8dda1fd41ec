use Rattle.std.proofs.Common.{take}
use Rattle.std.specs.List.{AllByRecursion}
use Rattle.qs_plan.specs.inner.Reads.{Grows, Settles, SettlesOperand}
use Rattle.qs_plan.proofs.reads.+settle.Given as goal

abbrev pub invariant-settle_all-loop-part : goal.invariant-settle_all-loop-part
invariant-settle_all-loop-part l = Grows l.fn.variables.items l.variables.items × AllByRecursion (Settles l.variables.items) (take l.part-index l.parts)

abbrev pub invariant-settle_addends-loop-addend : goal.invariant-settle_addends-loop-addend
invariant-settle_addends-loop-addend l = Grows l.fn.variables.items l.variables.items × AllByRecursion (SettlesOperand l.variables.items) (take l.addend-index l.addends)

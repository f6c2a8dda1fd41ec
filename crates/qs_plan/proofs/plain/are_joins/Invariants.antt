use Rattle.std.proofs.Common.{take}
use Rattle.std.specs.List.{AllByRecursion}
use Rattle.qs_plan.specs.inner.Lays.{IsJoin}
use Rattle.qs_plan.proofs.plain.are_joins.Given as goal

abbrev pub invariant-loop-one : goal.invariant-loop-one
invariant-loop-one l = AllByRecursion IsJoin (take l.one-index l.steps)

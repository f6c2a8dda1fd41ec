use Rattle.std.proofs.Common.{take}
use Rattle.std.specs.List.{AllByRecursion}
use Rattle.qs_plan.specs.inner.Feeds.{Covers, Missing}
use Rattle.qs_plan.proofs.feed.put_all.Given as goal

abbrev pub invariant-loop-at : goal.invariant-loop-at
invariant-loop-at l = Covers l.fn.needs.items l.needs.items × AllByRecursion (Missing l.needs.items) (take l.at l.variables)

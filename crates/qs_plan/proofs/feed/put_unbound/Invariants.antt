use Rattle.std.proofs.Common.{take}
use Rattle.std.specs.List.{AllByRecursion}
use Rattle.qs_plan.specs.inner.Feeds.{Covers, Met}
use Rattle.qs_plan.proofs.feed.put_unbound.Given as goal

abbrev pub invariant-loop-at : goal.invariant-loop-at
invariant-loop-at l = Covers l.fn.needs.items l.needs.items × AllByRecursion (Met l.size l.stages l.needs.items) (take l.at l.variables)

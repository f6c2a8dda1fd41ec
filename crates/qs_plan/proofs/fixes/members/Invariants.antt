use Rattle.std.proofs.Common.{take}
use Rattle.std.specs.List.{AllByRecursion}
use Rattle.qs_terms.specs.Bag.{Distinct}
use Rattle.qs_terms.specs.Term.{same_term}
use Rattle.qs_plan.specs.inner.Fixes.{Admits, HaveSame}
use Rattle.qs_plan.proofs.fixes.members.Given as goal

abbrev pub invariant-loop-part : goal.invariant-loop-part
invariant-loop-part l = (Distinct same_term l.terms × AllByRecursion (Admits l.terms) (take l.part-index l.parts)) × HaveSame l.seen.keys l.terms

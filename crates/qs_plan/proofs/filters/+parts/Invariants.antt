use Rattle.std.proofs.Common.{◌++◌, take}
use Rattle.qs_plan.specs.inner.Places.{SameFilters}
use Rattle.qs_plan.proofs.filters.+parts.Given as goal

abbrev pub invariant-put_parts-loop-part : goal.invariant-put_parts-loop-part
invariant-put_parts-loop-part l = SameFilters l.waiting (l.fn.waiting ++ take l.part-index l.parts)

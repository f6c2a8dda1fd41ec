use Rattle.std.proofs.Common.{◌≡◌, take}
use Rattle.qs_plan.proofs.copies.+expr.Given as goal

abbrev pub invariant-copied_parts-loop-part : goal.invariant-copied_parts-loop-part
invariant-copied_parts-loop-part l = l.copies ≡ take l.part-index l.parts

abbrev pub invariant-copied_addends-loop-addend : goal.invariant-copied_addends-loop-addend
invariant-copied_addends-loop-addend l = l.copies ≡ take l.addend-index l.addends

use Rattle.std.proofs.Common.{◌≡◌, take}
use Rattle.qs_syntax_ast.proofs.path.+path.Given as goal

abbrev pub invariant-copied_parts-loop-part : goal.invariant-copied_parts-loop-part
invariant-copied_parts-loop-part l = l.copies ≡ take l.part-index l.parts

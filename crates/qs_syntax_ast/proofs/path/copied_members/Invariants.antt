use Rattle.std.proofs.Common.{◌≡◌, take}
use Rattle.qs_syntax_ast.proofs.path.copied_members.Given as goal

abbrev pub invariant-loop-member : goal.invariant-loop-member
invariant-loop-member l = l.copies ≡ take l.member-index l.members

use Rattle.std.proofs.Common.{◌≡◌, take}
use Rattle.qs_query_forms.proofs.answer.copied.Given as goal

abbrev pub invariant-loop-name : goal.invariant-loop-name
invariant-loop-name l = l.copies ≡ take l.name-index l.names

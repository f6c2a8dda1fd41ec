use Rattle.qs_results.proofs.Utf8.{utf8_after}
use Rattle.qs_results.proofs.answer.truth_after.Goals as goal

pub returns-clause-utf8 : goal.returns-clause-utf8
returns-clause-utf8 c = utf8_after _ _ _ c.in_ok-extend_from_slice.ensures.items c.as_bytes.ensures.utf8

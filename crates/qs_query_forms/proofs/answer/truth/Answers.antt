use Rattle.std.proofs.Common.{ap, sym, Ok}
use Rattle.qs_algebra_solutions.specs.declared.answer.Answer.TheVariants.{Truth}
use Rattle.qs_query_forms.proofs.Enough.{has_some}
use Rattle.qs_query_forms.proofs.answer.truth.Goals as goal

pub returns : goal.returns
returns g c = ap (λ b. Ok (Truth b)) (has_some c.in_ok-all.all.items _ c.in_ok-all.all.len c.is_empty.result c.in_ok-all.ensures (sym c.in_ok-all.all.ok.0) c.is_empty.ensures)

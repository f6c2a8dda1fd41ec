use Rattle.qs_query_forms.proofs.Fronts.{enough_or_all}
use Rattle.qs_query_forms.proofs.sequence.needed_count.Goals as goal

pub returns-in-Some : goal.returns-in-Some
returns-in-Some c = enough_or_all c.args.slice c.in-Some.limit _ c.checked_add.result c.in-Some.is c.checked_add.ensures

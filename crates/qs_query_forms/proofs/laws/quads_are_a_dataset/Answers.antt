use Rattle.qs_terms.specs.Dataset.{is_statement_below}
use Rattle.qs_terms.specs.Statement.{same_statement}
use Rattle.qs_terms.proofs.FirstOnes.{once_distinct}
use Rattle.qs_terms.proofs.SameStatement.{same_statement-Decides}
use Rattle.qs_query_forms.proofs.Once.{all_once}
use Rattle.qs_query_forms.proofs.laws.quads_are_a_dataset.Goals as goal

pub returns : goal.returns
returns c = λ quads next above. (once_distinct same_statement same_statement-Decides quads, all_once same_statement same_statement-Decides (is_statement_below next) quads above)

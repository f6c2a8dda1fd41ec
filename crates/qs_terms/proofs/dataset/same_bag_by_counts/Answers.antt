use Rattle.qs_terms.specs.Statement.{same_statement}
use Rattle.qs_terms.proofs.Counts.{times-same, same_from_times}
use Rattle.qs_terms.proofs.SameStatement.{same_statement-Decides}
use Rattle.qs_terms.proofs.dataset.same_bag_by_counts.Goals as goal

pub returns : goal.returns
returns c = λ a b. (λ h q. times-same same_statement q a b h, λ h. same_from_times same_statement same_statement-Decides a b h)

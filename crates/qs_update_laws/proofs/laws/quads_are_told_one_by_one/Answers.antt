use Rattle.qs_terms.specs.Dataset.{is_statement_below}
use Rattle.qs_terms.specs.Statement.{Statement, is_iri}
use Rattle.qs_update_laws.proofs.Instances.{later_above}
use Rattle.qs_update_laws.proofs.Lists.{all_or_each}
use Rattle.qs_update_laws.proofs.laws.quads_are_told_one_by_one.Goals as goal

pub returns-clause-above : goal.returns-clause-above
returns-clause-above c = λ next quads. all_or_each (is_statement_below next) quads

pub returns-clause-predicates : goal.returns-clause-predicates
returns-clause-predicates c = λ quads. all_or_each (λ (q : Statement). is_iri q.predicate) quads

pub returns-clause-later : goal.returns-clause-later
returns-clause-later c = later_above c.blanks_are_fresh.ensures.unused

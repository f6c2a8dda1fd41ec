use Rattle.qs_paths_meaning.proofs.ClosureLaws.{closures_are_walks, closures_are_distinct}
use Rattle.qs_paths_meaning.proofs.laws.closures.Goals as goal

pub returns-clause-walks : goal.returns-clause-walks
returns-clause-walks c = closures_are_walks

pub returns-clause-once : goal.returns-clause-once
returns-clause-once c = closures_are_distinct

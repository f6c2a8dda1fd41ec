use Rattle.qs_lex_regular.proofs.Longest.{best-some, best-none, one_class}
use Rattle.qs_lex_regular.proofs.laws.best_is_longest.Goals as goal

pub returns-clause-some : goal.returns-clause-some
returns-clause-some g c = best-some

pub returns-clause-none : goal.returns-clause-none
returns-clause-none g c = best-none

pub returns-clause-one_class : goal.returns-clause-one_class
returns-clause-one_class g c = one_class

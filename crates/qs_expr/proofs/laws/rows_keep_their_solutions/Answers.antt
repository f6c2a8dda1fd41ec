use Rattle.qs_expr.proofs.Growth.{still_row, same_row}
use Rattle.qs_expr.proofs.laws.rows_keep_their_solutions.Goals as goal

pub returns-clause-fits : goal.returns-clause-fits
returns-clause-fits c known old new m g h = still_row known old new g m h

pub returns-clause-solutions : goal.returns-clause-solutions
returns-clause-solutions c known old new m g h = same_row known old new g m h

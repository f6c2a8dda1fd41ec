use Rattle.std.proofs.Common.{◌≡◌, map, take}
use Rattle.std.specs.Option.{option_copied}
use Rattle.qs_algebra_solutions.specs.Solution.{projected}
use Rattle.qs_query_forms.proofs.distinct.cells.Given as goal

abbrev pub invariant-loop-column : goal.invariant-loop-column
invariant-loop-column l = map option_copied l.cells.items ≡ projected (take l.column-index l.columns) l.row

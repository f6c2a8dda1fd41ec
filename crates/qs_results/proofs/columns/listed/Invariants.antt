use Rattle.std.proofs.Common.{◌≡◌, ◌++◌, length}
use Rattle.qs_results.proofs.columns.listed.Given as goal

-- with the columns that are left the list becomes the whole
abbrev pub invariant-loop-column : goal.invariant-loop-column
invariant-loop-column l = l.list.items ++ l.columns.entries ≡ l.initial.columns.entries

abbrev pub decreases-loop-column : goal.decreases-loop-column
decreases-loop-column l = length l.columns.entries

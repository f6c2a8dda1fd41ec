use Rattle.std.proofs.Common.{◌≡◌, take}
use Rattle.qs_base.specs.inner.Lent.{lent}
use Rattle.qs_query_forms.proofs.sequence.lent_rows.Given as goal

abbrev pub invariant-loop-row : goal.invariant-loop-row
invariant-loop-row l = lent l.all.items ≡ take l.row-index l.rows

use Rattle.std.proofs.Common.{◌≡◌, length}
use Rattle.qs_update_entries.specs.inner.Refers.{AreFresh}
use Rattle.qs_update_entries.proofs.added.put_blanks.Given as goal

abbrev pub invariant-loop-place : goal.invariant-loop-place
invariant-loop-place l = record {
  count : length l.blanks.items ≡ l.place;
  fresh : AreFresh l.place l.first l.blanks.items;
}

use Rattle.std.proofs.Common.{◌≤◌, List, length, IsUtf8}
use denote.Text.{Utf8}
use denote.Shadow.{shadow}
use Rattle.qs_terms.specs.Statement.{Statement}
use Rattle.qs_nquads.specs.inner.Reading.{State, Comes}
use Rattle.qs_nquads.specs.inner.Unread.{state}
use Rattle.qs_nquads.proofs.reader.read_statement.Given as goal

abbrev pub invariant-tokens : goal.invariant-tokens
invariant-tokens l = record {
  text : shadow (Utf8 l.rest);
  utf8 : IsUtf8 l.rest;
  shorter : length l.rest ≤ length l.fn.text;
  comes : (from : State) (quads : List Statement) → Comes from (state l.fn.place l.fn.labels l.fn.text quads) → Comes from (state l.place l.labels l.rest quads);
}

abbrev pub decreases-tokens : goal.decreases-tokens
decreases-tokens l = length l.rest

use Rattle.std.proofs.Common.{◌≡◌, ◌+◌, length, IsUtf8, chars}
use Rattle.std.specs.Str.Iter.{chars_rest}
use Rattle.qs_lex_regular.specs.inner.Best.{best}
use Rattle.qs_lex_regular.specs.inner.Scan.{later}
use Rattle.qs_nquads.specs.Table.{table}
use Rattle.qs_nquads.specs.inner.State.{left}
use Rattle.qs_nquads.proofs.longest.longest.Given as goal

abbrev pub invariant-chars : goal.invariant-chars
invariant-chars l = record {
  utf8 : IsUtf8 (chars_rest l.rest);
  sizes : l.len + length (chars_rest l.rest) ≡ length l.fn.text;
  found : best table (chars l.fn.text) ≡ later (best (left l.state) (chars (chars_rest l.rest))) l.len l.found;
}

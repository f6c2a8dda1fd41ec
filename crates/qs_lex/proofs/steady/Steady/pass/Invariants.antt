use Rattle.std.proofs.Common.{◌≡◌, ◌≤◌, length, IsUtf8, chars}
use denote.Text.{Utf8}
use denote.Shadow.{shadow}
use Rattle.std.specs.Str.Iter.{chars_rest}
use Rattle.qs_lex.specs.inner.Steady.{is_steady, pass}
use Rattle.qs_lex.proofs.steady.Steady.pass.Given as goal

abbrev pub invariant-chars : goal.invariant-chars
invariant-chars l = record {
  text : shadow (Utf8 l.left);
  utf8 : IsUtf8 l.left;
  same : l.left ≡ chars_rest l.rest;
  passed : pass (is_steady l.self) (chars l.left) ≡ pass (is_steady l.self) (chars l.fn.text);
  len : length l.left ≤ length l.fn.text;
}

use Rattle.std.proofs.Common.{◌≡◌, ◌≤◌, length, false, IsUtf8, chars}
use denote.Text.{Utf8}
use denote.Shadow.{shadow}
use Rattle.std.specs.Str.Iter.{chars_rest}
use Rattle.qs_nquads.specs.Gap.{skip}
use Rattle.qs_nquads.proofs.gap.after_gap.Given as goal

abbrev pub invariant-chars : goal.invariant-chars
invariant-chars l = record {
  text : shadow (Utf8 l.left);
  utf8 : IsUtf8 l.left;
  same : l.left ≡ chars_rest l.rest;
  skipped : skip l.in_comment (chars l.left) ≡ skip false (chars l.fn.text);
  len : length l.left ≤ length l.fn.text;
}

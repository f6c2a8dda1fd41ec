use Rattle.std.proofs.Common.{◌≡◌, ◌++◌, List, ℕ, length, IsUtf8, chars}
use Rattle.std.specs.Str.Iter.{chars_rest}
use Rattle.qs_lex.specs.inner.Prefix.{names}
use Rattle.qs_lex.proofs.Prefix.{SameBehind}
use Rattle.qs_lex.proofs.run.run_at.Given as goal

abbrev pub invariant-chars : goal.invariant-chars
invariant-chars l = record {
  utf8 : IsUtf8 (chars_rest l.rest);
  left : l.left ≡ length (chars_rest l.rest);
  part : (done : List ℕ) × (chars l.fn.text ≡ done ++ chars (chars_rest l.rest));
  same : SameBehind (chars l.fn.text) l.left (names l.last (chars (chars_rest l.rest)));
}

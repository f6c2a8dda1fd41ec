use Rattle.std.proofs.Common.{◌≡◌, ◌≤◌, ◌-◌, length, IsUtf8, chars}
use denote.Text.{Utf8}
use denote.Shadow.{shadow}
use Rattle.qs_lex_regular.specs.inner.Best.{best}
use Rattle.qs_lex_regular.specs.inner.Scan.{later}
use Rattle.qs_lex.specs.Table.{table}
use Rattle.qs_lex.specs.inner.State.{left}
use Rattle.qs_lex.proofs.longest.longest.Given as goal

abbrev pub invariant-states : goal.invariant-states
invariant-states l = record {
  text : shadow (Utf8 l.left);
  utf8 : IsUtf8 l.left;
  len : length l.left ≤ length l.fn.text;
  found : best table (chars l.fn.text) ≡ later (best (left l.state) (chars l.left)) (length l.fn.text - length l.left) l.found;
}

abbrev pub decreases-states : goal.decreases-states
decreases-states l = length l.left

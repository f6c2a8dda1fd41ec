use Rattle.std.proofs.Common.{◌≡◌, ℕ, ◌<◌, get_or, false}
use Rattle.qs_http.specs.inner.HeadEnd.{is_in_line}
use Rattle.qs_http.proofs.bytes.leading_len.Given as goal

abbrev pub invariant-loop-i : goal.invariant-loop-i
invariant-loop-i l = (k : ℕ) → k < l.i → is_in_line (get_or l.bytes k 0) ≡ false

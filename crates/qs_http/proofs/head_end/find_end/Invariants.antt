use Rattle.std.proofs.Common.{◌≡◌, drop}
use Rattle.qs_http.specs.inner.HeadEnd.{later}
use Rattle.qs_http.specs.inner.HeadState.{end_from, place_from}
use Rattle.qs_http.proofs.head_end.find_end.Given as goal

abbrev pub invariant-loop-i : goal.invariant-loop-i
invariant-loop-i l =
    (end_from l.fn.place l.piece ≡ later l.i (end_from l.place (drop l.i l.piece)))
    × (place_from l.fn.place l.piece ≡ place_from l.place (drop l.i l.piece))

use Rattle.std.proofs.Common.{◌≡◌, ℕ, length}
use Rattle.qs_nquads.specs.inner.Unread.{HasRead}
use Rattle.qs_nquads.proofs.nquads.read_into.Given as goal

abbrev pub invariant-statements : goal.invariant-statements
invariant-statements l = record {
  bytes : l.reader.bytes ≡ l.fn.reader.bytes;
  read : (first : ℕ) → HasRead first l.fn.quads.items l.fn.reader → HasRead first l.quads.items l.reader;
}

abbrev pub decreases-statements : goal.decreases-statements
decreases-statements l = length l.reader.rest

use Rattle.std.proofs.Common.{◌≡◌, ℕ, List, length}
use Rattle.qs_terms.specs.Statement.{Statement}
use Rattle.qs_nquads.specs.inner.Unread.{HasRead}
use Rattle.qs_store_load.specs.inner.Loading.{HasReadMore}
use Rattle.qs_store_load.proofs.nquads.full.Given as goal

abbrev pub invariant-statements : goal.invariant-statements
invariant-statements l = record {
  bytes : l.reader.bytes ≡ l.fn.reader.bytes;
  read : (first : ℕ) (quads : List Statement) → HasRead first quads l.fn.reader → HasReadMore first quads l.reader;
}

abbrev pub decreases-statements : goal.decreases-statements
decreases-statements l = length l.reader.rest

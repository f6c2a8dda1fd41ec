use Rattle.std.proofs.Common.{◌≡◌, ℕ, [], length}
use Rattle.qs_nquads.specs.inner.Unread.{HasRead}
use Rattle.qs_store.specs.inner.Entries.{said}
use Rattle.qs_store_load.specs.inner.Loading.{Learns, Say}
use Rattle.qs_store_load.proofs.nquads.put_all.Given as goal

abbrev pub invariant-statements : goal.invariant-statements
invariant-statements l = record {
  bytes : l.reader.bytes ≡ l.fn.reader.bytes;
  reference : l.draft.store.ghost_name ≡ l.fn.draft.store.ghost_name;
  learns : Learns l.fn.draft.store.now l.draft.store.now;
  say : Say l.fn.draft.store.now.draft.known l.draft.store.now.draft.known l.entries.items (said l.draft.store.now.draft.known l.entries.items);
  read : (first : ℕ) → HasRead first [] l.fn.reader → HasRead first (said l.draft.store.now.draft.known l.entries.items) l.reader;
}

abbrev pub decreases-statements : goal.decreases-statements
decreases-statements l = length l.reader.rest

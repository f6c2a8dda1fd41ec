use Rattle.std.proofs.Common.{◌≡◌, map, length}
use Rattle.qs_store.specs.inner.Scans.{triple_of, unrepeated}
use Rattle.qs_store.specs.inner.Sources.{entries_left}
use Rattle.qs_store.proofs.triples.next_other.Given as goal

abbrev pub invariant-entries : goal.invariant-entries
invariant-entries l = unrepeated l.fn.last (map triple_of (entries_left l.fn.source)) ≡ unrepeated l.last (map triple_of (entries_left l.source))

abbrev pub decreases-entries : goal.decreases-entries
decreases-entries l = length (entries_left l.source)

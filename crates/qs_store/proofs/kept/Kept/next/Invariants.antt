use Rattle.std.proofs.Common.{◌≡◌, length}
use Rattle.qs_store.specs.inner.Scans.{without, led}
use Rattle.qs_store.proofs.kept.Kept.next.Given as goal

abbrev pub invariant-entries : goal.invariant-entries
invariant-entries l = l.fn.self ≡ without l.self-inside.entries.rest (led l.self-inside.next_removed l.self-inside.removed.rest)

abbrev pub decreases-entries : goal.decreases-entries
decreases-entries l = length l.self-inside.entries.rest

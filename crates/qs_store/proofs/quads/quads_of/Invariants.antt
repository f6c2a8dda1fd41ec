use Rattle.std.proofs.Common.{◌≡◌, take}
use Rattle.qs_store.specs.inner.Entries.{said}
use Rattle.qs_store.proofs.quads.quads_of.Given as goal

abbrev pub invariant-loop-entry : goal.invariant-loop-entry
invariant-loop-entry l = l.quads.items ≡ said l.dict.terms (take l.entry-index l.entries)

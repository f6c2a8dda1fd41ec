use Rattle.std.proofs.Common.{◌≡◌, ◌++◌}
use Rattle.qs_store.proofs.layers.listed.Given as goal

abbrev pub invariant-loop-entry : goal.invariant-loop-entry
invariant-loop-entry l = record {
  whole : l.yielded ++ l.entry-iterator.rest ≡ l.fn.scan.rest;
  done : l.found.items ≡ l.yielded;
}

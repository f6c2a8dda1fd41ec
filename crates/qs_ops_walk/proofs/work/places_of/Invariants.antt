use Rattle.std.proofs.Common.{◌≡◌, List}
use Rattle.qs_terms.specs.declared.term.Term.{Term}
use Rattle.qs_ops_walk.specs.inner.Works.{AreReady, code_of}
use Rattle.qs_ops_walk.proofs.work.places_of.Given as goal

abbrev pub invariant-loop-instr : goal.invariant-loop-instr
invariant-loop-instr g l = record {
  code : code_of l.places.items ≡ l.yielded;
  ready : (table : List Term) → AreReady l.reader table l.places.items;
}

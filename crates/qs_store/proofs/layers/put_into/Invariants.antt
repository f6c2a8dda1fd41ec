use Rattle.std.proofs.Common.{◌≡◌, ◌++◌, ◌∷◌, map}
use Rattle.qs_store.proofs.layers.put_into.Given as goal

abbrev pub invariant-loop-s : goal.invariant-loop-s
invariant-loop-s l = record {
  whole : l.yielded ++ l.s-iterator ≡ l.fn.triples;
  done : l.found.items ≡ map (λ t. l.graph ∷ t) l.yielded;
}

use Rattle.qs_syntax_scope.proofs.Brought as brought
use Rattle.qs_syntax_scope.proofs.laws.patterns_bring_into_scope.Goals as goal

pub returns : goal.returns
returns c = record {
  triples = brought.triples;
  union = brought.union;
  optional = brought.optional;
  minus = brought.minus;
  graph = brought.graph;
  bind = brought.bind;
  values = brought.values;
}

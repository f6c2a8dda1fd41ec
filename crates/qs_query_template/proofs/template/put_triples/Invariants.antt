use Rattle.std.proofs.Common.{◌≡◌, ◌++◌, take}
use Rattle.std.specs.List.{flat_map}
use Rattle.qs_query_template.specs.Template.{triple_quads}
use Rattle.qs_query_template.proofs.template.put_triples.Given as goal

abbrev pub invariant-loop-triple : goal.invariant-loop-triple
invariant-loop-triple l = l.quads ≡ l.initial.quads ++ flat_map (triple_quads l.names l.blanks l.graph) (take l.triple-index l.triples)

use Rattle.std.proofs.Common.{◌≡◌, None, take, fold}
use Rattle.qs_syntax_limits.specs.Large as spec
use Rattle.qs_syntax_limits.specs.inner.Parts.{further}
use Rattle.qs_syntax_limits.proofs.triples.+triples.Given as goal

abbrev pub invariant-in_graph_nodes-loop-node : goal.invariant-in_graph_nodes-loop-node
invariant-in_graph_nodes-loop-node l = l.found ≡ fold (further spec.graph_node) None (take l.node-index l.all)

abbrev pub invariant-in_properties-loop-property : goal.invariant-in_properties-loop-property
invariant-in_properties-loop-property l = l.found ≡ fold (further spec.property) None (take l.property-index l.all)

use Rattle.std.proofs.Common.{map, rules, arith, ap, ◌∙◌}
use Rattle.std.specs.List.{flat_map}
use Rattle.qs_syntax_limits.specs.Large as spec
use Rattle.qs_syntax_limits.proofs.Rows.{nothing, both, each_at_end}
use Rattle.qs_syntax_limits.proofs.Trees.{term_rows}
use Rattle.qs_syntax_tree.specs.declared.triples.Property.{the_lemmas as property_lemmas}
use Rattle.qs_syntax_limits.proofs.triples.+triples.Goals as goal

pub in_graph_node-returns-in-Term : goal.in_graph_node-returns-in-Term
in_graph_node-returns-in-Term t c = nothing (spec.graph_node c.args.node.now) (ap spec.graph_node c.in-Term.is ∙ term_rows c.in-Term.field-0)

pub in_graph_nodes-returns : goal.in_graph_nodes-returns
in_graph_nodes-returns t c = each_at_end spec.graph_node c.loop-node.found c.args.all.now c.loop-node.node-index c.loop-node-test.false c.loop-node.invariant

pub in_properties-returns : goal.in_properties-returns
in_properties-returns t c = each_at_end spec.property c.loop-property.found c.args.all.now c.loop-property.property-index c.loop-property-test.false c.loop-property.invariant

pub in_property-returns : goal.in_property-returns
in_property-returns t c =
    let p = c.args.property.now in
    let h = both (spec.property p) (spec.verb p.verb) (flat_map (λ rows. rows) (map spec.graph_node p.objects)) (search (rules, property_lemmas)) in
    first_of (search (rules, h), grind (arith, h))

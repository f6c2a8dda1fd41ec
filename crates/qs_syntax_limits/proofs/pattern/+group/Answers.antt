use Rattle.std.proofs.Common.{ap, ◌∙◌}
use Rattle.qs_syntax_limits.specs.inner.Parts.{element, group, graph_pattern}
use Rattle.qs_syntax_limits.proofs.Rows.{nothing, row_at_end}
use Rattle.qs_syntax_limits.proofs.Trees.{values_rows}
use Rattle.qs_syntax_limits.proofs.pattern.+group.Goals as goal

pub in_graph_pattern-returns-in-Values : goal.in_graph_pattern-returns-in-Values
in_graph_pattern-returns-in-Values t c = nothing (graph_pattern c.args.pattern.now) (ap graph_pattern c.in-Values.is ∙ values_rows c.in-Values.field-0)

pub in_elements-returns : goal.in_elements-returns
in_elements-returns t c = row_at_end element c.loop-element.found c.args.all.now c.loop-element.element-index c.loop-element-test.false c.loop-element.invariant

pub in_union-returns : goal.in_union-returns
in_union-returns t c = row_at_end group c.loop-group.found c.args.all.now c.loop-group.group-index c.loop-group-test.false c.loop-group.invariant

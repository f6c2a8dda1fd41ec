-- The grammar whole.
use Rattle.qs_syntax_tree.specs.Sparql.{Name, Tree, group, triples, properties, path, expression}
use Rattle.qs_syntax_tree.specs.Sparql.{operations, Rule}
use Rattle.qs_syntax_tree.specs.Rules.{group_rule, triples_rule, properties_rule, path_rule}
use Rattle.qs_syntax_tree.specs.Rules.{expression_rule, operations_rule}

unfoldable pub grammar : (n : Name) → Rule (Tree n)
grammar group = group_rule
grammar (triples f) = triples_rule f
grammar (properties f) = properties_rule f
grammar path = path_rule
grammar expression = expression_rule
grammar operations = operations_rule

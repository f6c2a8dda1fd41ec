-- The variables that stand anywhere in a query, an operation of an update or a part of one (SPARQL
-- 1.1 Query, 4.1.3), in scope or not, as often as they stand there: for proofs and the layers
-- between. They stand in the projection and after AS, in triples and at the ends of paths, in
-- expressions, filters and keys of ORDER BY. They stand after MINUS too, as the name of a graph, in
-- tables, in templates and in quads.
use Rattle.std.specs.Prelude.{List, [], ◌∷◌, ◌++◌, map, unwrap_or, option_map}
use Rattle.std.specs.List.{flat_map}
use Rattle.qs_syntax_scope.specs.Names.{Name, joined}
use Rattle.qs_syntax_scope.specs.Firsts.{firsts}
use Rattle.qs_syntax_scope.specs.inner.Firsts.{with_names}
use Rattle.qs_syntax_scope.specs.KeepsScope.{trailing_names}
use Rattle.qs_syntax_scope.specs.Variables.{triple_variables, graph_variables, column_names}
use Rattle.qs_syntax_scope.specs.Variables.{block_variables}
use Rattle.qs_syntax_ast.specs.declared.expression.Addend.{Addend, fold-Addend}
use Rattle.qs_syntax_ast.specs.declared.expression.Expression.{Expression, fold-Expression}
use Rattle.qs_syntax_ast.specs.declared.expression.Expression.TheOpen.{Expression-F}
use Rattle.qs_syntax_ast.specs.declared.expression.Expression.TheOpen as e
use Rattle.qs_syntax_ast.specs.declared.pattern.Group.{Group, fold-Group}
use Rattle.qs_syntax_ast.specs.declared.pattern.GraphPattern.{GraphPattern, fold-GraphPattern}
use Rattle.qs_syntax_ast.specs.declared.pattern.GraphPattern.TheOpen.{GraphPattern-F}
use Rattle.qs_syntax_ast.specs.declared.pattern.GraphPattern.TheOpen as g
use Rattle.qs_syntax_ast.specs.declared.query.Projection.{Projection}
use Rattle.qs_syntax_ast.specs.declared.query.Projection.TheVariants as all
use Rattle.qs_syntax_ast.specs.declared.query.Query.{Query}
use Rattle.qs_syntax_ast.specs.declared.query.QueryForm.{QueryForm}
use Rattle.qs_syntax_ast.specs.declared.query.QueryForm.TheVariants as form
use Rattle.qs_syntax_ast.specs.declared.query.SelectItem.{SelectItem}
use Rattle.qs_syntax_ast.specs.declared.query.SelectItem.TheVariants as item
use Rattle.qs_syntax_ast.specs.declared.query.SolutionModifiers.{SolutionModifiers}
use Rattle.qs_syntax_ast.specs.declared.term.Variable.{Variable}
use Rattle.qs_syntax_ast.specs.declared.update.Operation.{Operation}
use Rattle.qs_syntax_ast.specs.declared.update.Operation.TheVariants as op

-- ---- expressions (17); BOUND has a variable too

abbrev pub expression_level : Expression-F (List Name) (List Name) → List Name
expression_level (e.Variable v) = v.name ∷ []
expression_level (e.Iri i) = []
expression_level (e.Literal l) = []
expression_level (e.Or operands) = joined operands
expression_level (e.And operands) = joined operands
expression_level (e.Compare comparison a b) = a ++ b
expression_level (e.In a list) = a ++ joined list
expression_level (e.NotIn a list) = a ++ joined list
expression_level (e.Sum a addends) = a ++ joined addends
expression_level (e.Product operands) = joined operands
expression_level (e.Not a) = a
expression_level (e.Signed sign a) = a
expression_level (e.Bound v) = v.name ∷ []
expression_level (e.If test a b) = test ++ a ++ b
expression_level (e.Coalesce arguments) = joined arguments
expression_level (e.Concat arguments) = joined arguments
expression_level (e.Unary function a) = a
expression_level (e.Binary function a b) = a ++ b

abbrev pub in_expression : Expression → List Name
in_expression = fold-Expression (List Name) (List Name) expression_level (λ addend. addend.operand)

abbrev pub in_expressions : List Expression → List Name
in_expressions expressions = joined (map (λ x. in_expression x) expressions)

abbrev pub in_addend : Addend → List Name
in_addend = fold-Addend (List Name) (List Name) expression_level (λ addend. addend.operand)

abbrev pub in_addends : List Addend → List Name
in_addends addends = joined (map (λ x. in_addend x) addends)

-- ---- triples (4.2) and group graph patterns (5), with their filters and what stands after MINUS

abbrev pub pattern_level : GraphPattern-F (List Name) (List Name) → List Name
pattern_level (g.Triples triples) = flat_map triple_variables triples
pattern_level (g.Union groups) = joined groups
pattern_level (g.Optional group) = group
pattern_level (g.Minus group) = group
pattern_level (g.Graph name group) = graph_variables name ++ group
pattern_level (g.Bind value v) = in_expression value ++ v.name ∷ []
pattern_level (g.Values table) = column_names table

abbrev pub in_group : Group → List Name
in_group = fold-Group (List Name) (List Name) pattern_level
    (λ group. joined group.patterns ++ joined (map in_expression group.filters))

abbrev pub in_groups : List Group → List Name
in_groups groups = joined (map (λ x. in_group x) groups)

abbrev pub in_pattern : GraphPattern → List Name
in_pattern = fold-GraphPattern (List Name) (List Name) pattern_level
    (λ group. joined group.patterns ++ joined (map in_expression group.filters))

abbrev pub in_patterns : List GraphPattern → List Name
in_patterns patterns = joined (map (λ p. in_pattern p) patterns)

-- each once, in the order in which they first appear
unfoldable pub group_variables : Group → List Variable
group_variables group = firsts (with_names (in_group group))

-- ---- queries (15 and 16)

abbrev pub in_item : SelectItem → List Name
in_item (item.Variable v) = v.name ∷ []
in_item (item.As value v) = in_expression value ++ v.name ∷ []

abbrev pub in_projection : Projection → List Name
in_projection all.All = []
in_projection (all.Items items) = flat_map in_item items

-- of the keys of ORDER BY
abbrev pub in_keys : SolutionModifiers → List Name
in_keys modifiers = flat_map (λ condition. in_expression condition.key) modifiers.order

abbrev pub in_form : QueryForm → List Name
in_form (form.Select s) = in_projection s.projection ++ in_group s.pattern ++ in_keys s.modifiers
in_form (form.Construct c) = flat_map triple_variables c.template
    ++ unwrap_or (option_map in_group c.pattern) [] ++ in_keys c.modifiers
in_form (form.Ask ask) = in_group ask.pattern ++ in_keys ask.modifiers

-- of the trailing VALUES too
abbrev pub in_query : Query → List Name
in_query query = in_form query.form ++ trailing_names query.values

-- ---- updates (SPARQL 1.1 Update, 3)

abbrev pub in_operation : Operation → List Name
in_operation (op.InsertData blocks) = flat_map block_variables blocks
in_operation (op.DeleteData blocks) = flat_map block_variables blocks
in_operation (op.DeleteWhere d) = flat_map block_variables d.quads
in_operation (op.Modify m) = flat_map block_variables m.delete ++ flat_map block_variables m.insert
    ++ in_group m.pattern
in_operation other = []

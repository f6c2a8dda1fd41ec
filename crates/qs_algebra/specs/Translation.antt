-- The pattern of a group (SPARQL 1.1 Query, 18.2.2): what its steps make of the empty solution, in
-- the order of the text, as far as its filters hold. The simplification of a single part (18.2.2.8)
-- holds for a pattern that is joined alone. `{ OPTIONAL { .. } }` stays a left join of the empty
-- solution.
use Rattle.std.specs.Prelude.{List, [], ◌∷◌, ◌++◌, map, Option, Some, None}
use Rattle.std.specs.List.{flat_map}
use Rattle.std.specs.Option.{option_map_or}
use Rattle.qs_terms.specs.declared.term.Term.TheVariants as value
use Rattle.qs_syntax_ast.specs.declared.pattern.Group.{Group, fold-Group}
use Rattle.qs_syntax_ast.specs.declared.pattern.GraphPattern.TheOpen.{Group-F, GraphPattern-F}
use Rattle.qs_syntax_ast.specs.declared.pattern.GraphPattern.TheOpen.{Triples, Union, Optional}
use Rattle.qs_syntax_ast.specs.declared.pattern.GraphPattern.TheOpen.{Minus, Graph, Bind, Values}
use Rattle.qs_syntax_ast.specs.declared.pattern.InlineData.{InlineData}
use Rattle.qs_syntax_ast.specs.declared.query.Projection.{Projection}
use Rattle.qs_syntax_ast.specs.declared.query.Projection.TheVariants as projection
use Rattle.qs_syntax_ast.specs.declared.query.Query.{Query}
use Rattle.qs_syntax_ast.specs.declared.query.QueryForm.{QueryForm}
use Rattle.qs_syntax_ast.specs.declared.query.QueryForm.TheVariants as form
use Rattle.qs_syntax_ast.specs.declared.query.SelectItem.{SelectItem}
use Rattle.qs_syntax_ast.specs.declared.query.SelectItem.TheVariants as item
use Rattle.qs_syntax_ast.specs.declared.term.Variable.{Variable}
use Rattle.qs_syntax_ast.specs.declared.term.VarOrIri.{VarOrIri}
use Rattle.qs_syntax_ast.specs.declared.term.VarOrIri.TheVariants as name
use Rattle.qs_syntax_ast.specs.declared.update.QuadBlock.{QuadBlock}
use Rattle.qs_syntax_scope.specs.Firsts.{names_of}
use Rattle.qs_syntax_scope.specs.Names.{Name}
use Rattle.qs_syntax_scope.specs.Places.{place_of}
use Rattle.qs_algebra_patterns.specs.declared.pattern.PatternNode.{PatternNode}
use Rattle.qs_algebra_patterns.specs.declared.pattern.PatternNode.TheVariants as pattern
use Rattle.qs_algebra_patterns.specs.declared.pattern.PatternNode.TheOpen as level
use Rattle.qs_algebra_patterns.specs.declared.pattern.Step.{Step, out-Step}
use Rattle.qs_algebra_patterns.specs.declared.pattern.Step.TheVariants as step
use Rattle.qs_algebra_patterns.specs.declared.table.Table.{Table}
use Rattle.qs_expr_meaning.specs.declared.expr.Expr.{Expr}
use Rattle.qs_algebra.specs.Basic.{basic_pattern}
use Rattle.qs_algebra.specs.Expressions.{expr_of}
use Rattle.qs_algebra_patterns.specs.declared.named_pattern.Pattern.{Pattern}
use Rattle.qs_algebra.specs.declared.parts.GroupParts.{GroupParts}

-- one group, or a union of groups
abbrev pub one_or_union : List PatternNode → PatternNode
one_or_union (part ∷ []) = part
one_or_union parts = pattern.Union parts

-- the active graph, or the graph of a name, or each graph
abbrev pub in_graph : List Name → Option VarOrIri → PatternNode → PatternNode
in_graph names None part = part
in_graph names (Some (name.Variable v)) part = pattern.EachGraph (place_of names v.name) part
in_graph names (Some (name.Iri i)) part = pattern.Graph (value.Iri i) part

-- the table of VALUES, its variables by their numbers
abbrev pub table_of : List Name → InlineData → Table
table_of names t =
    record { variables = map (λ (v : Variable). place_of names v.name) t.variables; rows = t.rows }

-- ---- the steps and the filters of a group, and the group that is closed after them

-- the only step of a group: a pattern that is joined to the empty solution alone is that pattern
abbrev pub alone : Step → level.Step-F PatternNode Step → PatternNode
alone s (level.Join part) = part
alone s _ = pattern.Group (s ∷ []) []

-- the steps without filters
abbrev pub unfiltered : List Step → PatternNode
unfiltered (s ∷ []) = alone s (out-Step s)
unfiltered steps = pattern.Group steps []

-- the steps, with the filters, which apply to the whole group (5.2.2)
abbrev pub filtered : List Step → List Expr → PatternNode
filtered steps [] = unfiltered steps
filtered steps (f ∷ fs) = pattern.Group steps (f ∷ fs)

abbrev pub closed : GroupParts → PatternNode
closed group = filtered group.steps group.conditions

-- the step of each part; of an optional group its own filters are the condition (18.2.2.6)
abbrev pub step_level : List Name → GraphPattern-F Step GroupParts → Step
step_level names (Triples triples) = step.Join (pattern.Basic (basic_pattern names triples))
step_level names (Union groups) = step.Join (one_or_union (map closed groups))
step_level names (Optional group) = step.LeftJoin (unfiltered group.steps) group.conditions
step_level names (Minus group) = step.Minus (closed group)
step_level names (Graph graph group) = step.Join (in_graph names (Some graph) (closed group))
step_level names (Bind value v) = step.Extend (place_of names v.name) (expr_of names value)
step_level names (Values table) = step.Join (pattern.Values (table_of names table))

abbrev pub group_level : List Name → Group-F Step GroupParts → GroupParts
group_level names g = record { steps = g.patterns; conditions = map (expr_of names) g.filters }

-- the steps and the filters of a group
abbrev pub group_parts : List Name → Group → GroupParts
group_parts names = fold-Group Step GroupParts (step_level names) (group_level names)

-- the pattern of a group
abbrev pub group_pattern : List Name → Group → PatternNode
group_pattern names group = closed (group_parts names group)

-- the pattern of a query: that of its WHERE, which in a short CONSTRUCT is its template (16.2.4)
abbrev pub form_pattern : List Name → QueryForm → PatternNode
form_pattern names (form.Select s) = group_pattern names s.pattern
form_pattern names (form.Construct c) =
    option_map_or (group_pattern names) c.pattern (pattern.Basic (basic_pattern names c.template))
form_pattern names (form.Ask a) = group_pattern names a.pattern

-- the trailing VALUES, if there is one (18.2.4.3)
abbrev pub trailing_steps : List Name → Option InlineData → List Step
trailing_steps names None = []
trailing_steps names (Some table) = step.Join (pattern.Values (table_of names table)) ∷ []

-- an item of SELECT: an expression extends each solution, a variable does nothing (18.2.4.4)
abbrev pub item_steps : List Name → SelectItem → List Step
item_steps names (item.Variable v) = []
item_steps names (item.As value v) = step.Extend (place_of names v.name) (expr_of names value) ∷ []

abbrev pub projection_steps : List Name → Projection → List Step
projection_steps names projection.All = []
projection_steps names (projection.Items items) = flat_map (item_steps names) items

-- the select expressions, from left to right
abbrev pub selected_steps : List Name → QueryForm → List Step
selected_steps names (form.Select select) = projection_steps names select.projection
selected_steps names _ = []

-- the pattern of a query, whose variables have the numbers of their places in its list: that of its
-- form, joined with the trailing VALUES, and then extended by the select expressions
abbrev pub query_pattern : Query → PatternNode
query_pattern query =
    let names = names_of query.variables in
    unfiltered (step.Join (form_pattern names query.form)
    ∷ (trailing_steps names query.values ++ selected_steps names query.form))

-- the pattern of a query, with its variables
abbrev pub translated : Query → Pattern
translated query = record { names = names_of query.variables; root = query_pattern query }

-- the pattern of a WHERE by itself, with the variables of its operation
abbrev pub translated_where : List Variable → Group → Pattern
translated_where variables group = let names = names_of variables in
    record { names = names; root = group_pattern names group }

-- ---- the pattern of DELETE WHERE: the quads of its template (SPARQL 1.1 Update, 3.1.3.3)

abbrev pub block_step : List Name → QuadBlock → Step
block_step vs b = step.Join (in_graph vs b.graph (pattern.Basic (basic_pattern vs b.triples)))

-- the pattern of blocks of triples, each of the default graph or of the graph that it names, with
-- the variables of its operation
abbrev pub translated_blocks : List Variable → List QuadBlock → Pattern
translated_blocks variables blocks = let names = names_of variables in
    record { names = names; root = unfiltered (map (block_step names) blocks) }

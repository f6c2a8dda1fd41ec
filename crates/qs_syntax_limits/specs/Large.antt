-- The first place at which too much stands side by side. The limits are the profile's; the standard
-- has none. A group, and the braces of DELETE WHERE, have at most 256 elements, and a chain at most
-- 256 operands. All rows of a tree are collected, with those of each tree within it, and the limit
-- is asked of each. Data, templates and the short form of CONSTRUCT have no limit of elements.
use Rattle.std.specs.Prelude.{ℕ, List, [], ◌∷◌, ◌++◌, Option, map, min, slice_get}
use Rattle.std.specs.List.{flat_map, filter_map, reduce}
use Rattle.std.specs.Option.{option_map_or}
use Rattle.qs_syntax_tree.specs.declared.expression.Expression.{Expression, fold-Expression}
use Rattle.qs_syntax_tree.specs.declared.expression.Call.TheOpen.{Expression-F, Call-F}
use Rattle.qs_syntax_tree.specs.declared.expression.Call.TheOpen as e
use Rattle.qs_syntax_tree.specs.declared.path.Path.{Path, fold-Path}
use Rattle.qs_syntax_tree.specs.declared.path.Path.TheOpen.{Path-F}
use Rattle.qs_syntax_tree.specs.declared.path.Path.TheOpen as p
use Rattle.qs_syntax_tree.specs.declared.path.Verb.{Verb}
use Rattle.qs_syntax_tree.specs.declared.path.Verb.TheVariants as v
use Rattle.qs_syntax_tree.specs.declared.pattern.GraphPattern.TheOpen.{GraphPattern-F}
use Rattle.qs_syntax_tree.specs.declared.pattern.GraphPattern.TheOpen as g
use Rattle.qs_syntax_tree.specs.declared.pattern.Group.{Group, fold-Group}
use Rattle.qs_syntax_tree.specs.declared.query.Projection.{Projection}
use Rattle.qs_syntax_tree.specs.declared.query.Projection.TheVariants as all
use Rattle.qs_syntax_tree.specs.declared.query.Query.{Query}
use Rattle.qs_syntax_tree.specs.declared.query.QueryForm.{QueryForm}
use Rattle.qs_syntax_tree.specs.declared.query.QueryForm.TheVariants as form
use Rattle.qs_syntax_tree.specs.declared.query.SelectItem.{SelectItem}
use Rattle.qs_syntax_tree.specs.declared.query.SelectItem.TheVariants as item
use Rattle.qs_syntax_tree.specs.declared.query.SolutionModifiers.{SolutionModifiers}
use Rattle.qs_syntax_tree.specs.declared.triples.GraphNode.{GraphNode, fold-GraphNode}
use Rattle.qs_syntax_tree.specs.declared.triples.GraphNode.TheOpen.{GraphNode-F, Property-F}
use Rattle.qs_syntax_tree.specs.declared.triples.GraphNode.TheOpen as n
use Rattle.qs_syntax_tree.specs.declared.triples.Property.{Property, fold-Property}
use Rattle.qs_syntax_tree.specs.declared.triples.TriplesSameSubject.{TriplesSameSubject}
use Rattle.qs_syntax_tree.specs.declared.update.Operation.{Operation}
use Rattle.qs_syntax_tree.specs.declared.update.Operation.TheVariants as op
use Rattle.qs_syntax_tree.specs.declared.update.QuadPattern.{QuadPattern}
use Rattle.qs_syntax_tree.specs.declared.update.Quads.{Quads}
use Rattle.qs_syntax_tree.specs.declared.update.Quads.TheVariants as quad
use Rattle.qs_syntax_tree.specs.declared.update.Update.{Update}

-- the most elements of a group, and the most operands of a chain
abbrev pub limit : ℕ
limit = 256

-- a row is what stands side by side, by the places where it begins
abbrev pub Rows : Type 0
Rows = List (List ℕ)

-- the least place at which a row has a part past the limit
unfoldable pub excess : Rows → Option ℕ
excess rows = reduce min (filter_map (λ row. slice_get row limit) rows)

-- an element or an operand: where it begins, and the rows within it
pub record Part : Type 0 where
  pub place : ℕ
  pub rows : Rows

-- the row of these parts, and the rows within them
abbrev pub side_by_side : List Part → Rows
side_by_side parts = map (λ part. part.place) parts ∷ flat_map (λ part. part.rows) parts

-- ---- all rows of a property path (SPARQL 1.1 Query, 19.8, [88] to [96]): chains are `|`, `/` and
-- the members of a negated set

abbrev pub path_level : Path-F Rows Part → Rows
path_level (p.Predicate predicate) = []
path_level (p.NegatedSet members) = map (λ member. member.place) members ∷ []
path_level (p.Alternative operands) = side_by_side operands
path_level (p.Sequence operands) = side_by_side operands
path_level (p.Inverse path) = path
path_level (p.Repeated path repetition) = path

abbrev pub path : Path → Rows
path = fold-Path Rows Part path_level (λ o. record { place = o.place; rows = o.path })

-- ---- of an expression (19.8, [110] to [121]): `||`, `&&`, `+` with `-`, and `*` are chains

abbrev pub call_level : Call-F Rows Rows Part Part → Rows
call_level (e.Bound variable) = []
call_level (e.If test a b) = test ++ a ++ b
call_level (e.Coalesce arguments) = flat_map (λ rows. rows) arguments
call_level (e.Concat arguments) = flat_map (λ rows. rows) arguments
call_level (e.Unary function a) = a
call_level (e.Binary function a b) = a ++ b

abbrev pub expression_level : Expression-F Rows Rows Part Part → Rows
expression_level (e.Var name) = []
expression_level (e.Iri name) = []
expression_level (e.Literal value) = []
expression_level (e.Call call) = call
expression_level (e.Or operands) = side_by_side operands
expression_level (e.And operands) = side_by_side operands
expression_level (e.Compare comparison a b) = a ++ b
expression_level (e.In a list) = a ++ flat_map (λ rows. rows) list
expression_level (e.NotIn a list) = a ++ flat_map (λ rows. rows) list
expression_level (e.Sum operand addends) = side_by_side (operand ∷ addends)
expression_level (e.Product operands) = side_by_side operands
expression_level (e.Not a) = a
expression_level (e.Signed sign a) = a

abbrev pub expression : Expression → Rows
expression =
    fold-Expression Rows Rows Part Part call_level expression_level (λ addend. addend.operand)
    (λ o. record { place = o.place; rows = o.expression })

-- ---- of triples (19.8, [75] to [87], [98] to [107]): of the paths in their verbs, in brackets too

abbrev pub verb : Verb → Rows
verb (v.Var name) = []
verb (v.Path p) = path p

abbrev pub graph_node_level : GraphNode-F Rows Rows → Rows
graph_node_level (n.Term term) = []
graph_node_level (n.BlankNodePropertyList properties) = flat_map (λ rows. rows) properties

abbrev pub property_level : Property-F Rows Rows → Rows
property_level property = verb property.verb ++ flat_map (λ rows. rows) property.objects

abbrev pub graph_node : GraphNode → Rows
graph_node = fold-GraphNode Rows Rows graph_node_level property_level

abbrev pub property : Property → Rows
property = fold-Property Rows Rows graph_node_level property_level

abbrev pub triples : List TriplesSameSubject → Rows
triples ts = flat_map (λ t. graph_node t.subject ++ flat_map property t.properties) ts

-- ---- of a group (19.8, [53] to [69]): its elements are its blocks of triples and its other
-- patterns, filters too, and UNION is a chain of groups

abbrev pub graph_pattern_level : GraphPattern-F Rows Part Part → Rows
graph_pattern_level (g.Triples ts) = triples ts
graph_pattern_level (g.Union groups) = side_by_side groups
graph_pattern_level (g.Optional group) = group.rows
graph_pattern_level (g.Minus group) = group.rows
graph_pattern_level (g.Graph name group) = group.rows
graph_pattern_level (g.Filter e) = expression e
graph_pattern_level (g.Bind e variable) = expression e
graph_pattern_level (g.Values table) = []

abbrev pub group : Group → Rows
group g = (fold-Group Rows Part Part graph_pattern_level
    (λ element. record { place = element.place; rows = element.pattern })
    (λ inner. record { place = inner.place; rows = side_by_side inner.elements }) g).rows

-- ---- of a query (19.8, [2] to [24]); the braces of CONSTRUCT's short form are no group

abbrev pub select_item : SelectItem → Rows
select_item (item.Var name) = []
select_item (item.As e variable) = expression e

abbrev pub projection : Projection → Rows
projection all.All = []
projection (all.Items items) = flat_map select_item items

abbrev pub modifiers : SolutionModifiers → Rows
modifiers m = flat_map (λ condition. expression condition.key) m.order

abbrev pub query_form : QueryForm → Rows
query_form (form.Select s) = projection s.projection ++ group s.pattern ++ modifiers s.modifiers
query_form (form.Construct c) =
    triples c.template ++ option_map_or group c.pattern [] ++ modifiers c.modifiers
query_form (form.Ask a) = group a.pattern ++ modifiers a.modifiers

unfoldable pub query : Query → Option ℕ
query q = excess (query_form q.form)

-- ---- of an update (19.8, [29] to [52]); of the braces of quads those of DELETE WHERE are a group,
-- whose elements are its blocks of triples and its GRAPH blocks

abbrev pub quads : Quads → Rows
quads (quad.Triples ts) = triples ts
quads (quad.Graph name ts) = triples ts

-- braces of which the elements don't count
abbrev pub braces : QuadPattern → Rows
braces q = flat_map (λ e. quads e.quads) q.elements

-- nothing is within the operations on whole graphs
abbrev pub operation : Operation → Rows
operation (op.InsertData q) = braces q
operation (op.DeleteData q) = braces q
operation (op.DeleteWhere q) = map (λ e. e.place) q.elements ∷ braces q
operation (op.Modify m) =
    option_map_or braces m.delete [] ++ option_map_or braces m.insert [] ++ group m.pattern
operation (op.Clear _ target) = []
operation (op.Drop _ target) = []
operation (op.Create _ graph) = []
operation (op.Add transfer) = []
operation (op.Move transfer) = []
operation (op.Copy transfer) = []

unfoldable pub update : Update → Option ℕ
update u = excess (flat_map (λ s. option_map_or operation s.operation []) u.steps)

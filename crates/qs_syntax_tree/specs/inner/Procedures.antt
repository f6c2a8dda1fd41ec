-- The grammar of `Rules` with a rule for each procedure of the parser, for their contracts. A
-- production of `Rules` is here only where its parts are rules here; the others serve from there.
use Rattle.std.specs.Prelude.{List, [], ◌∷◌, ◌++◌, Option, Some, None, is_some}
use Rattle.qs_syntax_grammar.specs.Rule.{many, placed}
use Rattle.qs_syntax_grammar.specs.Notation.{◌<$>◌, ◌>>◌, ◌<<◌, ◌&◌, ◌<|>◌, or, opt, cons}
use Rattle.qs_syntax_grammar.specs.inner.Repeated.{kept}
use Rattle.qs_syntax_grammar.specs.inner.Repeated.{joined}
use Rattle.qs_syntax_tree.specs.declared.kind.Kind.TheVariants as k
use Rattle.qs_syntax_tree.specs.declared.token.Span.{Span}
use Rattle.qs_syntax_tree.specs.declared.term.Iri.{Iri}
use Rattle.qs_syntax_tree.specs.declared.term.Literal.TheVariants as literal_tree
use Rattle.qs_syntax_tree.specs.declared.term.Term.TheVariants as term_tree
use Rattle.qs_syntax_tree.specs.declared.path.NegatedPredicate.{NegatedPredicate}
use Rattle.qs_syntax_tree.specs.declared.path.Path.{Path}
use Rattle.qs_syntax_tree.specs.declared.path.Path.TheVariants as path_tree
use Rattle.qs_syntax_tree.specs.declared.path.PathOperand.{PathOperand}
use Rattle.qs_syntax_tree.specs.declared.path.Verb.{Verb}
use Rattle.qs_syntax_tree.specs.declared.path.Verb.TheVariants as verb_tree
use Rattle.qs_syntax_tree.specs.declared.triples.GraphNode.{GraphNode}
use Rattle.qs_syntax_tree.specs.declared.triples.GraphNode.TheVariants as node_tree
use Rattle.qs_syntax_tree.specs.declared.triples.Property.{Property}
use Rattle.qs_syntax_tree.specs.declared.triples.TriplesSameSubject.{TriplesSameSubject}
use Rattle.qs_syntax_tree.specs.declared.expression.Sign.TheVariants as sign_tree
use Rattle.qs_syntax_tree.specs.declared.expression.Call.{Call}
use Rattle.qs_syntax_tree.specs.declared.expression.Call.TheVariants as call_tree
use Rattle.qs_syntax_tree.specs.declared.expression.Expression.{Expression}
use Rattle.qs_syntax_tree.specs.declared.expression.Expression.TheVariants as expression_tree
use Rattle.qs_syntax_tree.specs.declared.expression.Relation.{Relation}
use Rattle.qs_syntax_tree.specs.declared.expression.Relation.TheVariants as relation_tree
use Rattle.qs_syntax_tree.specs.declared.expression.Operand.{Operand}
use Rattle.qs_syntax_tree.specs.declared.expression.Addend.{Addend}
use Rattle.qs_syntax_tree.specs.declared.pattern.Group.{Group}
use Rattle.qs_syntax_tree.specs.declared.pattern.Element.{Element}
use Rattle.qs_syntax_tree.specs.declared.pattern.GraphPattern.{GraphPattern}
use Rattle.qs_syntax_tree.specs.declared.pattern.GraphPattern.TheVariants as pattern_tree
use Rattle.qs_syntax_tree.specs.declared.pattern.InlineData.{InlineData}
use Rattle.qs_syntax_tree.specs.declared.pattern.DataValue.{DataValue}
use Rattle.qs_syntax_tree.specs.declared.query.PrefixDeclaration.{PrefixDeclaration}
use Rattle.qs_syntax_tree.specs.declared.query.Query.{Query}
use Rattle.qs_syntax_tree.specs.declared.query.QueryForm.{QueryForm}
use Rattle.qs_syntax_tree.specs.declared.query.QueryForm.TheVariants as form_tree
use Rattle.qs_syntax_tree.specs.declared.query.Select.{Select}
use Rattle.qs_syntax_tree.specs.declared.query.Duplicates.{Duplicates}
use Rattle.qs_syntax_tree.specs.declared.query.Duplicates.TheVariants as duplicates_tree
use Rattle.qs_syntax_tree.specs.declared.query.Projection.{Projection}
use Rattle.qs_syntax_tree.specs.declared.query.Projection.TheVariants as projection_tree
use Rattle.qs_syntax_tree.specs.declared.query.SelectItem.{SelectItem}
use Rattle.qs_syntax_tree.specs.declared.query.SelectItem.TheVariants as item_tree
use Rattle.qs_syntax_tree.specs.declared.query.Construct.{Construct}
use Rattle.qs_syntax_tree.specs.declared.query.Ask.{Ask}
use Rattle.qs_syntax_tree.specs.declared.query.SolutionModifiers.{SolutionModifiers}
use Rattle.qs_syntax_tree.specs.declared.query.OrderCondition.{OrderCondition}
use Rattle.qs_syntax_tree.specs.declared.query.Direction.TheVariants as direction_tree
use Rattle.qs_syntax_tree.specs.declared.update.Update.{Update}
use Rattle.qs_syntax_tree.specs.declared.update.UpdateStep.{UpdateStep}
use Rattle.qs_syntax_tree.specs.declared.update.Operation.{Operation}
use Rattle.qs_syntax_tree.specs.declared.update.Operation.TheVariants as operation_tree
use Rattle.qs_syntax_tree.specs.declared.update.QuadPattern.{QuadPattern}
use Rattle.qs_syntax_tree.specs.declared.update.QuadElement.{QuadElement}
use Rattle.qs_syntax_tree.specs.declared.update.Quads.TheVariants as quads_tree
use Rattle.qs_syntax_tree.specs.declared.triples.Form.{Form}
use Rattle.qs_syntax_tree.specs.declared.triples.Form.TheVariants as form
use Rattle.qs_syntax_tree.specs.Sparql.{Rule}
use Rattle.qs_syntax_tree.specs.Trees.{path_operand, path_chain, repeated}
use Rattle.qs_syntax_tree.specs.Trees.{inverted, property_of, chain, addend_of, sum}
use Rattle.qs_syntax_tree.specs.Trees.{related, element_of, group_of, steps_of}
use Rattle.qs_syntax_tree.specs.inner.Trees.{singles}
use Rattle.qs_syntax_tree.specs.Rules.{◌⇒◌, binary_function, block, braces, comparison, data_value}
use Rattle.qs_syntax_tree.specs.Rules.{expression, group, iri, leaf}
use Rattle.qs_syntax_tree.specs.Rules.{literal, negated_one, object, operand}
use Rattle.qs_syntax_tree.specs.Rules.{operations, parens, parenthesized}
use Rattle.qs_syntax_tree.specs.Rules.{path, predicate, properties, repetition, silent, slice}
use Rattle.qs_syntax_tree.specs.Rules.{target, template_braces, term, the}
use Rattle.qs_syntax_tree.specs.Rules.{transfer, triples, unary_function, var, var_or_iri}
use Rattle.qs_syntax_tree.specs.Rules.{where_clause}

-- ("|" One)*
unfoldable pub more_negated : Rule (List NegatedPredicate)
more_negated = many (the k.Bar >> negated_one)

-- One ("|" One)*
unfoldable pub negated_all : Rule (List NegatedPredicate)
negated_all = cons <$> negated_one & more_negated

-- Neg = One | "(" (One ("|" One)*)? ")"
unfoldable pub negated : Rule (List NegatedPredicate)
negated = (λ x. x ∷ []) <$> negated_one <|> parens (or [] negated_all)

-- Prim = Iri | "a" | "!" Neg | "(" Path ")"
unfoldable pub path_primary : Rule Path
path_primary = path_tree.Predicate <$> predicate <|> path_tree.NegatedSet <$> the k.Bang >> negated
    <|> parens path

-- Elt = "^"? Prim ("?" | "*" | "+")?
unfoldable pub path_element : Rule Path
path_element = (λ x. inverted (is_some x.0.0) (repeated x.0.1 x.1)) <$> opt (the k.Caret)
    & path_primary & opt repetition

-- ("/" Elt)*
unfoldable pub more_elements : Rule (List PathOperand)
more_elements = many (the k.Slash >> (path_operand <$> placed path_element))

-- Seq = Elt ("/" Elt)*
unfoldable pub path_sequence : Rule Path
path_sequence =
    path_chain path_tree.Sequence <$> (path_operand <$> placed path_element) & more_elements

-- ("|" Seq)*
unfoldable pub more_sequences : Rule (List PathOperand)
more_sequences = many (the k.Bar >> (path_operand <$> placed path_sequence))

-- Path = Seq ("|" Seq)*
unfoldable pub path_rule : Rule Path
path_rule = path_chain path_tree.Alternative <$> (path_operand <$> placed path_sequence)
    & more_sequences

-- Verb = VAR | Path, in templates VAR | Iri | "a"
unfoldable pub verb : Form → Rule Verb
verb form.Pattern = verb_tree.Var <$> var <|> verb_tree.Path <$> path_rule
verb form.Template = verb_tree.Var <$> var <|> verb_tree.Path <$> path_tree.Predicate <$> predicate

-- ("," Object)*
unfoldable pub more_objects : Form → Rule (List GraphNode)
more_objects f = many (the k.Comma >> object f)

-- Objects = Object ("," Object)*
unfoldable pub objects : Form → Rule (List GraphNode)
objects f = cons <$> object f & more_objects f

-- Verb Objects
unfoldable pub property : Form → Rule Property
property f = property_of <$> verb f & objects f

-- ";" (Verb Objects)?
unfoldable pub next_property : Form → Rule (Option Property)
next_property f = the k.Semicolon >> opt (property f)

-- (";" (Verb Objects)?)*
unfoldable pub more_properties : Form → Rule (List Property)
more_properties f = kept <$> many (next_property f)

-- Props = Verb Objects (";" (Verb Objects)?)*
unfoldable pub properties_rule : Form → Rule (List Property)
properties_rule f = cons <$> property f & more_properties f

-- "[" "]" Props, from its "]" on
unfoldable pub anonymous_subject : Form → Rule TriplesSameSubject
anonymous_subject f = (λ x. record { subject = node_tree.Term term_tree.Anonymous; properties = x })
    <$> the k.RightBracket >> properties f

-- "[" Props "]" Props?, after its "["
unfoldable pub property_subject : Form → Rule TriplesSameSubject
property_subject f =
    (λ x. record { subject = node_tree.BlankNodePropertyList x.0; properties = x.1 })
    <$> properties f << the k.RightBracket & or [] (properties f)

-- "[" "]" Props | "[" Props "]" Props?, left-factored at "["
unfoldable pub bracketed_subject : Form → Rule TriplesSameSubject
bracketed_subject f = the k.LeftBracket >> (anonymous_subject f <|> property_subject f)

-- Same = Node Props | "[" Props "]" Props?
unfoldable pub same_subject : Form → Rule TriplesSameSubject
same_subject f = (λ x. record { subject = node_tree.Term x.0; properties = x.1 }) <$> term
    & properties f <|> bracketed_subject f

-- Triples = Same ("." Triples?)?
-- Tmpl = Triples with Verb = VAR | Iri | "a"
unfoldable pub triples_rule : Form → Rule (List TriplesSameSubject)
triples_rule f = cons <$> same_subject f & or [] (the k.Dot >> or [] (triples f))

-- "," Expr
unfoldable pub next_argument : Rule Expression
next_argument = the k.Comma >> expression

-- Expr "," Expr
unfoldable pub two_expressions : Rule (Expression × Expression)
two_expressions = expression & next_argument

-- Expr "," Expr "," Expr
unfoldable pub three_expressions : Rule ((Expression × Expression) × Expression)
three_expressions = two_expressions & next_argument

-- "(" VAR ")"
unfoldable pub bound_var : Rule Span
bound_var = parens var

-- "(" Expr "," Expr ")"
unfoldable pub two_arguments : Rule (Expression × Expression)
two_arguments = parens two_expressions

-- "(" Expr "," Expr "," Expr ")"
unfoldable pub three_arguments : Rule ((Expression × Expression) × Expression)
three_arguments = parens three_expressions

-- ("," Expr)*
unfoldable pub more_expressions : Rule (List Expression)
more_expressions = many next_argument

-- List = "(" (Expr ("," Expr)*)? ")"
unfoldable pub list : Rule (List Expression)
list = parens (or [] (cons <$> expression & more_expressions))

-- Call = "BOUND" "(" VAR ")" | "IF" "(" Expr "," Expr "," Expr ")" | ("COALESCE" | "CONCAT") List
--      | ("ISIRI" | ..) "(" Expr ")" | ("SAMETERM" | ..) "(" Expr "," Expr ")"
unfoldable pub call : Rule Call
call = call_tree.Bound <$> the k.Bound >> bound_var
    <|> (λ x. call_tree.If x.0.0 x.0.1 x.1) <$> the k.If >> three_arguments
    <|> call_tree.Coalesce <$> the k.Coalesce >> list
    <|> call_tree.Concat <$> the k.Concat >> list
    <|> (λ x. call_tree.Unary x.0 x.1) <$> unary_function & parenthesized
    <|> (λ x. call_tree.Binary x.0 x.1.0 x.1.1) <$> binary_function & two_arguments

-- Iri | Literal | VAR
unfoldable pub operand_term : Rule Expression
operand_term = expression_tree.Iri <$> iri <|> expression_tree.Literal <$> literal
    <|> expression_tree.Var <$> var

-- Atom = "(" Expr ")" | Call | Iri | Literal | VAR
unfoldable pub atom : Rule Expression
atom = parenthesized <|> expression_tree.Call <$> call <|> operand_term

-- Unary = ("!" | "+" | "-")? Atom
unfoldable pub unary : Rule Expression
unary = expression_tree.Not <$> the k.Bang >> atom
    <|> expression_tree.Signed sign_tree.Plus <$> the k.Plus >> atom
    <|> expression_tree.Signed sign_tree.Minus <$> the k.Hyphen >> atom
    <|> atom

-- ("*" Unary)*
unfoldable pub more_factors : Rule (List Operand)
more_factors = many (the k.Star >> operand unary)

-- Mul = Unary ("*" Unary)*
unfoldable pub product : Rule Expression
product = chain expression_tree.Product <$> operand unary & more_factors

-- SIGNED ("*" Unary)*
unfoldable pub signed_product : Rule Expression
signed_product =
    chain expression_tree.Product <$> operand (expression_tree.Literal <$> literal_tree.Integer
    <$> leaf k.Signed) & more_factors

-- "+" Mul | "-" Mul | SIGNED ("*" Unary)*
unfoldable pub addend : Rule Addend
addend = addend_of sign_tree.Plus <$> the k.Plus >> operand product
    <|> addend_of sign_tree.Minus <$> the k.Hyphen >> operand product
    <|> addend_of sign_tree.Plus <$> operand signed_product

-- ("+" Mul | "-" Mul | SIGNED ("*" Unary)*)*
unfoldable pub addends : Rule (List Addend)
addends = many addend

-- Add = Mul ("+" Mul | "-" Mul | SIGNED ("*" Unary)*)*
unfoldable pub additive : Rule Expression
additive = sum <$> operand product & addends

-- ("=" | "!=" | "<" | ">" | "<=" | ">=") Add | "NOT"? "IN" List, left-factored at "NOT"
unfoldable pub relation : Rule Relation
relation = (λ x. relation_tree.Compared x.0 x.1) <$> comparison & additive
    <|> relation_tree.NotAmong <$> the k.Not >> the k.In >> list
    <|> relation_tree.Among <$> the k.In >> list

-- Rel = Add (("=" | "!=" | "<" | ">" | "<=" | ">=") Add | "NOT"? "IN" List)?
unfoldable pub relational : Rule Expression
relational = (λ x. related x.0 x.1) <$> additive & opt relation

-- ("&&" Rel)*
unfoldable pub more_relationals : Rule (List Operand)
more_relationals = many (the k.AndAnd >> operand relational)

-- And = Rel ("&&" Rel)*
unfoldable pub conjunction : Rule Expression
conjunction = chain expression_tree.And <$> operand relational & more_relationals

-- ("||" And)*
unfoldable pub more_conjunctions : Rule (List Operand)
more_conjunctions = many (the k.OrOr >> operand conjunction)

-- Expr = And ("||" And)*
unfoldable pub expression_rule : Rule Expression
expression_rule = chain expression_tree.Or <$> operand conjunction & more_conjunctions

-- Constraint = "(" Expr ")" | Call
unfoldable pub constraint : Rule Expression
constraint = parenthesized <|> expression_tree.Call <$> call

-- VAR*
unfoldable pub variables : Rule (List Span)
variables = many var

-- Value*
unfoldable pub data_values : Rule (List DataValue)
data_values = many data_value

-- "(" Value* ")"
unfoldable pub data_row : Rule (List DataValue)
data_row = parens data_values

-- ("(" Value* ")")*
unfoldable pub data_rows : Rule (List (List DataValue))
data_rows = many data_row

-- "(" VAR* ")"
unfoldable pub variable_list : Rule (List Span)
variable_list = parens variables

-- "{" Value* "}"
unfoldable pub value_block : Rule (List DataValue)
value_block = braces data_values

-- "{" ("(" Value* ")")* "}"
unfoldable pub row_block : Rule (List (List DataValue))
row_block = braces data_rows

-- VAR "{" Value* "}"
unfoldable pub column : Rule InlineData
column = (λ x. record { variables = x.0 ∷ []; rows = singles x.1 }) <$> var & value_block

-- "(" VAR* ")" "{" ("(" Value* ")")* "}"
unfoldable pub table : Rule InlineData
table = (λ x. record { variables = x.0; rows = x.1 }) <$> variable_list & row_block

-- Values = "VALUES" (VAR "{" Value* "}" | "(" VAR* ")" "{" ("(" Value* ")")* "}")
unfoldable pub values : Rule InlineData
values = the k.Values >> (column <|> table)

-- ("UNION" Group)*
unfoldable pub more_groups : Rule (List Group)
more_groups = many (the k.Union >> group)

-- Group ("UNION" Group)*
unfoldable pub groups : Rule (List Group)
groups = cons <$> group & more_groups

-- Expr "AS" VAR
unfoldable pub expression_as_var : Rule (Expression × Span)
expression_as_var = expression << the k.As & var

-- "(" Expr "AS" VAR ")"
unfoldable pub named_expression : Rule (Expression × Span)
named_expression = parens expression_as_var

-- Element = Group ("UNION" Group)* | "OPTIONAL" Group | "MINUS" Group
--         | "GRAPH" (VAR | Iri) Group | "FILTER" Constraint
--         | "BIND" "(" Expr "AS" VAR ")" | Values
unfoldable pub element : Rule GraphPattern
element = pattern_tree.Union <$> groups
    <|> pattern_tree.Optional <$> the k.Optional >> group
    <|> pattern_tree.Minus <$> the k.Minus >> group
    <|> (λ x. pattern_tree.Graph x.0 x.1) <$> the k.Graph >> var_or_iri & group
    <|> pattern_tree.Filter <$> the k.Filter >> constraint
    <|> (λ x. pattern_tree.Bind x.0 x.1) <$> the k.Bind >> named_expression
    <|> pattern_tree.Values <$> values

-- Element "."?
unfoldable pub dotted_element : Rule Element
dotted_element = element_of <$> placed element << opt (the k.Dot)

-- Element "."? Triples?
unfoldable pub group_step : Rule (List Element)
group_step = cons <$> dotted_element & block

-- (Element "."? Triples?)*
unfoldable pub group_steps : Rule (List Element)
group_steps = joined <$> many group_step

-- Triples? (Element "."? Triples?)*
unfoldable pub elements : Rule (List Element)
elements = (λ x. x.0 ++ x.1) <$> block & group_steps

-- Group = "{" Triples? (Element "."? Triples?)* "}"
unfoldable pub group_rule : Rule Group
group_rule = group_of <$> placed (braces elements)

-- "PREFIX" PNAME_NS IRIREF
unfoldable pub prefix_declaration : Rule PrefixDeclaration
prefix_declaration =
    (λ x. record { prefix = x.0; iri = x.1 }) <$> the k.Prefix >> leaf k.PnameNs & leaf k.IriRef

-- Prologue = ("PREFIX" PNAME_NS IRIREF)*
unfoldable pub prologue : Rule (List PrefixDeclaration)
prologue = many prefix_declaration

-- Order = ("ASC" | "DESC") "(" Expr ")" | Constraint | VAR
unfoldable pub order : Rule OrderCondition
order = (λ x. record { direction = direction_tree.Ascending; key = x })
    <$> the k.Asc >> parenthesized
    <|> (λ x. record { direction = direction_tree.Descending; key = x })
    <$> the k.Desc >> parenthesized
    <|> (λ x. record { direction = direction_tree.Ascending; key = x })
    <$> (constraint <|> expression_tree.Var <$> var)

-- Order*
unfoldable pub orders : Rule (List OrderCondition)
orders = many order

-- Order+
unfoldable pub order_list : Rule (List OrderCondition)
order_list = cons <$> order & orders

-- ("ORDER" "BY" Order+)?
unfoldable pub order_clause : Rule (List OrderCondition)
order_clause = or [] (the k.Order >> the k.By >> order_list)

-- Mods = ("ORDER" "BY" Order+)? (Limit Offset? | Offset Limit?)?
unfoldable pub modifiers : Rule SolutionModifiers
modifiers = (λ x. record { order = x.0; limit = x.1.0; offset = x.1.1 }) <$> order_clause & slice

-- Item = VAR | "(" Expr "AS" VAR ")"
unfoldable pub item : Rule SelectItem
item = item_tree.Var <$> var <|> (λ x. item_tree.As x.0 x.1) <$> named_expression

-- Item*
unfoldable pub items : Rule (List SelectItem)
items = many item

-- ("DISTINCT" | "REDUCED")?
unfoldable pub duplicates : Rule Duplicates
duplicates =
    or duplicates_tree.Kept (k.Distinct ⇒ duplicates_tree.Distinct
    <|> k.Reduced ⇒ duplicates_tree.Reduced)

-- Item+ | "*"
unfoldable pub projection : Rule Projection
projection = projection_tree.Items <$> (cons <$> item & items) <|> k.Star ⇒ projection_tree.All

-- "SELECT" ("DISTINCT" | "REDUCED")? (Item+ | "*")
unfoldable pub select_clause : Rule (Duplicates × Projection)
select_clause = the k.Select >> duplicates & projection

-- Where Mods
unfoldable pub where_modifiers : Rule (Group × SolutionModifiers)
where_modifiers = where_clause & modifiers

-- Select = "SELECT" ("DISTINCT" | "REDUCED")? (Item+ | "*") Where Mods
unfoldable pub select : Rule Select
select =
    (λ x. record { duplicates = x.0.0; projection = x.0.1; pattern = x.1.0; modifiers = x.1.1 })
    <$> select_clause & where_modifiers

-- "{" Tmpl? "}" Where Mods
unfoldable pub long_construct : Rule Construct
long_construct = (λ x. record { template = x.0; pattern = Some x.1.0; modifiers = x.1.1 })
    <$> template_braces & where_modifiers

-- "WHERE" "{" Tmpl? "}" Mods
unfoldable pub short_construct : Rule Construct
short_construct = (λ x. record { template = x.0; pattern = None; modifiers = x.1 })
    <$> the k.Where >> template_braces & modifiers

-- Construct = "CONSTRUCT" ("{" Tmpl? "}" Where Mods | "WHERE" "{" Tmpl? "}" Mods)
unfoldable pub construct : Rule Construct
construct = the k.Construct >> (long_construct <|> short_construct)

-- Ask = "ASK" Where Mods
unfoldable pub ask : Rule Ask
ask = (λ x. record { pattern = x.0; modifiers = x.1 }) <$> the k.Ask >> where_modifiers

-- Select | Construct | Ask
unfoldable pub query_form : Rule QueryForm
query_form =
    form_tree.Select <$> select <|> form_tree.Construct <$> construct <|> form_tree.Ask <$> ask

-- Query = Prologue (Select | Construct | Ask) Values?
unfoldable pub query : Rule Query
query = (λ x. record { prologue = x.0.0; form = x.0.1; values = x.1 })
    <$> prologue & query_form & opt values

-- Tmpl?
unfoldable pub quads_block : Rule (List QuadElement)
quads_block =
    or [] ((λ x. record { place = x.0; quads = x.1 } ∷ []) <$> placed
    (quads_tree.Triples <$> triples form.Template))

-- "GRAPH" (VAR | Iri) "{" Tmpl? "}"
unfoldable pub quads_graph : Rule QuadElement
quads_graph =
    (λ x. record { place = x.0; quads = x.1 }) <$> placed
    ((λ x. quads_tree.Graph x.0 x.1) <$> the k.Graph >> var_or_iri & template_braces)

-- "GRAPH" (VAR | Iri) "{" Tmpl? "}" "."?
unfoldable pub dotted_graph : Rule QuadElement
dotted_graph = quads_graph << opt (the k.Dot)

-- "GRAPH" (VAR | Iri) "{" Tmpl? "}" "."? Tmpl?
unfoldable pub quads_step : Rule (List QuadElement)
quads_step = cons <$> dotted_graph & quads_block

-- ("GRAPH" (VAR | Iri) "{" Tmpl? "}" "."? Tmpl?)*
unfoldable pub quads_steps : Rule (List QuadElement)
quads_steps = joined <$> many quads_step

-- Tmpl? ("GRAPH" (VAR | Iri) "{" Tmpl? "}" "."? Tmpl?)*
unfoldable pub quads_elements : Rule (List QuadElement)
quads_elements = (λ x. x.0 ++ x.1) <$> quads_block & quads_steps

-- Quads = "{" Tmpl? ("GRAPH" (VAR | Iri) "{" Tmpl? "}" "."? Tmpl?)* "}"
unfoldable pub quads : Rule QuadPattern
quads = (λ x. record { elements = x }) <$> braces quads_elements

-- "WHERE" Group
unfoldable pub where_group : Rule Group
where_group = the k.Where >> group

-- ("INSERT" Quads)?
unfoldable pub insert_clause : Rule (Option QuadPattern)
insert_clause = opt (the k.Insert >> quads)

-- "INSERT" "DATA" Quads | "INSERT" Quads "WHERE" Group
unfoldable pub insert : Rule Operation
insert = the k.Insert
    >> (operation_tree.InsertData <$> the k.Data >> quads
    <|> (λ x. operation_tree.Modify
    (record { with = None; delete = None; insert = Some x.0; pattern = x.1 })) <$> quads
    & where_group)

-- "DELETE" "DATA" Quads | "DELETE" "WHERE" Quads | "DELETE" Quads ("INSERT" Quads)? "WHERE" Group
unfoldable pub delete : Rule Operation
delete = the k.Delete
    >> (operation_tree.DeleteData <$> the k.Data >> quads
    <|> operation_tree.DeleteWhere <$> the k.Where >> quads
    <|> (λ x. operation_tree.Modify
    (record { with = None; delete = Some x.0.0; insert = x.0.1; pattern = x.1 })) <$> quads
    & insert_clause & where_group)

-- "DELETE" Quads ("INSERT" Quads)? | "INSERT" Quads
unfoldable pub changes : Rule (Option QuadPattern × Option QuadPattern)
changes = (λ x. (Some x.0, x.1)) <$> the k.Delete >> quads & insert_clause <|> (λ x. (None, Some x))
    <$> the k.Insert >> quads

-- "WITH" Iri
unfoldable pub with_clause : Rule Iri
with_clause = the k.With >> iri

-- "WITH" Iri ("DELETE" Quads ("INSERT" Quads)? | "INSERT" Quads) "WHERE" Group
unfoldable pub with_graph : Rule Operation
with_graph =
    (λ x. operation_tree.Modify
    (record { with = Some x.0.0; delete = x.0.1.0; insert = x.0.1.1; pattern = x.1 }))
    <$> with_clause & changes & where_group

-- "CLEAR" "SILENT"? ("GRAPH" Iri | "DEFAULT" | "NAMED" | "ALL")
unfoldable pub clear : Rule Operation
clear = (λ x. operation_tree.Clear x.0 x.1) <$> the k.Clear >> silent & target

-- "DROP" "SILENT"? ("GRAPH" Iri | "DEFAULT" | "NAMED" | "ALL")
unfoldable pub drop_graph : Rule Operation
drop_graph = (λ x. operation_tree.Drop x.0 x.1) <$> the k.Drop >> silent & target

-- "CREATE" "SILENT"? "GRAPH" Iri
unfoldable pub create : Rule Operation
create = (λ x. operation_tree.Create x.0 x.1) <$> the k.Create >> silent << the k.Graph & iri

-- ("ADD" | "MOVE" | "COPY") "SILENT"? End "TO" End
unfoldable pub from_graph_to_graph : Rule Operation
from_graph_to_graph = operation_tree.Add <$> the k.Add >> transfer
    <|> operation_tree.Move <$> the k.Move >> transfer
    <|> operation_tree.Copy <$> the k.Copy >> transfer

-- what concerns whole graphs
unfoldable pub graph_operation : Rule Operation
graph_operation = clear <|> drop_graph <|> create <|> from_graph_to_graph

-- Op = "INSERT" "DATA" Quads | "DELETE" "DATA" Quads | "DELETE" "WHERE" Quads
--    | ("WITH" Iri)? ("DELETE" Quads ("INSERT" Quads)? | "INSERT" Quads) "WHERE" Group
--    | ("CLEAR" | "DROP") "SILENT"? ("GRAPH" Iri | "DEFAULT" | "NAMED" | "ALL")
--    | "CREATE" "SILENT"? "GRAPH" Iri
--    | ("ADD" | "MOVE" | "COPY") "SILENT"? End "TO" End, left-factored at "INSERT" and "DELETE"
unfoldable pub operation : Rule Operation
operation = insert <|> delete <|> with_graph <|> graph_operation

-- Op (";" Update)?
unfoldable pub operations_rule : Rule (Operation × List UpdateStep)
operations_rule = operation & or [] (the k.Semicolon >> (steps_of <$> prologue & opt operations))

-- Update = Prologue (Op (";" Update)?)?
unfoldable pub update : Rule Update
update = (λ x. record { steps = steps_of x }) <$> prologue & opt operations_rule

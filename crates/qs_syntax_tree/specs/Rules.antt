-- The grammar of the profile, line by line (SPARQL 1.1 Query, 19.8, without what is left out). A
-- text begins at `query` or `update`. A definition can't name one below it, so the standard's
-- productions are an index at the head, with their numbers. Rules are left-factored at `[` in
-- subjects and objects, at INSERT and DELETE, and at NOT; they spell the same texts.
use Rattle.std.specs.Prelude.{true, false, List, [], ◌∷◌, ◌++◌, Option, Some, None, map, is_some}
use Rattle.std.specs.List.{filter_map, flat_map}
use Rattle.qs_syntax_grammar.specs.Rule.{token, many, made, placed, ref}
use Rattle.qs_syntax_tree.specs.declared.kind.Kind.{Kind}
use Rattle.qs_syntax_tree.specs.declared.kind.Kind.TheVariants as k
use Rattle.qs_syntax_tree.specs.declared.token.Token.{Token}
use Rattle.qs_syntax_tree.specs.declared.token.Span.{Span}
use Rattle.qs_syntax_tree.specs.declared.term.Iri.{Iri}
use Rattle.qs_syntax_tree.specs.declared.term.Iri.TheVariants as iri_tree
use Rattle.qs_syntax_tree.specs.declared.term.VarOrIri.{VarOrIri}
use Rattle.qs_syntax_tree.specs.declared.term.VarOrIri.TheVariants as var_or_iri_tree
use Rattle.qs_syntax_tree.specs.declared.term.Annotation.{Annotation}
use Rattle.qs_syntax_tree.specs.declared.term.Annotation.TheVariants as annotation_tree
use Rattle.qs_syntax_tree.specs.declared.term.Literal.{Literal}
use Rattle.qs_syntax_tree.specs.declared.term.Literal.TheVariants as literal_tree
use Rattle.qs_syntax_tree.specs.declared.term.Term.{Term}
use Rattle.qs_syntax_tree.specs.declared.term.Term.TheVariants as term_tree
use Rattle.qs_syntax_tree.specs.declared.path.Predicate.{Predicate}
use Rattle.qs_syntax_tree.specs.declared.path.Predicate.TheVariants as predicate_tree
use Rattle.qs_syntax_tree.specs.declared.path.NegatedPredicate.{NegatedPredicate}
use Rattle.qs_syntax_tree.specs.declared.path.Repetition.{Repetition}
use Rattle.qs_syntax_tree.specs.declared.path.Repetition.TheVariants as repetition_tree
use Rattle.qs_syntax_tree.specs.declared.path.Path.{Path}
use Rattle.qs_syntax_tree.specs.declared.path.Path.TheVariants as path_tree
use Rattle.qs_syntax_tree.specs.declared.path.Verb.{Verb}
use Rattle.qs_syntax_tree.specs.declared.path.Verb.TheVariants as verb_tree
use Rattle.qs_syntax_tree.specs.declared.triples.GraphNode.{GraphNode}
use Rattle.qs_syntax_tree.specs.declared.triples.GraphNode.TheVariants as node_tree
use Rattle.qs_syntax_tree.specs.declared.triples.Property.{Property}
use Rattle.qs_syntax_tree.specs.declared.triples.TriplesSameSubject.{TriplesSameSubject}
use Rattle.qs_syntax_tree.specs.declared.expression.Comparison.{Comparison}
use Rattle.qs_syntax_tree.specs.declared.expression.Comparison.TheVariants as comparison_tree
use Rattle.qs_syntax_tree.specs.declared.expression.Sign.TheVariants as sign_tree
use Rattle.qs_syntax_tree.specs.declared.expression.UnaryFunction.{UnaryFunction}
use Rattle.qs_syntax_tree.specs.declared.expression.UnaryFunction.TheVariants as unary_tree
use Rattle.qs_syntax_tree.specs.declared.expression.BinaryFunction.{BinaryFunction}
use Rattle.qs_syntax_tree.specs.declared.expression.BinaryFunction.TheVariants as binary_tree
use Rattle.qs_syntax_tree.specs.declared.expression.Call.{Call}
use Rattle.qs_syntax_tree.specs.declared.expression.Call.TheVariants as call_tree
use Rattle.qs_syntax_tree.specs.declared.expression.Expression.{Expression}
use Rattle.qs_syntax_tree.specs.declared.expression.Expression.TheVariants as expression_tree
use Rattle.qs_syntax_tree.specs.declared.expression.Relation.TheVariants as relation_tree
use Rattle.qs_syntax_tree.specs.declared.expression.Operand.{Operand}
use Rattle.qs_syntax_tree.specs.declared.pattern.Group.{Group}
use Rattle.qs_syntax_tree.specs.declared.pattern.Element.{Element}
use Rattle.qs_syntax_tree.specs.declared.pattern.GraphPattern.{GraphPattern}
use Rattle.qs_syntax_tree.specs.declared.pattern.GraphPattern.TheVariants as pattern_tree
use Rattle.qs_syntax_tree.specs.declared.pattern.InlineData.{InlineData}
use Rattle.qs_syntax_tree.specs.declared.pattern.DataValue.{DataValue}
use Rattle.qs_syntax_tree.specs.declared.pattern.DataValue.TheVariants as datum
use Rattle.qs_syntax_tree.specs.declared.query.PrefixDeclaration.{PrefixDeclaration}
use Rattle.qs_syntax_tree.specs.declared.query.Query.{Query}
use Rattle.qs_syntax_tree.specs.declared.query.QueryForm.TheVariants as form_tree
use Rattle.qs_syntax_tree.specs.declared.query.Select.{Select}
use Rattle.qs_syntax_tree.specs.declared.query.Duplicates.TheVariants as duplicates_tree
use Rattle.qs_syntax_tree.specs.declared.query.Projection.TheVariants as projection_tree
use Rattle.qs_syntax_tree.specs.declared.query.SelectItem.{SelectItem}
use Rattle.qs_syntax_tree.specs.declared.query.SelectItem.TheVariants as item_tree
use Rattle.qs_syntax_tree.specs.declared.query.Construct.{Construct}
use Rattle.qs_syntax_tree.specs.declared.query.Ask.{Ask}
use Rattle.qs_syntax_tree.specs.declared.query.SolutionModifiers.{SolutionModifiers}
use Rattle.qs_syntax_tree.specs.declared.query.OrderCondition.{OrderCondition}
use Rattle.qs_syntax_tree.specs.declared.query.Direction.TheVariants as direction_tree
use Rattle.qs_syntax_tree.specs.declared.update.Update.{Update}
use Rattle.qs_syntax_tree.specs.declared.update.UpdateStep.{UpdateStep}
use Rattle.qs_syntax_tree.specs.declared.update.Operation.{Operation}
use Rattle.qs_syntax_tree.specs.declared.update.Operation.TheVariants as operation_tree
use Rattle.qs_syntax_tree.specs.declared.update.OnMissing.{OnMissing}
use Rattle.qs_syntax_tree.specs.declared.update.OnMissing.TheVariants as missing_tree
use Rattle.qs_syntax_tree.specs.declared.update.GraphTarget.{GraphTarget}
use Rattle.qs_syntax_tree.specs.declared.update.GraphTarget.TheVariants as target_tree
use Rattle.qs_syntax_tree.specs.declared.update.GraphOrDefault.{GraphOrDefault}
use Rattle.qs_syntax_tree.specs.declared.update.GraphOrDefault.TheVariants as end_tree
use Rattle.qs_syntax_tree.specs.declared.update.Transfer.{Transfer}
use Rattle.qs_syntax_tree.specs.declared.update.QuadPattern.{QuadPattern}
use Rattle.qs_syntax_tree.specs.declared.update.QuadElement.{QuadElement}
use Rattle.qs_syntax_tree.specs.declared.update.Quads.TheVariants as quads_tree
use Rattle.qs_syntax_tree.specs.declared.triples.Form.{Form}
use Rattle.qs_syntax_tree.specs.declared.triples.Form.TheVariants as form
use Rattle.qs_syntax_tree.specs.Sparql.{Rule}
use Rattle.qs_syntax_tree.specs.Sparql as name
use Rattle.qs_syntax_grammar.specs.Notation.{◌<$>◌, ◌>>◌, ◌<<◌, ◌&◌, ◌<|>◌, or, opt, cons}
use Rattle.qs_syntax_tree.specs.Trees.{path_operand, path_chain, repeated}
use Rattle.qs_syntax_tree.specs.Trees.{inverted, property_of, subject_of, operand_of, chain}
use Rattle.qs_syntax_tree.specs.Trees.{addend_of, sum, related, element_of, group_of, order_by}
use Rattle.qs_syntax_tree.specs.Trees.{quads_of, modify, steps_of}

-- ==== the standard's productions (SPARQL 1.1 Query, 19.8): number, definition, what it spells

-- [2, 28] query: Query = Prologue (Select | Construct | Ask) Values?
-- [4, 6] prologue: Prologue = ("PREFIX" PNAME_NS IRIREF)*
-- [7, 9] select: Select = "SELECT" ("DISTINCT" | "REDUCED")? (Item+ | "*") Where Mods
-- [9] item: Item = VAR | "(" Expr "AS" VAR ")"
-- [10] construct: Construct = "CONSTRUCT" ("{" Tmpl? "}" Where Mods | "WHERE" "{" Tmpl? "}" Mods)
-- [12] ask: Ask = "ASK" Where Mods
-- [17] where_clause: Where = "WHERE"? Group
-- [18] modifiers: Mods = ("ORDER" "BY" Order+)? Slice
-- [24] order: Order = ("ASC" | "DESC") "(" Expr ")" | Constraint | VAR
-- [25] slice: Slice = (Limit Offset? | Offset Limit?)?
-- [26] limit: Limit = "LIMIT" INTEGER
-- [27] offset: Offset = "OFFSET" INTEGER
-- [29] update: Update = Prologue (Op (";" Update)?)?
-- [30, 32-43, 47] operation: Op = "INSERT" "DATA" Quads | "DELETE" "DATA" Quads | "DELETE" "WHERE"
--     Quads
--     | ("WITH" Iri)? ("DELETE" Quads ("INSERT" Quads)? | "INSERT" Quads) "WHERE" Group
--     | ("CLEAR" | "DROP") "SILENT"? ("GRAPH" Iri | "DEFAULT" | "NAMED" | "ALL")
--     | "CREATE" "SILENT"? "GRAPH" Iri
--     | ("ADD" | "MOVE" | "COPY") "SILENT"? End "TO" End, left-factored at "INSERT" and "DELETE"
-- [45, 46] graph_or_default: End = "DEFAULT" | "GRAPH"? Iri
-- [48-52] quads: Quads = "{" Tmpl? ("GRAPH" (VAR | Iri) "{" Tmpl? "}" "."? Tmpl?)* "}"
-- [53, 54] group_rule: Group = "{" Triples? (Element "."? Triples?)* "}"
-- [56-58, 60, 66-68] element: Element = Group ("UNION" Group)* | "OPTIONAL" Group | "MINUS" Group
--     | "GRAPH" (VAR | Iri) Group | "FILTER" Constraint
--     | "BIND" "(" Expr "AS" VAR ")" | Values
-- [61-64] values: Values = "VALUES" (VAR "{" Value* "}" | "(" VAR* ")" "{" ("(" Value* ")")* "}")
-- [65] data_value: Value = Iri | Literal | "UNDEF"
-- [69] constraint: Constraint = "(" Expr ")" | Call
-- [72] list: List = "(" (Expr ("," Expr)*)? ")"
-- [52, 55, 74] triples_rule: Triples = Same ("." Triples?)?
--     Tmpl = Triples with Verb = VAR | Iri | "a"
-- [75, 81, 99, 101] same_subject: Same = Node Props | "[" Props "]" Props?
-- [77, 83] properties_rule: Props = Verb Objects (";" (Verb Objects)?)*
-- [78, 84, 85] verb: Verb = VAR | Path, in templates VAR | Iri | "a"
-- [79, 86] objects: Objects = Object ("," Object)*
-- [80, 87, 104, 105] object: Object = Node | "[" Props "]", left-factored at "["
-- [88, 89] path_rule: Path = Seq ("|" Seq)*
-- [90] path_sequence: Seq = Elt ("/" Elt)*
-- [91-93] path_element: Elt = "^"? Prim ("?" | "*" | "+")?
-- [94] path_primary: Prim = Iri | "a" | "!" Neg | "(" Path ")"
-- [95] negated: Neg = One | "(" (One ("|" One)*)? ")"
-- [96] negated_one: One = "^"? (Iri | "a")
-- [110, 111] expression_rule: Expr = And ("||" And)*
-- [112] conjunction: And = Rel ("&&" Rel)*
-- [113, 114] relational: Rel = Add (("=" | "!=" | "<" | ">" | "<=" | ">=") Add | "NOT"? "IN" List)?
-- [115, 116] additive: Add = Mul ("+" Mul | "-" Mul | SIGNED ("*" Unary)*)*
-- [117] product: Mul = Unary ("*" Unary)*
-- [118] unary: Unary = ("!" | "+" | "-")? Atom
-- [119, 120] atom: Atom = "(" Expr ")" | Call | Iri | Literal | VAR
-- [121] call: Call = "BOUND" "(" VAR ")" | "IF" "(" Expr "," Expr "," Expr ")" | ("COALESCE" |
--     "CONCAT") List
--     | ("ISIRI" | ..) "(" Expr ")" | ("SAMETERM" | ..) "(" Expr "," Expr ")"
-- [106, 109, 138] term: Node = VAR | Iri | Literal | BLANK | "[" "]", here without the last
-- [129-135] literal: Literal = STRING (LANGTAG | "^^" Iri)? | INTEGER | SIGNED | "true" | "false"
-- [136, 137] iri: Iri = IRIREF | PNAME_LN | PNAME_NS

-- ==== the productions, in the order in which one needs another

-- ---- tokens

-- one token of the kind
abbrev pub the : Kind → Rule Token
the k = token k

-- the same, of which only the place counts
abbrev pub leaf : Kind → Rule Span
leaf k = made (λ t. t.span) (token k)

-- the same, where it means this
infixl 13 ◌⇒◌
abbrev pub ◌⇒◌ : {A : Type 0} → Kind → A → Rule A
k ⇒ x = made (λ _. x) (the k)

abbrev pub braces : {A : Type 0} → Rule A → Rule A
braces p = the k.LeftBrace >> (p << the k.RightBrace)

abbrev pub parens : {A : Type 0} → Rule A → Rule A
parens p = the k.LeftParen >> (p << the k.RightParen)

abbrev pub var : Rule Span
var = leaf k.Var

-- ---- repetitions

-- p+
abbrev pub plus : {A : Type 0} → Rule A → Rule (List A)
plus p = cons <$> p & many p

-- p (k p)*
abbrev pub separated : {A : Type 0} → Kind → Rule A → Rule (A × List A)
separated k p = p & many (the k >> p)

-- b (p b)*
abbrev pub between : {A : Type 0} → Rule (List A) → Rule A → Rule (List A)
between b p = (λ x. x.0 ++ x.1) <$> b & (flat_map (λ y. y) <$> many (cons <$> p & b))

-- ---- the rules that can hold themselves

abbrev pub group : Rule Group
group = ref name.group

abbrev pub triples : Form → Rule (List TriplesSameSubject)
triples f = ref (name.triples f)

abbrev pub properties : Form → Rule (List Property)
properties f = ref (name.properties f)

abbrev pub path : Rule Path
path = ref name.path

abbrev pub expression : Rule Expression
expression = ref name.expression

abbrev pub operations : Rule (Operation × List UpdateStep)
operations = ref name.operations

-- ---- terms

-- Iri = IRIREF | PNAME_LN | PNAME_NS
unfoldable pub iri : Rule Iri
iri = iri_tree.Full <$> leaf k.IriRef <|> iri_tree.Prefixed <$> (leaf k.PnameLn <|> leaf k.PnameNs)

-- VAR | Iri
unfoldable pub var_or_iri : Rule VarOrIri
var_or_iri = var_or_iri_tree.Var <$> var <|> var_or_iri_tree.Iri <$> iri

-- (LANGTAG | "^^" Iri)?
unfoldable pub annotation : Rule (Option Annotation)
annotation = opt (annotation_tree.Tag <$> leaf k.LangTag
    <|> annotation_tree.Datatype <$> the k.CaretCaret >> iri)

-- Literal = STRING (LANGTAG | "^^" Iri)? | INTEGER | SIGNED | "true" | "false"
unfoldable pub literal : Rule Literal
literal = (λ x. literal_tree.String x.0 x.1) <$> leaf k.String & annotation
    <|> literal_tree.Integer <$> (leaf k.Integer <|> leaf k.Signed)
    <|> k.True ⇒ literal_tree.Boolean true <|> k.False ⇒ literal_tree.Boolean false

-- Node = VAR | Iri | Literal | BLANK | "[" "]", here without the last
unfoldable pub term : Rule Term
term = term_tree.Var <$> var <|> term_tree.Iri <$> iri <|> term_tree.Literal <$> literal
    <|> term_tree.Blank <$> leaf k.BlankLabel

-- ---- paths

-- Iri | "a"
unfoldable pub predicate : Rule Predicate
predicate = predicate_tree.Iri <$> iri <|> k.A ⇒ predicate_tree.RdfType

-- One = "^"? (Iri | "a")
unfoldable pub negated_one : Rule NegatedPredicate
negated_one = (λ x. record { place = x.0; inverse = is_some x.1.0; predicate = x.1.1 }) <$> placed
    (opt (the k.Caret) & predicate)

-- Neg = One | "(" (One ("|" One)*)? ")"
unfoldable pub negated : Rule (List NegatedPredicate)
negated = (λ x. x ∷ []) <$> negated_one <|> parens (or [] (cons <$> separated k.Bar negated_one))

-- Prim = Iri | "a" | "!" Neg | "(" Path ")"
unfoldable pub path_primary : Rule Path
path_primary = path_tree.Predicate <$> predicate <|> path_tree.NegatedSet <$> the k.Bang >> negated
    <|> parens path

-- "?" | "*" | "+"
unfoldable pub repetition : Rule Repetition
repetition = k.Question ⇒ repetition_tree.ZeroOrOne <|> k.Star ⇒ repetition_tree.ZeroOrMore
    <|> k.Plus ⇒ repetition_tree.OneOrMore

-- Elt = "^"? Prim ("?" | "*" | "+")?
unfoldable pub path_element : Rule Path
path_element = (λ x. inverted (is_some x.0.0) (repeated x.0.1 x.1)) <$> opt (the k.Caret)
    & path_primary & opt repetition

-- Seq = Elt ("/" Elt)*
unfoldable pub path_sequence : Rule Path
path_sequence =
    path_chain path_tree.Sequence <$> separated k.Slash (path_operand <$> placed path_element)

-- Path = Seq ("|" Seq)*
unfoldable pub path_rule : Rule Path
path_rule =
    path_chain path_tree.Alternative <$> separated k.Bar (path_operand <$> placed path_sequence)

-- ---- triples

-- Verb = VAR | Path, in templates VAR | Iri | "a"
unfoldable pub verb : Form → Rule Verb
verb form.Pattern = verb_tree.Var <$> var <|> verb_tree.Path <$> path_rule
verb form.Template = verb_tree.Var <$> var <|> verb_tree.Path <$> path_tree.Predicate <$> predicate

-- Object = Node | "[" Props "]", left-factored at "["
unfoldable pub object : Form → Rule GraphNode
object f = node_tree.Term <$> term
    <|> the k.LeftBracket >> (k.RightBracket ⇒ node_tree.Term term_tree.Anonymous
    <|> node_tree.BlankNodePropertyList <$> properties f << the k.RightBracket)

-- Objects = Object ("," Object)*
unfoldable pub objects : Form → Rule (List GraphNode)
objects f = cons <$> separated k.Comma (object f)

-- Verb Objects
unfoldable pub property : Form → Rule Property
property f = property_of <$> verb f & objects f

-- Props = Verb Objects (";" (Verb Objects)?)*
unfoldable pub properties_rule : Form → Rule (List Property)
properties_rule f =
    cons <$> property f & (filter_map (λ x. x) <$> many (the k.Semicolon >> opt (property f)))

-- Same = Node Props | "[" Props "]" Props?, left-factored at "["
unfoldable pub same_subject : Form → Rule TriplesSameSubject
same_subject f = (λ x. subject_of (node_tree.Term x.0) x.1) <$> term & properties f
    <|> the k.LeftBracket
    >> (subject_of (node_tree.Term term_tree.Anonymous) <$> the k.RightBracket >> properties f
    <|> (λ x. subject_of (node_tree.BlankNodePropertyList x.0) x.1)
    <$> properties f << the k.RightBracket & or [] (properties f))

-- Triples = Same ("." Triples?)?
-- Tmpl = Triples with Verb = VAR | Iri | "a"
unfoldable pub triples_rule : Form → Rule (List TriplesSameSubject)
triples_rule f = cons <$> same_subject f & or [] (the k.Dot >> or [] (triples f))

-- ---- expressions

-- "(" Expr ")"
unfoldable pub parenthesized : Rule Expression
parenthesized = parens expression

-- List = "(" (Expr ("," Expr)*)? ")"
unfoldable pub list : Rule (List Expression)
list = parens (or [] (cons <$> separated k.Comma expression))

unfoldable pub unary_function : Rule UnaryFunction
unary_function = k.IsIri ⇒ unary_tree.IsIri <|> k.IsUri ⇒ unary_tree.IsIri
    <|> k.IsBlank ⇒ unary_tree.IsBlank <|> k.IsLiteral ⇒ unary_tree.IsLiteral
    <|> k.IsNumeric ⇒ unary_tree.IsNumeric <|> k.Str ⇒ unary_tree.Str <|> k.Lang ⇒ unary_tree.Lang
    <|> k.Datatype ⇒ unary_tree.Datatype <|> k.StrLen ⇒ unary_tree.StrLen

unfoldable pub binary_function : Rule BinaryFunction
binary_function = k.SameTerm ⇒ binary_tree.SameTerm <|> k.LangMatches ⇒ binary_tree.LangMatches
    <|> k.Contains ⇒ binary_tree.Contains <|> k.StrStarts ⇒ binary_tree.StrStarts
    <|> k.StrEnds ⇒ binary_tree.StrEnds

-- Call = "BOUND" "(" VAR ")" | "IF" "(" Expr "," Expr "," Expr ")" | ("COALESCE" | "CONCAT") List
--      | ("ISIRI" | ..) "(" Expr ")" | ("SAMETERM" | ..) "(" Expr "," Expr ")"
unfoldable pub call : Rule Call
call = call_tree.Bound <$> the k.Bound >> parens var
    <|> (λ x. call_tree.If x.0.0 x.0.1 x.1)
    <$> the k.If >> parens (expression & (the k.Comma >> expression) & (the k.Comma >> expression))
    <|> call_tree.Coalesce <$> the k.Coalesce >> list
    <|> call_tree.Concat <$> the k.Concat >> list
    <|> (λ x. call_tree.Unary x.0 x.1) <$> unary_function & parenthesized
    <|> (λ x. call_tree.Binary x.0 x.1.0 x.1.1)
    <$> binary_function & parens (expression & (the k.Comma >> expression))

-- Atom = "(" Expr ")" | Call | Iri | Literal | VAR
unfoldable pub atom : Rule Expression
atom = parenthesized <|> expression_tree.Call <$> call <|> expression_tree.Iri <$> iri
    <|> expression_tree.Literal <$> literal <|> expression_tree.Var <$> var

-- Unary = ("!" | "+" | "-")? Atom
unfoldable pub unary : Rule Expression
unary = expression_tree.Not <$> the k.Bang >> atom
    <|> expression_tree.Signed sign_tree.Plus <$> the k.Plus >> atom
    <|> expression_tree.Signed sign_tree.Minus <$> the k.Hyphen >> atom
    <|> atom

-- a rule as the operand of a chain
abbrev pub operand : Rule Expression → Rule Operand
operand p = operand_of <$> placed p

-- Mul = Unary ("*" Unary)*
unfoldable pub product : Rule Expression
product = chain expression_tree.Product <$> separated k.Star (operand unary)

-- Add = Mul ("+" Mul | "-" Mul | SIGNED ("*" Unary)*)*
unfoldable pub additive : Rule Expression
additive = sum <$> operand product & many
    (addend_of sign_tree.Plus <$> the k.Plus >> operand product
    <|> addend_of sign_tree.Minus <$> the k.Hyphen >> operand product
    <|> addend_of sign_tree.Plus <$> operand (chain expression_tree.Product
    <$> operand (expression_tree.Literal <$> literal_tree.Integer <$> leaf k.Signed)
    & many (the k.Star >> operand unary)))

-- "=" | "!=" | "<" | ">" | "<=" | ">="
unfoldable pub comparison : Rule Comparison
comparison = k.Equal ⇒ comparison_tree.Equal <|> k.BangEqual ⇒ comparison_tree.NotEqual
    <|> k.Less ⇒ comparison_tree.Less <|> k.Greater ⇒ comparison_tree.Greater
    <|> k.LessOrEqual ⇒ comparison_tree.LessOrEqual
    <|> k.GreaterOrEqual ⇒ comparison_tree.GreaterOrEqual

-- Rel = Add (("=" | "!=" | "<" | ">" | "<=" | ">=") Add | "NOT"? "IN" List)?, left-factored at
-- "NOT"
unfoldable pub relational : Rule Expression
relational = (λ x. related x.0 x.1) <$> additive
    & opt ((λ x. relation_tree.Compared x.0 x.1) <$> comparison & additive
    <|> relation_tree.NotAmong <$> the k.Not >> the k.In >> list
    <|> relation_tree.Among <$> the k.In >> list)

-- And = Rel ("&&" Rel)*
unfoldable pub conjunction : Rule Expression
conjunction = chain expression_tree.And <$> separated k.AndAnd (operand relational)

-- Expr = And ("||" And)*
unfoldable pub expression_rule : Rule Expression
expression_rule = chain expression_tree.Or <$> separated k.OrOr (operand conjunction)

-- Constraint = "(" Expr ")" | Call
unfoldable pub constraint : Rule Expression
constraint = parenthesized <|> expression_tree.Call <$> call

-- ---- groups

-- Value = Iri | Literal | "UNDEF"
unfoldable pub data_value : Rule DataValue
data_value = datum.Iri <$> iri <|> datum.Literal <$> literal <|> k.Undef ⇒ datum.Undefined

-- Values = "VALUES" (VAR "{" Value* "}" | "(" VAR* ")" "{" ("(" Value* ")")* "}")
unfoldable pub values : Rule InlineData
values = the k.Values >> ((λ x. record { variables = x.0 ∷ []; rows = map (λ y. y ∷ []) x.1 })
    <$> var & braces (many data_value)
    <|> (λ x. record { variables = x.0; rows = x.1 })
    <$> parens (many var) & braces (many (parens (many data_value))))

-- "(" Expr "AS" VAR ")"
unfoldable pub named_expression : Rule (Expression × Span)
named_expression = parens (expression << the k.As & var)

-- Element = Group ("UNION" Group)* | "OPTIONAL" Group | "MINUS" Group
--         | "GRAPH" (VAR | Iri) Group | "FILTER" Constraint
--         | "BIND" "(" Expr "AS" VAR ")" | Values
unfoldable pub element : Rule GraphPattern
element = pattern_tree.Union <$> cons <$> separated k.Union group
    <|> pattern_tree.Optional <$> the k.Optional >> group
    <|> pattern_tree.Minus <$> the k.Minus >> group
    <|> (λ x. pattern_tree.Graph x.0 x.1) <$> the k.Graph >> var_or_iri & group
    <|> pattern_tree.Filter <$> the k.Filter >> constraint
    <|> (λ x. pattern_tree.Bind x.0 x.1) <$> the k.Bind >> named_expression
    <|> pattern_tree.Values <$> values

-- Triples?
unfoldable pub block : Rule (List Element)
block = or [] ((λ x. element_of x ∷ []) <$> placed (pattern_tree.Triples <$> triples form.Pattern))

-- Group = "{" Triples? (Element "."? Triples?)* "}"
unfoldable pub group_rule : Rule Group
group_rule = group_of
    <$> placed (braces (between block (element_of <$> placed element << opt (the k.Dot))))

-- ---- queries

-- Prologue = ("PREFIX" PNAME_NS IRIREF)*
unfoldable pub prologue : Rule (List PrefixDeclaration)
prologue = many ((λ x. record { prefix = x.0; iri = x.1 })
    <$> the k.Prefix >> leaf k.PnameNs & leaf k.IriRef)

-- Where = "WHERE"? Group
unfoldable pub where_clause : Rule Group
where_clause = opt (the k.Where) >> group

-- Order = ("ASC" | "DESC") "(" Expr ")" | Constraint | VAR
unfoldable pub order : Rule OrderCondition
order = order_by direction_tree.Ascending <$> the k.Asc >> parenthesized
    <|> order_by direction_tree.Descending <$> the k.Desc >> parenthesized
    <|> order_by direction_tree.Ascending <$> (constraint <|> expression_tree.Var <$> var)

-- Limit = "LIMIT" INTEGER
unfoldable pub limit : Rule Span
limit = the k.Limit >> leaf k.Integer

-- Offset = "OFFSET" INTEGER
unfoldable pub offset : Rule Span
offset = the k.Offset >> leaf k.Integer

-- Slice = (Limit Offset? | Offset Limit?)?
unfoldable pub slice : Rule (Option Span × Option Span)
slice = or (None, None) ((λ x. (Some x.0, x.1)) <$> limit & opt offset
    <|> (λ x. (x.1, Some x.0)) <$> offset & opt limit)

-- Mods = ("ORDER" "BY" Order+)? Slice
unfoldable pub modifiers : Rule SolutionModifiers
modifiers = (λ x. record { order = x.0; limit = x.1.0; offset = x.1.1 })
    <$> or [] (the k.Order >> the k.By >> plus order) & slice

-- Item = VAR | "(" Expr "AS" VAR ")"
unfoldable pub item : Rule SelectItem
item = item_tree.Var <$> var <|> (λ x. item_tree.As x.0 x.1) <$> named_expression

-- Select = "SELECT" ("DISTINCT" | "REDUCED")? (Item+ | "*") Where Mods
unfoldable pub select : Rule Select
select =
    (λ x. record { duplicates = x.0.0; projection = x.0.1; pattern = x.1.0; modifiers = x.1.1 })
    <$> (the k.Select >> or duplicates_tree.Kept (k.Distinct ⇒ duplicates_tree.Distinct
    <|> k.Reduced ⇒ duplicates_tree.Reduced)
    & (projection_tree.Items <$> plus item <|> k.Star ⇒ projection_tree.All))
    & (where_clause & modifiers)

-- "{" Tmpl? "}"
unfoldable pub template_braces : Rule (List TriplesSameSubject)
template_braces = braces (or [] (triples form.Template))

-- Construct = "CONSTRUCT" ("{" Tmpl? "}" Where Mods | "WHERE" "{" Tmpl? "}" Mods)
unfoldable pub construct : Rule Construct
construct = the k.Construct
    >> ((λ x. record { template = x.0; pattern = Some x.1.0; modifiers = x.1.1 })
    <$> template_braces & (where_clause & modifiers)
    <|> (λ x. record { template = x.0; pattern = None; modifiers = x.1 })
    <$> the k.Where >> template_braces & modifiers)

-- Ask = "ASK" Where Mods
unfoldable pub ask : Rule Ask
ask = (λ x. record { pattern = x.0; modifiers = x.1 }) <$> the k.Ask >> (where_clause & modifiers)

-- Query = Prologue (Select | Construct | Ask) Values?
unfoldable pub query : Rule Query
query = (λ x. record { prologue = x.0.0; form = x.0.1; values = x.1 }) <$> prologue
    & (form_tree.Select <$> select <|> form_tree.Construct <$> construct <|> form_tree.Ask <$> ask)
    & opt values

-- ---- updates

-- Tmpl?
unfoldable pub quads_block : Rule (List QuadElement)
quads_block = or [] ((λ x. quads_of x ∷ [])
    <$> placed (quads_tree.Triples <$> triples form.Template))

-- Quads = "{" Tmpl? ("GRAPH" (VAR | Iri) "{" Tmpl? "}" "."? Tmpl?)* "}"
unfoldable pub quads : Rule QuadPattern
quads = (λ x. record { elements = x }) <$> braces (between quads_block
    ((quads_of <$> placed ((λ x. quads_tree.Graph x.0 x.1)
    <$> the k.Graph >> var_or_iri & template_braces)) << opt (the k.Dot)))

-- "DELETE" Quads ("INSERT" Quads)? | "INSERT" Quads
unfoldable pub changes : Rule (Option QuadPattern × Option QuadPattern)
changes = (λ x. (Some x.0, x.1)) <$> the k.Delete >> quads & opt (the k.Insert >> quads)
    <|> (λ x. (None, Some x)) <$> the k.Insert >> quads

-- "SILENT"?
unfoldable pub silent : Rule OnMissing
silent = or missing_tree.Fault (k.Silent ⇒ missing_tree.Silent)

-- "GRAPH" Iri | "DEFAULT" | "NAMED" | "ALL"
unfoldable pub target : Rule GraphTarget
target = target_tree.Graph <$> the k.Graph >> iri <|> k.Default ⇒ target_tree.Default
    <|> k.Named ⇒ target_tree.Named <|> k.All ⇒ target_tree.All

-- End = "DEFAULT" | "GRAPH"? Iri
unfoldable pub graph_or_default : Rule GraphOrDefault
graph_or_default = k.Default ⇒ end_tree.Default <|> end_tree.Graph <$> opt (the k.Graph) >> iri

-- "SILENT"? End "TO" End
unfoldable pub transfer : Rule Transfer
transfer = (λ x. record { on_missing = x.0.0; from = x.0.1; to = x.1 }) <$> silent
    & graph_or_default << the k.To & graph_or_default

-- Op = "INSERT" "DATA" Quads | "DELETE" "DATA" Quads | "DELETE" "WHERE" Quads
--    | ("WITH" Iri)? ("DELETE" Quads ("INSERT" Quads)? | "INSERT" Quads) "WHERE" Group
--    | ("CLEAR" | "DROP") "SILENT"? ("GRAPH" Iri | "DEFAULT" | "NAMED" | "ALL")
--    | "CREATE" "SILENT"? "GRAPH" Iri
--    | ("ADD" | "MOVE" | "COPY") "SILENT"? End "TO" End, left-factored at "INSERT" and "DELETE"
unfoldable pub operation : Rule Operation
operation = the k.Insert >> (operation_tree.InsertData <$> the k.Data >> quads
    <|> (λ x. modify None None (Some x.0) x.1) <$> quads & (the k.Where >> group))
    <|> the k.Delete >> (operation_tree.DeleteData <$> the k.Data >> quads
    <|> operation_tree.DeleteWhere <$> the k.Where >> quads
    <|> (λ x. modify None (Some x.0.0) x.0.1 x.1)
    <$> quads & opt (the k.Insert >> quads) & (the k.Where >> group))
    <|> (λ x. modify (Some x.0.0) x.0.1.0 x.0.1.1 x.1) <$> (the k.With >> iri)
    & changes & (the k.Where >> group)
    <|> (λ x. operation_tree.Clear x.0 x.1) <$> the k.Clear >> silent & target
    <|> (λ x. operation_tree.Drop x.0 x.1) <$> the k.Drop >> silent & target
    <|> (λ x. operation_tree.Create x.0 x.1) <$> the k.Create >> silent << the k.Graph & iri
    <|> operation_tree.Add <$> the k.Add >> transfer
    <|> operation_tree.Move <$> the k.Move >> transfer
    <|> operation_tree.Copy <$> the k.Copy >> transfer

-- Op (";" Update)?
unfoldable pub operations_rule : Rule (Operation × List UpdateStep)
operations_rule = operation & or [] (the k.Semicolon >> (steps_of <$> prologue & opt operations))

-- Update = Prologue (Op (";" Update)?)?
unfoldable pub update : Rule Update
update = (λ x. record { steps = steps_of x }) <$> prologue & opt operations_rule

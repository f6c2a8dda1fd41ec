-- Terms with their names resolved (SPARQL 1.1 Query, 4.1).
-- Codepoint escapes are decoded in IRIs and strings, after the tokens, where the token table has
-- them. So an escaped quotation mark ends no string.
use Rattle.std.specs.Prelude.{ℕ, ◌+◌, false, List, [], ◌∷◌, ◌++◌, drop, Option, Some, None, Ok}
use Rattle.qs_syntax_tree.specs.declared.token.Span.{Span}
use Rattle.qs_syntax_tree.specs.declared.term.Iri.{Iri}
use Rattle.qs_syntax_tree.specs.declared.term.Literal.{Literal as WrittenLiteral}
use Rattle.qs_syntax_tree.specs.declared.term.Term.{Term}
use Rattle.qs_syntax_tree.specs.declared.term.Term.TheVariants as written
use Rattle.qs_syntax_tree.specs.declared.term.VarOrIri.{VarOrIri as WrittenVarOrIri}
use Rattle.qs_syntax_tree.specs.declared.term.VarOrIri.TheVariants as written_name
use Rattle.qs_syntax_ast.specs.declared.term.Variable.{Variable}
use Rattle.qs_syntax_ast.specs.declared.term.BlankNode.{BlankNode}
use Rattle.qs_syntax_ast.specs.declared.term.BlankNode.TheVariants.{Label, Anonymous}
use Rattle.qs_syntax_ast.specs.declared.term.TermPattern.{TermPattern}
use Rattle.qs_syntax_ast.specs.declared.term.TermPattern.TheVariants as term
use Rattle.qs_syntax_ast.specs.declared.term.VarOrIri.{VarOrIri}
use Rattle.qs_syntax_ast.specs.declared.term.VarOrIri.TheVariants as name
use Rattle.qs_terms.specs.Literal.{Literal, typed, xsd_string}
use Rattle.qs_lex_escapes.specs.Piece.{piece}
use Rattle.qs_syntax_resolve.specs.Names as of
use Rattle.qs_syntax_resolve.specs.declared.resolver.Resolver.{Resolver}
use Rattle.qs_terms.specs.Outcome.{Outcome, and_then}
use Rattle.qs_syntax_resolve.specs.Resolving.{Resolving, ◌<$>◌}

-- a variable, which is noted after those that were read before it
abbrev pub variable : Span → Resolving Variable
variable span = λ s. let v : Variable = record { name = of.variable s.names span } in
    Ok (v, record s { variables = s.variables ++ v ∷ [] })

-- the variables that were read since there were so many of them
abbrev pub variables_since : ℕ → Resolving (List Variable)
variables_since count = λ s. Ok (drop count s.variables, s)

abbrev pub iri : Iri → Resolving (List ℕ)
iri i = λ s. and_then (of.iri s.names i) (λ text. Ok (text, s))

abbrev pub var_or_iri : WrittenVarOrIri → Resolving VarOrIri
var_or_iri (written_name.Var v) = name.Variable <$> variable v
var_or_iri (written_name.Iri i) = name.Iri <$> iri i

-- Where a literal isn't lawful, an empty string stands for it: the request is refused then.
abbrev pub settled : Option Literal → Resolver → Outcome (Literal × Resolver)
settled (Some l) s = Ok (l, s)
settled None s = Ok (typed [] xsd_string, record s { lawful = false })

unfoldable pub literal : WrittenLiteral → Resolving Literal
literal l = λ s. and_then (of.literal s.names l) (λ found. settled found s)

-- a fresh blank node
unfoldable pub anonymous : Resolving BlankNode
anonymous = λ s. Ok (Anonymous s.anonymous, record s { anonymous = s.anonymous + 1 })

-- the label of a blank node, without the `_:`
abbrev pub label : Span → Resolving BlankNode
label span = λ s. Ok (Label (piece s.names.text (span.start + 2) span.end), s)

unfoldable pub term_of : Term → Resolving TermPattern
term_of (written.Var v) = term.Variable <$> variable v
term_of (written.Iri i) = term.Iri <$> iri i
term_of (written.Literal l) = term.Literal <$> literal l
term_of (written.Blank span) = term.Blank <$> label span
term_of written.Anonymous = term.Blank <$> anonymous

-- What the names, strings and numbers of a text denote (SPARQL 1.1 Query, 4.1).
-- A backslash that begins no escape denotes itself, and a string has as many marks at its end as at
-- its front. A byte of a number counts by how far it is above `0`. So each definition is total.
-- Each backslash of a local name is dropped: no token has one that denotes itself. Names are in the
-- crate that resolves trees, the outcomes of tokens and trees in that of texts. Crates of their own
-- would cost clauses and win no time.
use Rattle.std.specs.Prelude.{ℕ, ◌+◌, ◌-◌, ◌*◌, ◌^◌, ◌||◌, ◌==◌, nat_eq, min, List, [], ◌∷◌, ◌++◌}
use Rattle.std.specs.Prelude.{codes}
use Rattle.std.specs.Prelude.{Option, Some, None, Ok, Err}
use Rattle.std.specs.Prelude.{if◌then◌else◌}
use Rattle.std.specs.List.{starts_with, before_first, after_first, fold}
use Rattle.std.specs.Option.{option_map_or}
use Rattle.std.specs.Result.{result_ok, result_map_both}
use Rattle.std.specs.Str.{bytes_eq}
use Rattle.std.specs.Map.{lookup}
use Rattle.qs_terms.specs.Iri.{checked_iri}
use Rattle.qs_terms.specs.Literal as lit
use Rattle.qs_terms.specs.Literal.{xsd_string, xsd_integer, xsd_boolean}
use Rattle.qs_terms.specs.Outcome.{Outcome, and_then}
use Rattle.qs_terms.specs.declared.fault.QFault.TheVariants as fault
use Rattle.qs_syntax_tree.specs.declared.token.Span.{Span}
use Rattle.qs_syntax_tree.specs.declared.term.Iri.{Iri}
use Rattle.qs_syntax_tree.specs.declared.term.Iri.TheVariants.{Full, Prefixed}
use Rattle.qs_syntax_tree.specs.declared.term.Annotation.{Annotation}
use Rattle.qs_syntax_tree.specs.declared.term.Annotation.TheVariants.{Tag, Datatype}
use Rattle.qs_syntax_tree.specs.declared.term.Literal.{Literal}
use Rattle.qs_syntax_tree.specs.declared.term.Literal.TheVariants.{String, Integer, Boolean}
use Rattle.qs_syntax_tree.specs.declared.path.Predicate.{Predicate}
use Rattle.qs_syntax_tree.specs.declared.path.Predicate.TheVariants as written
use Rattle.qs_syntax_tree.specs.declared.query.PrefixDeclaration.{PrefixDeclaration}
use Rattle.qs_lex_escapes.specs.Escape.{uchar, string_escape}
use Rattle.qs_lex_escapes.specs.Decoded.{decoded, unescaped}
use Rattle.qs_lex_escapes.specs.Piece.{piece}

-- the text, and the declarations so far, the last one first: a prefix and the IRI that it denotes
pub record Names : Type 0 where
  pub text : List ℕ
  pub prefixes : List (List ℕ × List ℕ)

-- the text, before any declaration
abbrev pub nothing_declared : List ℕ → Names
nothing_declared text = record { text = text; prefixes = [] }

-- the name of a variable, without the `?` or `$`
unfoldable pub variable : Names → Span → List ℕ
variable names span = piece names.text (span.start + 1) span.end

-- ---- IRIs (SPARQL 1.1 Query, 4.1.1)

-- the IRI that is this text, unless it is none; it stands at this place
abbrev pub iri_at : ℕ → List ℕ → Outcome (List ℕ)
iri_at place text = result_map_both (λ i. i) (λ f. fault.RelativeIri place) (checked_iri text)

-- `<..>`, with its codepoint escapes decoded
unfoldable pub full : List ℕ → Span → Outcome (List ℕ)
full text span = iri_at span.start (decoded uchar (piece text (span.start + 1) (span.end - 1)))

-- `prefix:local`: the IRI by the last declaration of the prefix, and the local name after it. The
-- first colon stands between the two.
unfoldable pub prefixed : Names → Span → Outcome (List ℕ)
prefixed names span =
    let name = piece names.text span.start span.end in
    option_map_or (λ i. iri_at span.start (i ++ unescaped (after_first (λ c. c == 58) name)))
    (lookup (bytes_eq (before_first (λ c. c == 58) name)) names.prefixes)
    (Err (fault.Prefix span.start))

abbrev pub iri : Names → Iri → Outcome (List ℕ)
iri names (Full span) = full names.text span
iri names (Prefixed span) = prefixed names span

unfoldable pub rdf_type : List ℕ
rdf_type = codes "http://www.w3.org/1999/02/22-rdf-syntax-ns#type"

-- `a` is rdf:type (SPARQL 1.1 Query, 4.2.4)
abbrev pub predicate : Names → Predicate → Outcome (List ℕ)
predicate names (written.Iri i) = iri names i
predicate names written.RdfType = Ok rdf_type

-- ---- literals (SPARQL 1.1 Query, 4.1.2)

-- how many quotation marks stand at each end: three of a kind, or one
abbrev pub marks : List ℕ → ℕ
marks written = if starts_with nat_eq written (codes "\"\"\"")
    || starts_with nat_eq written (codes "'''") then 3 else 1

-- a string without its quotation marks, and with its escapes decoded
unfoldable pub string : List ℕ → Span → List ℕ
string text span = let n = marks (piece text span.start span.end)
    in decoded string_escape (piece text (span.start + n) (span.end - n))

-- the literal, if the parts make one: without a tag there is no rdf:langString
abbrev pub annotated : Names → List ℕ → Option Annotation → Outcome (Option lit.Literal)
annotated names form None = Ok (Some (lit.typed form xsd_string))
annotated names form (Some (Tag span)) =
    Ok (result_ok (lit.checked_tagged form (piece names.text (span.start + 1) span.end)))
annotated names form (Some (Datatype i)) =
    and_then (iri names i) (λ datatype. Ok (result_ok (lit.checked_typed form datatype)))

abbrev pub literal : Names → Literal → Outcome (Option lit.Literal)
literal names (String s annotation) = annotated names (string names.text s) annotation
literal names (Integer s) = Ok (Some (lit.typed (piece names.text s.start s.end) xsd_integer))
literal names (Boolean b) =
    Ok (Some (lit.typed (if b then codes "true" else codes "false") xsd_boolean))

-- ---- declarations (SPARQL 1.1 Query, 4.1.1)

-- the prefix, without its `:`, denotes the IRI from here on
unfoldable pub declare : Names → PrefixDeclaration → Outcome Names
declare names d =
    let prefix = piece names.text d.prefix.start (d.prefix.end - 1) in
    and_then (full names.text d.iri)
    (λ i. Ok (record names { prefixes = (prefix, i) ∷ names.prefixes }))

-- ---- numbers (SPARQL 1.1 Query, 15.4 and 15.5)

-- the number that the decimal digits write, or the greatest of 64 bits where it is greater
unfoldable pub count : Names → Span → ℕ
count names span = let digits = piece names.text span.start span.end in
    min (fold (λ value c. value * 10 + (c - 48)) 0 digits) (2 ^ 64 - 1)

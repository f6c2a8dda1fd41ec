-- Definitions over those of `Names`, for proofs and the layers between.
use Rattle.std.specs.Prelude.{ℕ, Bool, ◌+◌, ◌-◌, ◌*◌, ◌==◌, if◌then◌else◌, List, ◌++◌, codes}
use Rattle.std.specs.Prelude.{◌∷◌, Option, Result, Ok, Err}
use Rattle.std.specs.List.{before_first, after_first, fold}
use Rattle.std.specs.Option.{option_map_or}
use Rattle.std.specs.Result.{result_ok, result_map_both}
use Rattle.std.specs.Str.{bytes_eq}
use Rattle.std.specs.Map.{lookup}
use Rattle.qs_terms.specs.Iri.{checked_iri}
use Rattle.qs_terms.specs.Literal as lit
use Rattle.qs_terms.specs.Outcome.{Outcome, and_then}
use Rattle.qs_terms.specs.declared.fault.TermFault.{TermFault}
use Rattle.qs_terms.specs.declared.fault.QFault.TheVariants as fault
use Rattle.qs_syntax_tree.specs.declared.token.Span.{Span}
use Rattle.qs_lex_escapes.specs.Decoded.{unescaped}
use Rattle.qs_lex_escapes.specs.Piece.{piece}
use Rattle.qs_syntax_resolve.specs.Names.{Names}

-- a label without the `_:`
abbrev pub label : Names → Span → List ℕ
label names span = piece names.text (span.start + 2) span.end

-- the IRI, unless the text is none
abbrev pub absolute : ℕ → Result (List ℕ) TermFault → Outcome (List ℕ)
absolute place text = result_map_both (λ i. i) (λ f. fault.RelativeIri place) text

-- the IRI that the prefix denotes, and the local name after it
abbrev pub joined : ℕ → Option (List ℕ) → List ℕ → Outcome (List ℕ)
joined place start local =
    option_map_or (λ i. absolute place (checked_iri (i ++ unescaped local))) start
    (Err (fault.Prefix place))

abbrev pub is_colon : ℕ → Bool
is_colon c = c == 58

-- the parts before and after the first colon
abbrev pub expanded : List (List ℕ × List ℕ) → ℕ → List ℕ → Outcome (List ℕ)
expanded prefixes place name =
    joined place (lookup (bytes_eq (before_first is_colon name)) prefixes)
    (after_first is_colon name)

-- the literal, if the parts make one
abbrev pub typed : List ℕ → Outcome (List ℕ) → Outcome (Option lit.Literal)
typed form datatype = and_then datatype (λ d. Ok (result_ok (lit.checked_typed form d)))

abbrev pub boolean : Bool → List ℕ
boolean b = if b then codes "true" else codes "false"

abbrev pub with_prefix : Names → List ℕ → Outcome (List ℕ) → Outcome Names
with_prefix names prefix found =
    and_then found (λ i. Ok (record names { prefixes = (prefix, i) ∷ names.prefixes }))

-- decimal digits after digits of this value: the value of them all
abbrev pub decimal : ℕ → List ℕ → ℕ
decimal value cs = fold (λ value c. value * 10 + (c - 48)) value cs

-- What a token says (RDF 1.1 N-Quads, 4): an absolute IRI or the form of a literal, with escapes
-- decoded, a tag, a blank node or a mark.
use Rattle.std.specs.Prelude.{ℕ, ◌-◌, List, length, Result, Ok, Err}
use Rattle.std.specs.Result.{result_map_both}
use Rattle.qs_lex_escapes.specs.Decoded.{decoded}
use Rattle.qs_lex_escapes.specs.Escape.{uchar, string_escape}
use Rattle.qs_lex_escapes.specs.Piece.{piece}
use Rattle.qs_terms.specs.Iri.{checked_iri}
use Rattle.qs_nquads.specs.Labels.{Numbering, number}
use Rattle.qs_nquads.specs.declared.class.Class.{Class}
use Rattle.qs_nquads.specs.declared.class.Class.TheVariants as class
use Rattle.qs_nquads.specs.declared.fault.NqFaultKind.{NqFaultKind}
use Rattle.qs_nquads.specs.declared.fault.NqFaultKind.TheVariants as fault
use Rattle.qs_nquads.specs.declared.part.Part.{Part}
use Rattle.qs_nquads.specs.declared.part.Part.TheVariants as part

-- the token without the byte at each end
abbrev pub inside : List ℕ → List ℕ
inside token = piece token 1 (length token - 1)

-- What a longest front of a class, of these bytes, says, with the numbers of labels before and
-- after it; or its fault. A front that is no token is `token`, or `escape` where it ends at a
-- backslash that begins no escape. An IRI is `iri` where it has no scheme, or an escape in it gave
-- a character that IRIs exclude. A label has the fault of its numbering.
abbrev pub said : Numbering → Class → List ℕ → Result (Part × Numbering) NqFaultKind
said n class.Iri token = result_map_both (λ i. (part.Iri i, n)) (λ f. fault.Iri)
    (checked_iri (decoded uchar (inside token)))
said n class.String token = Ok (part.Form (decoded string_escape (inside token)), n)
said n class.Tag token = Ok (part.Tag (piece token 1 (length token)), n)
said n class.Label token = result_map_both (λ m. (part.Blank m.0, m.1)) (λ f. f)
    (number n (piece token 2 (length token)))
said n class.Carets token = Ok (part.Carets, n)
said n class.Dot token = Ok (part.Dot, n)
said n class.LineEnd token = Ok (part.LineEnd, n)
said n class.Open token = Err fault.Token
said n class.Broken token = Err fault.Escape

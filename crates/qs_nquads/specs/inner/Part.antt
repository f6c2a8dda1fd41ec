-- Definitions over those of `Part`, for proofs and the layers between.
use Rattle.std.specs.Prelude.{ℕ, List, length, Result}
use Rattle.std.specs.Result.{result_map_both}
use Rattle.qs_lex_escapes.specs.Piece.{piece}
use Rattle.qs_terms.specs.declared.fault.TermFault.{TermFault}
use Rattle.qs_nquads.specs.Labels.{Numbering}
use Rattle.qs_nquads.specs.declared.fault.NqFaultKind.{NqFaultKind}
use Rattle.qs_nquads.specs.declared.fault.NqFaultKind.TheVariants as fault
use Rattle.qs_nquads.specs.declared.part.Part.{Part}
use Rattle.qs_nquads.specs.declared.part.Part.TheVariants as part

-- the token without its first bytes
abbrev pub behind : List ℕ → ℕ → List ℕ
behind token n = piece token n (length token)

-- the IRI, unless it has no scheme or an escape in it gave a character that IRIs exclude
abbrev pub iri_part : Numbering → Result (List ℕ) TermFault → Result (Part × Numbering) NqFaultKind
iri_part n found = result_map_both (λ i. (part.Iri i, n)) (λ f. fault.Iri) found

-- the blank node, unless its label is new and no number is left
abbrev pub blank_part : Result (ℕ × Numbering) NqFaultKind → Result (Part × Numbering) NqFaultKind
blank_part numbered = result_map_both (λ m. (part.Blank m.0, m.1)) (λ f. f) numbered

-- Definitions over those of `Term`, for proofs and the layers between.
use Rattle.std.specs.Prelude.{ℕ, List, Result, Ok, Err}
use Rattle.qs_terms.specs.Literal as literal
use Rattle.qs_terms.specs.declared.fault.TermFault.{TermFault}
use Rattle.qs_terms.specs.declared.term.Term.{Term}
use Rattle.qs_terms.specs.declared.term.Term.TheVariants.{Iri, Literal}

-- the IRI of the bytes, as a term
abbrev pub iri_of : Result (List ℕ) TermFault → Result Term TermFault
iri_of (Ok i) = Ok (Iri i)
iri_of (Err f) = Err f

abbrev pub literal_of : Result literal.Literal TermFault → Result Term TermFault
literal_of (Ok l) = Ok (Literal l)
literal_of (Err f) = Err f

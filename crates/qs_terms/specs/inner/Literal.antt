-- Definitions over those of `Literal`, for proofs and the layers between.
use Rattle.std.specs.Prelude.{ℕ, Bool, ◌&&◌, not, List, Option, Some, None, Result, Ok, Err}
use Rattle.std.specs.Str.{bytes_eq}
use Rattle.qs_terms.specs.inner.Iri.{is_iri_text}
use Rattle.qs_terms.specs.Tag.{is_tag, lowered}
use Rattle.qs_terms.specs.declared.fault.TermFault.{TermFault}
use Rattle.qs_terms.specs.Literal.{Literal, rdf_lang_string, checked_typed}

-- whether the text is a tag in lower case
abbrev pub is_lower_tag : List ℕ → Bool
is_lower_tag tag = is_tag tag && bytes_eq (lowered tag) tag

-- a datatype other than rdf:langString and no tag, or a tag in lower case and rdf:langString
abbrev pub fits_tag : List ℕ → Option (List ℕ) → Bool
fits_tag datatype None = is_iri_text datatype && not (bytes_eq datatype rdf_lang_string)
fits_tag datatype (Some tag) = bytes_eq datatype rdf_lang_string && is_lower_tag tag

-- whether a literal may have these parts
abbrev pub is_literal : Literal → Bool
is_literal l = fits_tag l.datatype l.tag

-- the literal of a form and of a text that should be a datatype's IRI
abbrev pub checked_parts : List ℕ → Result (List ℕ) TermFault → Result Literal TermFault
checked_parts form (Ok datatype) = checked_typed form datatype
checked_parts form (Err f) = Err f

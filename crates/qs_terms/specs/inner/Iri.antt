-- Definitions over those of `Iri`, for proofs and the layers between.
use Rattle.std.specs.Prelude.{ℕ, Bool, ◌&&◌, not, List}
use Rattle.std.specs.List.{list_any}
use Rattle.qs_terms.specs.Iri.{has_scheme, is_excluded}

-- whether the bytes are a lawful IRI
abbrev pub is_iri_text : List ℕ → Bool
is_iri_text text = has_scheme text && not (list_any is_excluded text)

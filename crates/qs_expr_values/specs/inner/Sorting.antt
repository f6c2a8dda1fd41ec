-- Definitions over those of `Sorting`, for proofs and the layers between.
use Rattle.std.specs.Prelude.{ℕ, Bool, true, false, List, Option}
use Rattle.qs_terms.specs.declared.term.Term.{Term}
use Rattle.qs_expr_values.specs.Values.{other}
use Rattle.qs_expr_values.specs.Sorting.{key_by_worth}
use Rattle.qs_expr_values.specs.declared.key.Key.{Key}
use Rattle.qs_expr_values.specs.declared.key.Key.TheVariants.{Unbound, Blank, Iri, Boolean, Integer}
use Rattle.qs_expr_values.specs.declared.key.Key.TheVariants.{String, Other}

abbrev pub other_key : List ℕ → List ℕ → Option (List ℕ) → Key
other_key form datatype tag = Other datatype form tag

-- the key of a term without a value
abbrev pub plain_key : Term → Key
plain_key t = key_by_worth other t

-- whether the key holds a text
abbrev pub has_text : Key → Bool
has_text Unbound = false
has_text (Blank n) = false
has_text (Iri i) = true
has_text (Boolean b) = false
has_text (Integer z) = false
has_text (String s) = true
has_text (Other datatype form tag) = true

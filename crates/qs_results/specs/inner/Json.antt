-- Definitions over those of `Json`, for proofs and the layers between.
use Rattle.std.specs.Prelude.{ℕ, Bool, true, false, List, map, Option}
use Rattle.std.specs.Option.{option_map_or}
use Rattle.serde_json.specs.Data.{Data, string, array, Members, put}
use Rattle.serde_json.specs.View.{items_of}
use Rattle.qs_terms.specs.declared.term.Term.{Term}
use Rattle.qs_algebra_solutions.specs.declared.answer.Answer.{Answer}
use Rattle.qs_algebra_solutions.specs.declared.answer.Answer.TheVariants.{Solutions, Truth, Graph}
use Rattle.qs_results.specs.Json.{term_data}

-- the names of the variables (SPARQL 1.1 Query Results JSON Format, 3.1.1)
abbrev pub names_data : List (List ℕ) → Data
names_data names = array (items_of (map string names))

-- the members with what the variable is bound to, if it is bound
abbrev pub with_binding : List ℕ → Option Term → Members → Members
with_binding name cell ms = option_map_or (λ t. put name (term_data t) ms) cell ms

-- whether the answer has a JSON form
abbrev pub has_json : Answer → Bool
has_json (Solutions names rows) = true
has_json (Truth b) = true
has_json (Graph quads) = false

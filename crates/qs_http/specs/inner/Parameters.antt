-- Words over those of `Parameters`.
use Rattle.std.specs.Prelude.{ℕ, Bool, List, map, filter, Option, option_map, unwrap_or}
use Rattle.std.specs.List.{list_any}
use Rattle.std.specs.Str.{bytes_eq}
use Rattle.qs_http.specs.declared.fixed_reply.Fixed.TheVariants.{BadRequest}
use Rattle.qs_http.specs.declared.request.Request.{Request}
use Rattle.qs_http.specs.Outcome.{Outcome, Ready, Refused}
use Rattle.qs_http.specs.Parameters.{decoded, graph_names}

-- a pair's name and value, decoded
abbrev pub decoded_pair : List ℕ × List ℕ → List ℕ × List ℕ
decoded_pair pair = (decoded pair.0, decoded pair.1)

-- the values of the pairs of that name
abbrev pub values_named : List ℕ → List (List ℕ × List ℕ) → List (List ℕ)
values_named name pairs = map (λ p. p.1) (filter (λ p. bytes_eq name p.0) pairs)

abbrev pub is_graph_name : List ℕ → Bool
is_graph_name name = list_any (bytes_eq name) graph_names

-- what a text asks, where there is one
abbrev pub of_text : (List ℕ → Request) → Option (List ℕ) → Outcome
of_text asks text = unwrap_or (option_map (λ t. Ready (asks t)) text) (Refused BadRequest)

-- The parameters of a request (SPARQL 1.1 Protocol, 2): the pairs of a form, as `form_urlencoded`
-- reads them (URL Standard, 5.1).
use Rattle.std.specs.Prelude.{ℕ, Bool, ◌||◌, if◌then◌else◌, List, [], ◌∷◌, map, filter, codes}
use Rattle.std.specs.Prelude.{Option, None, Some, option_map, unwrap_or}
use Rattle.std.specs.List.{list_any}
use Rattle.std.specs.Str.{bytes_eq}
use Rattle.std.specs.Str.Lossy.{utf8_lossy}
use Rattle.form_urlencoded.specs.Form.{raw_pairs, decode}
use Rattle.qs_http.specs.declared.fixed_reply.Fixed.TheVariants.{BadRequest}
use Rattle.qs_http.specs.declared.request.Request.{Request}
use Rattle.qs_http.specs.Outcome.{Outcome, Ready, Refused}

-- a name or a value, decoded; what isn't UTF-8 is read as U+FFFD
abbrev pub decoded : List ℕ → List ℕ
decoded text = utf8_lossy (decode text)

-- the pairs of a text, their names and values decoded
abbrev pub pairs_of : List ℕ → List (List ℕ × List ℕ)
pairs_of text = map (λ p. (decoded p.0, decoded p.1)) (raw_pairs text)

-- the value, where there is exactly one
abbrev pub only : List (List ℕ) → Option (List ℕ)
only (value ∷ []) = Some value
only _ = None

-- the value of the one pair of that name; None: there isn't exactly one
unfoldable pub only_value : List ℕ → List ℕ → Option (List ℕ)
only_value name text = only (map (λ p. p.1) (filter (λ p. bytes_eq name p.0) (pairs_of text)))

-- the names by which a request would choose its graphs (SPARQL 1.1 Protocol, 2.1.4 and 2.2.3)
abbrev pub graph_names : List (List ℕ)
graph_names =
    codes "default-graph-uri" ∷ codes "named-graph-uri" ∷ codes "using-graph-uri"
    ∷ codes "using-named-graph-uri" ∷ []

-- some pair has such a name
unfoldable pub has_graph : List ℕ → Bool
has_graph text = list_any (λ p. list_any (bytes_eq p.0) graph_names) (pairs_of text)

-- the parameters hold exactly one pair of that name, and no graph is chosen there or in the target
unfoldable pub of_pairs : List ℕ → (List ℕ → Request) → List ℕ → List ℕ → Outcome
of_pairs name asks pairs target =
    if has_graph pairs || has_graph target then Refused BadRequest
    else unwrap_or (option_map (λ t. Ready (asks t)) (only_value name pairs)) (Refused BadRequest)

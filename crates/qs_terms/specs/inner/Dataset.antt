-- Definitions over those of `Statement` and `Dataset`, for proofs and the layers between.
use Rattle.std.specs.Prelude.{ℕ, Bool, true, List, [], ◌∷◌, Option}
use Rattle.std.specs.Option.{option_map_or}
use Rattle.qs_terms.specs.Dataset.{Triple, is_term_below}
use Rattle.qs_terms.specs.Statement.{is_node}
use Rattle.qs_terms.specs.declared.term.Term.{Term}

-- the name of a graph is no literal
abbrev pub is_graph : Option Term → Bool
is_graph graph = option_map_or is_node graph true

abbrev pub is_graph_below : ℕ → Option Term → Bool
is_graph_below next graph = option_map_or (is_term_below next) graph true

-- the ends of a triple
abbrev pub ends_of : Triple → List Term
ends_of t = t.subject ∷ t.object ∷ []

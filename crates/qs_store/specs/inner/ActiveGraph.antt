-- The graph that is read (SPARQL 1.1 Query, 13.3 and 18.6).
use Rattle.std.specs.Prelude.{zero, suc, Bool, true, false, List, [], map, Option, None, Some}
use Rattle.std.specs.List.{filter}
use Rattle.qs_terms.specs.Bag.{once}
use Rattle.qs_terms.specs.Dataset.{Triple, triple_of, same_triple, graph_of}
use Rattle.qs_terms.specs.Statement.{Statement}
use Rattle.qs_terms.specs.declared.term.Term.{Term}
use Rattle.qs_dict.specs.inner.Dict.{term_at}
use Rattle.qs_store.specs.Content.{Content}
use Rattle.qs_store.specs.inner.Content.{IsContent, KnowsItsTerms}
use Rattle.qs_store.specs.declared.active.Active.{Active}
use Rattle.qs_store.specs.declared.active.Active.TheVariants.{Default, Graph, Empty}
use Rattle.qs_store.specs.declared.default_graph.DefaultGraph.{DefaultGraph}
use Rattle.qs_store.specs.declared.default_graph.DefaultGraph.TheVariants.{Stored, Union}

-- the quads of a view stand once each, and their terms are known
pub record IsSeen (c : Content) : Type 0 where
  pub lawful : IsContent c
  pub knows : KnowsItsTerms c

abbrev pub is_named : Option Term → Bool
is_named None = false
is_named (Some name) = true

-- the triples of the graph of this name; a number that is no term's names none
abbrev pub named_graph : List Statement → Option Term → List Triple
named_graph quads None = []
named_graph quads (Some name) = graph_of quads (Some name)

-- the triples of the graph that is read: number 0 is the stored default graph's; a union default
-- graph has those of all named graphs, each once
abbrev pub active_graph : Content → DefaultGraph → Active → List Triple
active_graph c default (Graph zero) = graph_of c.quads None
active_graph c default (Graph (suc place)) = named_graph c.quads (term_at c.known (suc place))
active_graph c default Empty = []
active_graph c Stored Default = graph_of c.quads None
active_graph c Union Default =
    once same_triple (map triple_of (filter (λ q. is_named q.graph) c.quads))

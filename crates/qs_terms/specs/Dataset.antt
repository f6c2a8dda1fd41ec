-- Datasets (RDF 1.1 Concepts, 4; SPARQL 1.1 Query, 13): quads read as a set, and a blank node
-- number above theirs.
use Rattle.std.specs.Prelude.{ℕ, Bool, true, ◌&&◌, nat_lt, List, [], ◌∷◌, map, Option}
use Rattle.std.specs.Bool.{IsTrue}
use Rattle.std.specs.List.{filter, filter_map, flat_map, list_all}
use Rattle.qs_terms.specs.Bag.{Distinct, once}
use Rattle.qs_terms.specs.Term.{same_term}
use Rattle.qs_terms.specs.Statement.{Statement, same_graph, same_statement}
pub use Rattle.qs_terms.specs.Statement.{Triple, triple_of, same_triple}
use Rattle.std.specs.Option.{option_map_or}
use Rattle.qs_terms.specs.declared.term.Term.{Term}
use Rattle.qs_terms.specs.declared.term.Term.TheVariants.{Blank}

-- the quads, of which each stands once and whose order means nothing, and the next blank node's
-- number
pub record Dataset : Type 0 where
  pub quads : List Statement
  pub next : ℕ

abbrev pub is_term_below : ℕ → Term → Bool
is_term_below next (Blank n) = nat_lt n next
is_term_below next _ = true

-- a predicate is no blank node
abbrev pub is_statement_below : ℕ → Statement → Bool
is_statement_below next q = option_map_or (is_term_below next) q.graph true
    && (is_term_below next q.subject && is_term_below next q.object)

-- the number is above those of all blank nodes of the quads
abbrev pub is_above_blanks : ℕ → List Statement → Bool
is_above_blanks next quads = list_all (is_statement_below next) quads

-- each quad stands once, and the next number is above all that occur
abbrev pub IsDataset : Dataset → Type 0
IsDataset d = Distinct same_statement d.quads × IsTrue (is_above_blanks d.next d.quads)

-- the triples of the graph of this name, or of the default graph; the graph may be empty
abbrev pub graph_of : List Statement → Option Term → List Triple
graph_of quads name = map triple_of (filter (λ q. same_graph q.graph name) quads)

-- the names of the named graphs: those that a quad names, each once; so a named graph exists while
-- a quad is in it
abbrev pub names_of : List Statement → List Term
names_of quads = once same_term (filter_map (λ q. q.graph) quads)

-- the nodes of a graph: the terms that stand as subject or object, each once (RDF 1.1 Concepts,
-- 3.1)
abbrev pub nodes_of : List Triple → List Term
nodes_of graph = once same_term (flat_map (λ t. t.subject ∷ t.object ∷ []) graph)

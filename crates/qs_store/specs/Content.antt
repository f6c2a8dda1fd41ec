-- What a store or a draft holds (RDF 1.1 Concepts, 4).
use Rattle.std.specs.Prelude.{ℕ, List}
use Rattle.qs_terms.specs.Statement.{Statement}
use Rattle.qs_terms.specs.declared.term.Term.{Term}
use Rattle.qs_store.specs.declared.default_graph.DefaultGraph.{DefaultGraph}

-- the quads, whose order means nothing, the next blank node's number, and the known terms by their
-- numbers from 1
pub record Content : Type 0 where
  pub quads : List Statement
  pub next : ℕ
  pub known : List Term

-- a store, what its draft would make of it, how many terms it may know, and which default graph
-- queries see
pub record Held : Type 0 where
  pub base : Content
  pub draft : Content
  pub limit : ℕ
  pub default_graph : DefaultGraph

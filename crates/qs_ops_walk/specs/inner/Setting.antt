-- What a walk reads.
use Rattle.std.specs.Prelude.{ℕ, List}
use Rattle.qs_terms.specs.declared.term.Term.{Term}
use Rattle.qs_store.specs.Content.{Content}
use Rattle.qs_store.specs.inner.ActiveGraph.{active_graph}
use Rattle.qs_store.specs.declared.active.Active.{Active}
use Rattle.qs_store.specs.declared.default_graph.DefaultGraph.{DefaultGraph}
use Rattle.qs_algebra_patterns.specs.Basic.{Graph}
use Rattle.qs_plan_meaning.specs.declared.stage.Stage.{Stage}
use Rattle.qs_plan_meaning.specs.inner.Stages.{Made, gives, through}

-- how many variables of a row are named, the content of the view, the default graph that is seen,
-- and the active graph
pub record Setting : Type 0 where
  pub width : ℕ
  pub content : Content
  pub default : DefaultGraph
  pub active : Active

-- the terms of the dictionary
abbrev pub known_of : Setting → List Term
known_of s = s.content.known

-- the triples of the active graph
abbrev pub graph_in : Setting → Graph
graph_in s = active_graph s.content s.default s.active

-- what a stage makes of a row
abbrev pub gives_in : Setting → Stage → Made
gives_in s = gives s.width s.content.quads (graph_in s)

-- what stages make of a row, one after another
abbrev pub through_in : Setting → List Stage → Made
through_in s stages = through s.width s.content.quads (graph_in s) stages

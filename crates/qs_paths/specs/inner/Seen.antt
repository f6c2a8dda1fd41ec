-- The graph that is read of a view.
use Rattle.std.specs.Prelude.{List}
use Rattle.qs_terms.specs.declared.term.Term.{Term}
use Rattle.qs_store.specs.inner.ActiveGraph.{active_graph}
use Rattle.qs_store.specs.Content.{Content}
use Rattle.qs_store.specs.declared.default_graph.DefaultGraph.{DefaultGraph}
use Rattle.qs_paths_meaning.specs.Steps.{Graph}
use Rattle.qs_paths.specs.declared.seen.Seen.{Seen}

abbrev pub known_in : {V : Type 0} → (V → Content) → Seen V → List Term
known_in content seen = (content seen.view.now).known

abbrev pub graph_in : {V : Type 0} → (V → Content) → (V → DefaultGraph) → Seen V → Graph
graph_in content default seen =
    active_graph (content seen.view.now) (default seen.view.now) seen.active

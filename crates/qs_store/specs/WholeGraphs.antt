-- Quads by their graphs (SPARQL 1.1 Update, 3.2). A named graph is there while a quad is in it; the
-- default graph is always there.
use Rattle.std.specs.Prelude.{Bool, true, List, [], ◌++◌, map, Option, Some, None}
use Rattle.std.specs.List.{filter, list_any}
use Rattle.std.specs.Option.{is_some}
use Rattle.qs_terms.specs.Statement.{Statement, same_graph}
use Rattle.qs_terms.specs.declared.term.Term.{Term}
use Rattle.qs_store.specs.declared.removal.Removal.{Removal}
use Rattle.qs_store.specs.declared.removal.Removal.TheVariants as removal

-- the quad stands in the graph of this name, or in the default graph
abbrev pub is_in : Option Term → Statement → Bool
is_in name q = same_graph q.graph name

abbrev pub is_named : Statement → Bool
is_named q = is_some q.graph

-- the quads of a graph
abbrev pub in_graph : Option Term → List Statement → List Statement
in_graph name quads = filter (is_in name) quads

-- whether there is such a graph
abbrev pub exists : Option Term → List Statement → Bool
exists None quads = true
exists (Some name) quads = list_any (is_in (Some name)) quads

-- the same triple in this graph
abbrev pub put_into : Option Term → Statement → Statement
put_into name q = record q { graph = name }

-- the quads of one graph, put into another
abbrev pub copies : Option Term → Option Term → List Statement → List Statement
copies from to quads = map (put_into to) (in_graph from quads)

-- the quads that are removed before: ADD removes none, COPY those of its target, MOVE those of its
-- target and of its source
abbrev pub removed_by : Removal → Option Term → Option Term → List Statement → List Statement
removed_by removal.Nothing from to quads = []
removed_by removal.Target from to quads = in_graph to quads
removed_by removal.Both from to quads = in_graph to quads ++ in_graph from quads

-- The graphs that operations name, and the quads in them (SPARQL 1.1 Update, 3.2). A WHERE is
-- evaluated over the visible quads.
use Rattle.std.specs.Prelude.{Bool, true, Option, Some, None}
use Rattle.qs_terms.specs.Statement.{Statement}
use Rattle.qs_terms.specs.declared.term.Term.{Term}
use Rattle.qs_terms.specs.declared.term.Term.TheVariants as value
use Rattle.qs_syntax_ast.specs.declared.update.GraphOrDefault.{GraphOrDefault}
use Rattle.qs_syntax_ast.specs.declared.update.GraphOrDefault.TheVariants as graph
use Rattle.qs_syntax_ast.specs.declared.update.GraphTarget.{GraphTarget}
use Rattle.qs_syntax_ast.specs.declared.update.GraphTarget.TheVariants as target
pub use Rattle.qs_store.specs.WholeGraphs.{is_in, is_named, in_graph, exists, put_into, copies}
pub use Rattle.qs_store.specs.Visible.{visible}

abbrev pub graph_name : GraphOrDefault → Option Term
graph_name graph.Default = None
graph_name (graph.Graph i) = Some (value.Iri i)

-- the quad stands in one of the graphs that CLEAR or DROP names
abbrev pub is_target : GraphTarget → Statement → Bool
is_target (target.Graph i) q = is_in (Some (value.Iri i)) q
is_target target.Default q = is_in None q
is_target target.Named q = is_named q
is_target target.All q = true

-- The variables of triple patterns (SPARQL 1.1 Query, 4.2 and 9). A path has none, and a blank node
-- is none.
use Rattle.std.specs.Prelude.{List, [], ◌∷◌, ◌++◌, map, unwrap_or, option_map}
use Rattle.std.specs.List.{flat_map}
use Rattle.qs_syntax_scope.specs.Names.{Name}
use Rattle.qs_syntax_ast.specs.declared.term.Variable.{Variable}
use Rattle.qs_syntax_ast.specs.declared.term.TermPattern.{TermPattern}
use Rattle.qs_syntax_ast.specs.declared.term.TermPattern.TheVariants as term
use Rattle.qs_syntax_ast.specs.declared.term.VarOrIri.{VarOrIri}
use Rattle.qs_syntax_ast.specs.declared.term.VarOrIri.TheVariants as graph
use Rattle.qs_syntax_ast.specs.declared.pattern.Verb.{Verb}
use Rattle.qs_syntax_ast.specs.declared.pattern.Verb.TheVariants as verb
use Rattle.qs_syntax_ast.specs.declared.pattern.Triple.{Triple}
use Rattle.qs_syntax_ast.specs.declared.pattern.InlineData.{InlineData}
use Rattle.qs_syntax_ast.specs.declared.update.QuadBlock.{QuadBlock}

abbrev pub term_variables : TermPattern → List Name
term_variables (term.Variable v) = v.name ∷ []
term_variables _ = []

abbrev pub verb_variables : Verb → List Name
verb_variables (verb.Variable v) = v.name ∷ []
verb_variables _ = []

abbrev pub graph_variables : VarOrIri → List Name
graph_variables (graph.Variable v) = v.name ∷ []
graph_variables (graph.Iri i) = []

-- of its subject, its verb and its object; of a path, of its two ends
abbrev pub triple_variables : Triple → List Name
triple_variables t = term_variables t.subject ++ verb_variables t.verb ++ term_variables t.object

-- of a VALUES
abbrev pub column_names : InlineData → List Name
column_names table = map (λ (v : Variable). v.name) table.variables

-- of a block of quads, the name of its graph included
abbrev pub block_variables : QuadBlock → List Name
block_variables b =
    unwrap_or (option_map graph_variables b.graph) [] ++ flat_map triple_variables b.triples

-- Tests whether a variable stands there, for proofs and the layers between.
use Rattle.std.specs.Prelude.{Bool, true, false, ◌||◌, Option, Some}
use Rattle.std.specs.List.{list_any}
use Rattle.qs_syntax_ast.specs.declared.term.TermPattern.{TermPattern}
use Rattle.qs_syntax_ast.specs.declared.term.TermPattern.TheVariants as term
use Rattle.qs_syntax_ast.specs.declared.term.VarOrIri.{VarOrIri}
use Rattle.qs_syntax_ast.specs.declared.term.VarOrIri.TheVariants as graph
use Rattle.qs_syntax_ast.specs.declared.pattern.Verb.{Verb}
use Rattle.qs_syntax_ast.specs.declared.pattern.Verb.TheVariants as verb
use Rattle.qs_syntax_ast.specs.declared.pattern.Triple.{Triple}
use Rattle.qs_syntax_ast.specs.declared.update.QuadBlock.{QuadBlock}

abbrev pub term_is_variable : TermPattern → Bool
term_is_variable (term.Variable v) = true
term_is_variable _ = false

abbrev pub verb_is_variable : Verb → Bool
verb_is_variable (verb.Variable v) = true
verb_is_variable _ = false

abbrev pub graph_is_variable : Option VarOrIri → Bool
graph_is_variable (Some (graph.Variable v)) = true
graph_is_variable _ = false

abbrev pub triple_has_variable : Triple → Bool
triple_has_variable t =
    term_is_variable t.subject || verb_is_variable t.verb || term_is_variable t.object

-- the name of the graph included
abbrev pub block_has_variable : QuadBlock → Bool
block_has_variable b = graph_is_variable b.graph || list_any triple_has_variable b.triples

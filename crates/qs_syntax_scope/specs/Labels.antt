-- The blank nodes of triples (SPARQL 1.1 Query, 4.1.4 and 19.6). `[]` and `[ .. ]` have no label.
use Rattle.std.specs.Prelude.{Bool, true, false, List, [], ◌∷◌, ◌++◌}
use Rattle.qs_syntax_scope.specs.Names.{Name}
use Rattle.qs_syntax_ast.specs.declared.term.BlankNode.TheVariants.{Label}
use Rattle.qs_syntax_ast.specs.declared.term.TermPattern.{TermPattern}
use Rattle.qs_syntax_ast.specs.declared.term.TermPattern.TheVariants as term
use Rattle.qs_syntax_ast.specs.declared.pattern.Triple.{Triple}

abbrev pub term_labels : TermPattern → List Name
term_labels (term.Blank (Label label)) = label ∷ []
term_labels _ = []

-- of its subject and its object
abbrev pub triple_labels : Triple → List Name
triple_labels t = term_labels t.subject ++ term_labels t.object

-- with a label or without
abbrev pub is_blank : TermPattern → Bool
is_blank (term.Blank b) = true
is_blank _ = false

-- The variables of a text, each once, in the order in which they first appear in it (SPARQL 1.1
-- Query, 16.1).
use Rattle.std.specs.Prelude.{List, map, nat_eq}
use Rattle.std.specs.Cmp.Lexicographic.{pointwise}
use Rattle.qs_terms.specs.Bag.{once}
use Rattle.qs_syntax_scope.specs.Names.{Name}
use Rattle.qs_syntax_ast.specs.declared.term.Variable.{Variable}

abbrev pub names_of : List Variable → List Name
names_of variables = map (λ v. v.name) variables

-- each once
abbrev pub firsts : List Variable → List Variable
firsts variables = once (λ v w. pointwise nat_eq v.name w.name) variables

-- The first variables, one variable after another: for proofs and the layers between.
use Rattle.std.specs.Prelude.{List, [], ◌∷◌, ◌++◌, map, if◌then◌else◌}
use Rattle.std.specs.List.{fold}
use Rattle.qs_syntax_scope.specs.Firsts.{names_of}
use Rattle.qs_syntax_scope.specs.Names.{Name, contains}
use Rattle.qs_syntax_ast.specs.declared.term.Variable.{Variable}

abbrev pub with_name : Name → Variable
with_name name = record { name = name }

abbrev pub with_names : List Name → List Variable
with_names names = map (λ name. record { name = name }) names

-- one more, unless it is among them
unfoldable pub add_first : List Variable → Variable → List Variable
add_first found v = if contains (names_of found) v.name then found else found ++ v ∷ []

abbrev pub firsts_of : List Variable → List Variable
firsts_of variables = fold add_first [] variables

-- The runs of triples of a WHERE, by the labels in them (SPARQL 1.1 Query, 5.1.1 and 19.6). A run
-- is the triples of a group that have nothing but filters between them.
use Rattle.std.specs.Prelude.{List, [], ◌∷◌}
use Rattle.std.specs.List.{flat_map}
use Rattle.qs_syntax_scope.specs.Names.{Name, joined}
use Rattle.qs_syntax_scope.specs.Labels.{triple_labels}
use Rattle.qs_syntax_ast.specs.declared.pattern.Group.{Group, fold-Group}
use Rattle.qs_syntax_ast.specs.declared.pattern.GraphPattern.TheOpen.{GraphPattern-F}
use Rattle.qs_syntax_ast.specs.declared.pattern.GraphPattern.TheOpen.{Triples, Union, Optional}
use Rattle.qs_syntax_ast.specs.declared.pattern.GraphPattern.TheOpen.{Minus, Graph, Bind, Values}

abbrev pub runs_level : GraphPattern-F (List (List Name)) (List (List Name)) → List (List Name)
runs_level (Triples triples) = flat_map triple_labels triples ∷ []
runs_level (Union groups) = joined groups
runs_level (Optional group) = group
runs_level (Minus group) = group
runs_level (Graph name group) = group
runs_level (Bind value variable) = []
runs_level (Values table) = []

-- the labels of each run, in the order of the text
abbrev pub runs : Group → List (List Name)
runs = fold-Group (List (List Name)) (List (List Name)) runs_level (λ group. joined group.patterns)

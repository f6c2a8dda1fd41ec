-- Groups of a text in which no row of a VALUES has a blank node. By the grammar none has (SPARQL
-- 1.1 Query, 19.8, DataBlockValue).
use Rattle.std.specs.Prelude.{Bool, true}
use Rattle.std.specs.List.{list_all}
use Rattle.qs_syntax_ast.specs.declared.pattern.Group.{Group, fold-Group}
use Rattle.qs_syntax_ast.specs.declared.pattern.GraphPattern.{GraphPattern, fold-GraphPattern}
use Rattle.qs_syntax_ast.specs.declared.pattern.GraphPattern.TheOpen.{Group-F, GraphPattern-F}
use Rattle.qs_syntax_ast.specs.declared.pattern.GraphPattern.TheOpen.{Triples, Union, Optional}
use Rattle.qs_syntax_ast.specs.declared.pattern.GraphPattern.TheOpen.{Minus, Graph, Bind, Values}
use Rattle.qs_syntax_ast.specs.declared.pattern.InlineData.{InlineData}
use Rattle.qs_syntax_ast.specs.declared.update.Operation.{Operation}
use Rattle.qs_syntax_ast.specs.declared.update.Operation.TheVariants as operation
use Rattle.qs_syntax_ast.specs.declared.update.Update.{Update}
use Rattle.qs_update_laws.specs.inner.NoBlank.{all, row_has_no_blank}

abbrev pub data_have_no_blank : InlineData → Bool
data_have_no_blank table = list_all row_has_no_blank table.rows

abbrev pub values_level : GraphPattern-F Bool Bool → Bool
values_level (Triples triples) = true
values_level (Union groups) = all groups
values_level (Optional group) = group
values_level (Minus group) = group
values_level (Graph name group) = group
values_level (Bind value variable) = true
values_level (Values table) = data_have_no_blank table

abbrev pub group_level : Group-F Bool Bool → Bool
group_level group = all group.patterns

-- no row of a VALUES in the group, wherever it stands, has a blank node
abbrev pub values_have_no_blank : Group → Bool
values_have_no_blank = fold-Group Bool Bool values_level group_level

-- the same of one pattern
abbrev pub pattern_values_have_no_blank : GraphPattern → Bool
pattern_values_have_no_blank = fold-GraphPattern Bool Bool values_level group_level

-- the same of the WHERE of an operation, if it has one
abbrev pub operation_values_have_no_blank : Operation → Bool
operation_values_have_no_blank (operation.Modify m) = values_have_no_blank m.pattern
operation_values_have_no_blank other = true

-- the same of each WHERE of an update
abbrev pub update_values_have_no_blank : Update → Bool
update_values_have_no_blank update = list_all operation_values_have_no_blank update.operations

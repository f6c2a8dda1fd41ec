-- The variables in scope of a group and the rules of BIND and VALUES, one pattern after another:
-- for proofs and the layers between.
use Rattle.std.specs.Prelude.{Bool, true, ◌&&◌, not, List, [], ◌∷◌, ◌++◌, map}
use Rattle.std.specs.List.{list_any, flat_map, fold}
use Rattle.qs_syntax_scope.specs.Names.{Name, contains}
use Rattle.qs_syntax_scope.specs.inner.Met.{after}
use Rattle.qs_syntax_scope.specs.Variables.{triple_variables, graph_variables, column_names}
use Rattle.qs_syntax_scope.specs.Tables.{is_table}
use Rattle.qs_syntax_scope.specs.Scope.{Scope, pattern_scope, group_scope}
use Rattle.qs_syntax_scope.specs.declared.met.Met.{Met}
use Rattle.qs_syntax_ast.specs.declared.pattern.Group.{Group, fold-Group}
use Rattle.qs_syntax_ast.specs.declared.pattern.GraphPattern.{GraphPattern, fold-GraphPattern}
use Rattle.qs_syntax_ast.specs.declared.pattern.GraphPattern.TheOpen.{Group-F, GraphPattern-F}
use Rattle.qs_syntax_ast.specs.declared.pattern.GraphPattern.TheOpen.{Triples, Union, Optional}
use Rattle.qs_syntax_ast.specs.declared.pattern.GraphPattern.TheOpen.{Minus, Graph, Bind, Values}

-- what a pattern is to its group: the variables that it brings into scope, the variable that it
-- binds as a BIND, and whether each VALUES in it and each BIND in its inner groups keeps its rule
pub record Part : Type 0 where
  pub names : List Name
  pub bound : List Name
  pub keeps : Bool

-- a BIND's variable is not in scope of the patterns of its group before it
abbrev pub fits : List Name → Part → Bool
fits before part = part.keeps && not (list_any (contains before) part.bound)

-- one more pattern of a group
abbrev pub add_part : Met → Part → Met
add_part before part =
    record { names = before.names ++ part.names; keeps = before.keeps && fits before.names part }

-- one more operand of UNION
abbrev pub add_operand : Met → Met → Met
add_operand before operand =
    record { names = before.names ++ operand.names; keeps = before.keeps && operand.keeps }

-- a pattern that brings the variables into scope, and no BIND
abbrev pub brings : List Name → Bool → Part
brings names keeps = record { names = names; bound = []; keeps = keeps }

abbrev pub brings_inner : List Name → Met → Part
brings_inner names inner = record { names = names ++ inner.names; bound = []; keeps = inner.keeps }

abbrev pub pattern_part : GraphPattern-F Part Met → Part
pattern_part (Triples triples) = brings (flat_map triple_variables triples) true
pattern_part (Union groups) = brings_inner [] (fold add_operand (after []) groups)
pattern_part (Optional group) = brings_inner [] group
pattern_part (Minus group) = record { names = []; bound = []; keeps = group.keeps }
pattern_part (Graph name group) = brings_inner (graph_variables name) group
pattern_part (Bind value variable) =
    record { names = variable.name ∷ []; bound = variable.name ∷ []; keeps = true }
pattern_part (Values table) = brings (column_names table) (is_table table)

abbrev pub group_parts : Group-F Part Met → Met
group_parts group = fold add_part (after []) group.patterns

-- the variables in scope of the group, and whether every BIND and VALUES in it keeps its rule
abbrev pub scope_of : Group → Met
scope_of = fold-Group Part Met pattern_part group_parts

-- what one pattern brings into scope, and whether it keeps the rules
abbrev pub scope_of_pattern : GraphPattern → Scope
scope_of_pattern = fold-GraphPattern Scope Scope pattern_scope group_scope

-- the same of one pattern, one after another
abbrev pub part : GraphPattern → Part
part = fold-GraphPattern Part Met pattern_part group_parts

-- the patterns of a group, and the operands of a UNION
abbrev pub parts : List GraphPattern → Met
parts patterns = fold add_part (after []) (map (λ p. part p) patterns)

abbrev pub operands : List Group → Met
operands groups = fold add_operand (after []) (map (λ g. scope_of g) groups)

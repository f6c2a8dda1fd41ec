-- The variables in scope of a group (SPARQL 1.1 Query, 18.2.1), and the rules of BIND (10.1, and
-- 19.8, note 12) and of VALUES. In scope are the variables of its triples, BIND, VALUES and GRAPH,
-- and those in scope of the groups under UNION, OPTIONAL, GRAPH and inner braces.
use Rattle.std.specs.Prelude.{Bool, true, ◌&&◌, not, List, [], ◌∷◌, ◌++◌}
use Rattle.std.specs.List.{list_all, flat_map}
use Rattle.qs_syntax_scope.specs.Names.{Name, contains}
use Rattle.qs_syntax_scope.specs.Variables.{triple_variables, graph_variables, column_names}
use Rattle.qs_syntax_scope.specs.Tables.{is_table}
use Rattle.qs_syntax_ast.specs.declared.term.Variable.{Variable}
use Rattle.qs_syntax_ast.specs.declared.pattern.Group.{Group, fold-Group}
use Rattle.qs_syntax_ast.specs.declared.pattern.GraphPattern.TheOpen.{Group-F, GraphPattern-F}
use Rattle.qs_syntax_ast.specs.declared.pattern.GraphPattern.TheOpen.{Triples, Union, Optional}
use Rattle.qs_syntax_ast.specs.declared.pattern.GraphPattern.TheOpen.{Minus, Graph, Bind, Values}

-- what a pattern or a group brings into scope, and whether each BIND and each VALUES in it keeps
-- its rule, where these names are in scope of the patterns of its group before it
pub record Scope : Type 0 where
  pub names : List Name
  pub keeps : List Name → Bool

-- whatever is before it
abbrev pub brings : List Name → Bool → Scope
brings names keeps = record { names = names; keeps = λ before. keeps }

-- a variable that is in scope from here on, and is not in scope before
abbrev pub binds : Variable → Scope
binds v = record { names = v.name ∷ []; keeps = λ before. not (contains before v.name) }

-- A group's filters bring nothing into scope, and neither does what stands after MINUS. A BIND's
-- variable is not in scope of the patterns of its group before it.
abbrev pub pattern_scope : GraphPattern-F Scope Scope → Scope
pattern_scope (Triples triples) = brings (flat_map triple_variables triples) true
pattern_scope (Union gs) = brings (flat_map (λ g. g.names) gs) (list_all (λ g. g.keeps []) gs)
pattern_scope (Optional group) = group
pattern_scope (Minus group) = brings [] (group.keeps [])
pattern_scope (Graph name group) = brings (graph_variables name ++ group.names) (group.keeps [])
pattern_scope (Bind value v) = binds v
pattern_scope (Values table) = brings (column_names table) (is_table table)

-- each of the patterns keeps the rules, where these names are in scope before them
abbrev pub all_keep : List Name → List Scope → Bool
all_keep before [] = true
all_keep before (p ∷ ps) = p.keeps before && all_keep (before ++ p.names) ps

abbrev pub group_scope : Group-F Scope Scope → Scope
group_scope group = brings (flat_map (λ p. p.names) group.patterns) (all_keep [] group.patterns)

abbrev pub scope : Group → Scope
scope = fold-Group Scope Scope pattern_scope group_scope

abbrev pub in_scope : Group → List Name
in_scope group = (scope group).names

-- each BIND and each VALUES, wherever it stands, keeps its rule
abbrev pub group_keeps : Group → Bool
group_keeps group = (scope group).keeps []

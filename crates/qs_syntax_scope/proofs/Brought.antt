-- What each kind of pattern brings into scope.
use Rattle.std.proofs.Common.{◌≡◌, List, [], ◌∷◌, ◌++◌, map, refl, sym, ap, ◌∙◌}
use Rattle.std.specs.List.{flat_map}
use Rattle.qs_syntax_ast.specs.declared.expression.Expression.{Expression}
use Rattle.qs_syntax_ast.specs.declared.term.Variable.{Variable}
use Rattle.qs_syntax_ast.specs.declared.term.VarOrIri.{VarOrIri}
use Rattle.qs_syntax_ast.specs.declared.pattern.Triple.{Triple}
use Rattle.qs_syntax_ast.specs.declared.pattern.InlineData.{InlineData}
use Rattle.qs_syntax_ast.specs.declared.pattern.Group.{Group}
use Rattle.qs_syntax_ast.specs.declared.pattern.GraphPattern.{fold-roll-GraphPattern}
use Rattle.qs_syntax_ast.specs.declared.pattern.GraphPattern.TheOpen as level
use Rattle.qs_syntax_ast.specs.declared.pattern.GraphPattern.TheVariants.{Triples, Union, Optional, Minus, Graph, Bind, Values, rolls-Triples, rolls-Union, rolls-Optional, rolls-Minus, rolls-Graph, rolls-Bind, rolls-Values}
use Rattle.qs_syntax_scope.specs.Scope.{Scope, scope, in_scope, pattern_scope, group_scope}
use Rattle.qs_syntax_scope.specs.inner.Scope.{scope_of_pattern}
use Rattle.qs_syntax_scope.specs.Variables.{triple_variables, graph_variables, column_names}

pub triples : (all : List Triple) → (scope_of_pattern (Triples all)).names ≡ flat_map triple_variables all
triples all = ap (λ p. (scope_of_pattern p).names) (sym (rolls-Triples all)) ∙ ap (λ (r : Scope). r.names) (fold-roll-GraphPattern Scope Scope pattern_scope group_scope (level.Triples all))

operands_names : (groups : List Group) → flat_map (λ (s : Scope). s.names) (map scope groups) ≡ flat_map in_scope groups
operands_names [] = refl
operands_names (g ∷ groups) = ap (λ l. in_scope g ++ l) (operands_names groups)

pub union : (groups : List Group) → (scope_of_pattern (Union groups)).names ≡ flat_map in_scope groups
union groups =
    ap (λ p. (scope_of_pattern p).names) (sym (rolls-Union groups))
    ∙ ap (λ (r : Scope). r.names) (fold-roll-GraphPattern Scope Scope pattern_scope group_scope (level.Union groups))
    ∙ operands_names groups

pub optional : (group : Group) → (scope_of_pattern (Optional group)).names ≡ in_scope group
optional group = ap (λ p. (scope_of_pattern p).names) (sym (rolls-Optional group)) ∙ ap (λ (r : Scope). r.names) (fold-roll-GraphPattern Scope Scope pattern_scope group_scope (level.Optional group))

pub minus : (group : Group) → (scope_of_pattern (Minus group)).names ≡ []
minus group = ap (λ p. (scope_of_pattern p).names) (sym (rolls-Minus group)) ∙ ap (λ (r : Scope). r.names) (fold-roll-GraphPattern Scope Scope pattern_scope group_scope (level.Minus group))

pub graph : (name : VarOrIri) (group : Group) → (scope_of_pattern (Graph name group)).names ≡ graph_variables name ++ in_scope group
graph name group = ap (λ p. (scope_of_pattern p).names) (sym (rolls-Graph name group)) ∙ ap (λ (r : Scope). r.names) (fold-roll-GraphPattern Scope Scope pattern_scope group_scope (level.Graph name group))

pub bind : (value : Expression) (variable : Variable) → (scope_of_pattern (Bind value variable)).names ≡ variable.name ∷ []
bind value variable = ap (λ p. (scope_of_pattern p).names) (sym (rolls-Bind value variable)) ∙ ap (λ (r : Scope). r.names) (fold-roll-GraphPattern Scope Scope pattern_scope group_scope (level.Bind value variable))

pub values : (table : InlineData) → (scope_of_pattern (Values table)).names ≡ column_names table
values table = ap (λ p. (scope_of_pattern p).names) (sym (rolls-Values table)) ∙ ap (λ (r : Scope). r.names) (fold-roll-GraphPattern Scope Scope pattern_scope group_scope (level.Values table))

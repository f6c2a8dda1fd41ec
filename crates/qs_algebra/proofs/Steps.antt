-- A union's operands are closed groups.
use Rattle.std.proofs.Common.{◌≡◌, List, [], ◌∷◌, map, refl, sym, ap, ◌∙◌}
use Rattle.qs_syntax_ast.specs.declared.pattern.Group.{Group}
use Rattle.qs_syntax_ast.specs.declared.pattern.GraphPattern.{GraphPattern, fold-roll-GraphPattern}
use Rattle.qs_syntax_ast.specs.declared.pattern.GraphPattern.TheOpen as level
use Rattle.qs_syntax_ast.specs.declared.pattern.GraphPattern.TheVariants.{Union, rolls-Union}
use Rattle.qs_algebra_patterns.specs.declared.pattern.PatternNode.{PatternNode}
use Rattle.qs_algebra_patterns.specs.declared.pattern.Step.{Step}
use Rattle.qs_algebra_patterns.specs.declared.pattern.Step.TheVariants.{Join}
use Rattle.qs_syntax_scope.specs.Names.{Name}
use Rattle.qs_algebra.specs.Translation.{one_or_union, closed, step_level, group_level, group_parts, group_pattern}
use Rattle.qs_algebra.specs.inner.Translation.{step_of}
use Rattle.qs_algebra.specs.declared.parts.GroupParts.{GroupParts}

each_closed : (names : List Name) (groups : List Group) → map closed (map (group_parts names) groups) ≡ map (group_pattern names) groups
each_closed names [] = refl
each_closed names (g ∷ groups) = ap (λ l. group_pattern names g ∷ l) (each_closed names groups)

union : (names : List Name) (groups : List Group) → step_of names (Union groups) ≡ Join (one_or_union (map (group_pattern names) groups))
union names groups =
    ap (step_of names) (sym (rolls-Union groups))
    ∙ (fold-roll-GraphPattern Step GroupParts (step_level names) (group_level names) (level.Union groups) ∙ ap (λ ps. Join (one_or_union ps)) (each_closed names groups))

pub union_found : (names : List Name) (p : GraphPattern) (groups gs : List Group) (parts : List PatternNode) → p ≡ Union groups → gs ≡ groups → parts ≡ map (group_pattern names) gs → Join (one_or_union parts) ≡ step_of names p
union_found names p groups gs parts is e h =
    ap (λ ps. Join (one_or_union ps)) (h ∙ ap (map (group_pattern names)) e) ∙ sym (ap (step_of names) is ∙ union names groups)

-- Which stages are unions, and how deep groups are nested in a stage.
use Rattle.std.proofs.Common.{rules, ◌≡◌, ℕ, ◌+◌, Bool, true, List, [], ◌∷◌, map, Option, refl, sym, ◌∙◌, ap}
use Rattle.qs_expr_meaning.specs.declared.expr.Expr.{Expr}
use Rattle.qs_plan_meaning.specs.declared.stage.Group.{Group, fold-Group, the_lemmas as group_lemmas}
use Rattle.qs_plan_meaning.specs.declared.stage.Stage.{fold-roll-Stage, the_lemmas}
use Rattle.qs_plan_meaning.specs.declared.stage.Stage.TheOpen as level
use Rattle.qs_plan_meaning.specs.declared.stage.Stage.TheVariants.{Union, Optional, Fed, Minus, Apart, rolls-Union, rolls-Optional, rolls-Fed, rolls-Minus, rolls-Apart}
use Rattle.qs_ops_program.specs.inner.Flow.{is_union_level, is_union_group, is_union}
use Rattle.qs_ops_program.specs.inner.Heights.{most, height_level, group_height_level, stage_height, stages_height}

pub union_is_union : (branches : List Group) → is_union (Union branches) ≡ true
union_is_union branches = ap is_union (sym (rolls-Union branches)) ∙ fold-roll-Stage Bool Bool is_union_level is_union_group (level.Union branches)

-- ---- heights

group_height : (group : Group) → fold-Group ℕ ℕ height_level group_height_level group ≡ stages_height group.stages
group_height group = search (rules, the_lemmas, group_lemmas)

pub union_height : (branches : List Group) → stage_height (Union branches) ≡ most (map (λ (g : Group). stages_height g.stages) branches)
union_height branches = ap stage_height (sym (rolls-Union branches)) ∙ (fold-roll-Stage ℕ ℕ height_level group_height_level (level.Union branches) ∙ ap most (each branches))
  where
    each : (bs : List Group) → map (fold-Group ℕ ℕ height_level group_height_level) bs ≡ map (λ (g : Group). stages_height g.stages) bs
    each [] = refl
    each (b ∷ bs) = ap (λ n. n ∷ map (fold-Group ℕ ℕ height_level group_height_level) bs) (group_height b) ∙ ap (λ ns. stages_height b.stages ∷ ns) (each bs)

pub optional_height : (r : Option ℕ) (group : Group) (conditions : List Expr) → stage_height (Optional r group conditions) ≡ 1 + stages_height group.stages
optional_height r group conditions =
    ap stage_height (sym (rolls-Optional r group conditions))
    ∙ (fold-roll-Stage ℕ ℕ height_level group_height_level (level.Optional r group conditions) ∙ ap (λ n. 1 + n) (group_height group))

pub fed_height : (group : Group) (conditions : List Expr) → stage_height (Fed group conditions) ≡ 1 + stages_height group.stages
fed_height group conditions =
    ap stage_height (sym (rolls-Fed group conditions))
    ∙ (fold-roll-Stage ℕ ℕ height_level group_height_level (level.Fed group conditions) ∙ ap (λ n. 1 + n) (group_height group))

pub minus_height : (r : Option ℕ) (group : Group) → stage_height (Minus r group) ≡ 1 + stages_height group.stages
minus_height r group =
    ap stage_height (sym (rolls-Minus r group)) ∙ (fold-roll-Stage ℕ ℕ height_level group_height_level (level.Minus r group) ∙ ap (λ n. 1 + n) (group_height group))

pub apart_height : (r : Option ℕ) (group : Group) → stage_height (Apart r group) ≡ 1 + stages_height group.stages
apart_height r group =
    ap stage_height (sym (rolls-Apart r group)) ∙ (fold-roll-Stage ℕ ℕ height_level group_height_level (level.Apart r group) ∙ ap (λ n. 1 + n) (group_height group))

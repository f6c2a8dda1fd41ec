-- An OPTIONAL whose group is fed each row: the stages of a pattern make of a row its merges with the pattern's solutions, and to merge the row
-- into them once more changes nothing.
use Rattle.std.proofs.Common.{◌≡◌, ℕ, ◌≤◌, Bool, true, false, List, [], ◌∷◌, map, take, length, Option, Some, None, refl, sym, ◌∙◌, ap, subst, arith, append-nil}
use Rattle.std.specs.List.{AllByRecursion, filter}
use Rattle.qs_terms.specs.Statement.{Statement}
use Rattle.qs_terms.specs.Term.{same_term}
use Rattle.qs_terms.specs.declared.term.Term.{Term}
use Rattle.qs_terms.proofs.SameTerm.{same_term-Decides}
use Rattle.qs_expr_meaning.specs.declared.expr.Expr.{Expr}
use Rattle.qs_algebra_solutions.specs.Solution.{Solution, compatible, compatible_terms, merge}
use Rattle.qs_algebra_solutions.specs.inner.Solution.{first_bound}
use Rattle.qs_algebra_solutions.specs.Operators.{merges, or_alone}
use Rattle.qs_algebra_patterns.specs.Basic.{Graph as Triples}
use Rattle.qs_algebra_patterns.specs.Eval.{eval, all_hold}
use Rattle.qs_algebra_patterns.specs.declared.pattern.PatternNode.{PatternNode}
use Rattle.qs_algebra_patterns.specs.declared.pattern.Step.TheVariants as one
use Rattle.qs_algebra_patterns.proofs.Meaning.{step_left_join}
use Rattle.qs_plan_meaning.specs.declared.stage.Look.{Look}
use Rattle.qs_plan_meaning.specs.declared.stage.Stage.{Stage}
use Rattle.qs_plan_meaning.specs.declared.stage.Stage.TheVariants as stage
use Rattle.qs_plan_meaning.specs.inner.Stages.{looked, fed_rows, through}
use Rattle.qs_plan.specs.inner.Lays.{Ready, After, Lays, LaysStep, joined_with, stepped}
use Rattle.qs_plan.proofs.Commutes.{all_map}
use Rattle.qs_plan.proofs.Laying.{between, stage_lays, merges_after, alone_take, filter_take, alone_after, left_join_linear}
use Rattle.qs_plan.proofs.Levels.{gives_fed}
use Rattle.qs_plan.proofs.Operators.{filter_same, merges_same, alone_same}
use Rattle.qs_plan.proofs.RunStages.{after_refl}
use Rattle.qs_plan.proofs.Widths.{all_filter, short_merges, taken_short}

-- ---- merging twice

same_self : (t : Term) → same_term t t ≡ true
same_self t = (same_term-Decides t t).1 refl

self_terms : (c : Option Term) → compatible_terms c c ≡ true
self_terms None = refl
self_terms (Some t) = same_self t

self_compatible : (a : Solution) → compatible a a ≡ true
self_compatible [] = refl
self_compatible (c ∷ a) = rw (self_terms c) (self_compatible a)

first_terms : (c y : Option Term) → compatible_terms c (first_bound c y) ≡ true
first_terms None y = refl
first_terms (Some t) y = same_self t

merge_compatible : (a x : Solution) → compatible a (merge a x) ≡ true
merge_compatible [] x = refl
merge_compatible (c ∷ a) [] = self_compatible (c ∷ a)
merge_compatible (c ∷ a) (y ∷ x) = rw (first_terms c y) (merge_compatible a x)

first_self : (c : Option Term) → first_bound c c ≡ c
first_self None = refl
first_self (Some t) = refl

first_again : (c y : Option Term) → first_bound c (first_bound c y) ≡ first_bound c y
first_again None y = refl
first_again (Some t) y = refl

merge_self : (a : Solution) → merge a a ≡ a
merge_self [] = refl
merge_self (c ∷ a) = ap (λ d. d ∷ merge a a) (first_self c) ∙ ap (λ l. c ∷ l) (merge_self a)

merge_again : (a x : Solution) → merge a (merge a x) ≡ merge a x
merge_again [] x = refl
merge_again (c ∷ a) [] = merge_self (c ∷ a)
merge_again (c ∷ a) (y ∷ x) = ap (λ d. d ∷ merge a (merge a x)) (first_again c y) ∙ ap (λ l. first_bound c y ∷ l) (merge_again a x)

merged_again : (a : Solution) (xs : List Solution) → merges (map (merge a) xs) a ≡ map (merge a) xs
merged_again a [] = refl
merged_again a (x ∷ xs) =
    let c : compatible a (merge a x) ≡ true = merge_compatible a x in
    simp c (ap (λ y. y ∷ merges (map (merge a) xs) a) (merge_again a x) ∙ ap (λ l. merge a x ∷ l) (merged_again a xs))

pub merges_again : (xs : List Solution) (a : Solution) → merges (merges xs a) a ≡ merges xs a
merges_again xs a = merged_again a (filter (compatible a) xs)

-- ---- the stage

module _ (width : ℕ) (place : Look) (from next : ℕ) (ss : List Stage) (part : PatternNode) (l : Lays false width place from next ss (joined_with width part)) (first : Bool) where
  any_ready : (m : Solution) → Ready width first from next m → Ready width false from next m
  any_ready m r = record { wide = r.wide; short = r.short; free = r.free; start = λ h. (let g : false ≡ true = h in cc) }

  fed_short : (quads : List Statement) (active : Triples) (m : Solution) → AllByRecursion (λ x. length x ≤ width) (fed_rows width (through width quads active ss) m)
  fed_short quads active m = taken_short width (through width quads active ss m)

  fed_after : (quads : List Statement) (active : Triples) (m : Solution) → Ready width first from next m → AllByRecursion (After width from next m) (merges (fed_rows width (through width quads active ss) m) m)
  fed_after quads active m r =
      all_map (After width from from m) (After width from next m) (λ q a. record { wide = a.wide; free = λ v h. a.free v (omega (arith, h, l.up)); kept = a.kept }) (merges (fed_rows width (through width quads active ss) m) m)
      (merges_after width from l.named m (omega (arith, l.up, r.wide)) r.free (fed_rows width (through width quads active ss) m) (fed_short quads active m))

  fed_lays : (conditions : List Expr) → Lays first width place from next (stage.Fed (record { stages = ss }) conditions ∷ []) (stepped width (one.LeftJoin part conditions))
  fed_lays conditions =
      stage_lays first width place from next l.named l.up (stage.Fed (record { stages = ss }) conditions) (stepped width (one.LeftJoin part conditions))
      (λ quads active m r. subst (AllByRecursion (After width from next m)) (sym (gives_fed width quads active m (record { stages = ss }) conditions))
      (alone_after (After width from next m) m _ (after_refl width from next m (λ v h. r.free v (omega (arith, h, l.up))))
      (all_filter (After width from next m) (λ n. all_hold conditions (take width n)) (merges (fed_rows width (through width quads active ss) m) m) (fed_after quads active m r))))
      (λ quads active d e m r.
      (let graph = looked quads active place m in
      let a = take width m in
      let xs = fed_rows width (through width quads active ss) m in
      let ys = eval width quads part graph in
      between _ (or_alone a (filter (all_hold conditions) (merges xs a))) _ (or_alone a (filter (all_hold conditions) (merges (merges ys a) a)))
      (ap (map (take width)) (gives_fed width quads active m (record { stages = ss }) conditions)
      ∙ (alone_take width m (filter (λ n. all_hold conditions (take width n)) (merges xs m))
      ∙ (ap (or_alone a) (filter_take width (all_hold conditions) (merges xs m)) ∙ ap (λ zs. or_alone a (filter (all_hold conditions) zs)) (short_merges width xs m (fed_short quads active m)))))
      (alone_same a _ _ (filter_same (all_hold conditions) _ _ (merges_same xs (merges ys a) a (l.bag quads active d e m (any_ready m r)))))
      (ap (λ zs. or_alone a (filter (all_hold conditions) zs)) (merges_again ys a)
      ∙ sym (step_left_join width quads graph part conditions (a ∷ []) ∙ append-nil (or_alone a (filter (all_hold conditions) (merges ys a)))))))

  pub fed_step : (conditions : List Expr) → LaysStep first width place from next (stage.Fed (record { stages = ss }) conditions ∷ []) (one.LeftJoin part conditions)
  fed_step conditions = record { lays = fed_lays conditions; linear = left_join_linear width part conditions }

-- The arms of the functions that lay stages which are fed rows.
use Rattle.std.proofs.Common.{◌≡◌, ℕ, ◌+◌, ◌≤◌, ◌<◌, List, [], ◌∷◌, ◌++◌, map, take, drop, length, get_or, arith, false, refl, sym, ◌∙◌, ap, subst}
use Rattle.std.specs.List.{AllByRecursion}
use Rattle.std.proofs.lemmas.List.{take_more, take_all, drop_all, drop-append-le, length-take-le}
use Rattle.qs_expr_meaning.specs.declared.expr.Expr.{Expr}
use Rattle.qs_algebra_patterns.specs.declared.pattern.PatternNode.{PatternNode}
use Rattle.qs_algebra_patterns.specs.declared.pattern.PatternNode.TheVariants as pattern
use Rattle.qs_algebra_patterns.specs.declared.pattern.Step.{Step}
use Rattle.qs_algebra_patterns.specs.declared.pattern.Step.TheVariants as one
use Rattle.qs_plan.specs.declared.certain.Size.{Size}
use Rattle.qs_plan_meaning.specs.declared.stage.Look.{Look}
use Rattle.qs_plan_meaning.specs.declared.stage.Stage.{Stage}
use Rattle.qs_plan_meaning.specs.declared.stage.Stage.TheVariants as stage
use Rattle.qs_plan.specs.inner.Feeds.{Asks, Sees, Feeds, FeedsNext, LaysNext, LaysRest, solutions_of, after_steps}
use Rattle.qs_plan.specs.inner.Fixes.{Found}
use Rattle.qs_plan.specs.inner.Lays.{Within, Lays, joined_with}
use Rattle.qs_plan.specs.inner.Reads.{LeaveAll}
use Rattle.qs_plan.proofs.Fed.{feeds_join, feeds_left, feeds_group, feeds_nothing, next_fed, rest_none, rest_more}
use Rattle.qs_plan.proofs.Laying.{within_more}

-- ---- a group that comes first

module _ (width : ℕ) (place : Look) (mid next : ℕ) (before ss : List Stage) where
  pub next_as : (s t : Step) → s ≡ t → LaysNext width place mid next before ss t → LaysNext width place mid next before ss s
  next_as s t e k = subst (LaysNext width place mid next before ss) (sym e) k

  pub next_left : (s : Step) (part : PatternNode) (conditions cs : List Expr) → s ≡ one.LeftJoin part conditions → cs ≡ conditions → LaysNext width place mid next before ss (one.LeftJoin part cs) → LaysNext width place mid next before ss s
  next_left s part conditions cs is same k = next_as s (one.LeftJoin part conditions) is (subst (λ (xs : List Expr). LaysNext width place mid next before ss (one.LeftJoin part xs)) same k)

  pub next_fed_at : (needs slice : List ℕ) (inner : ℕ) (ts : List Stage) (part : PatternNode) (conditions : List Expr) → Feeds needs width place mid inner ts (solutions_of width part) → slice ≡ needs → AllByRecursion (λ v. LeaveAll v before) slice
      → (ss ≡ stage.Fed (record { stages = ts }) conditions ∷ []) × (next ≡ inner) → LaysNext width place mid next before ss (one.LeftJoin part conditions)
  next_fed_at needs slice inner ts part conditions fed same left e =
      subst (λ (n : ℕ). LaysNext width place mid n before ss (one.LeftJoin part conditions)) (sym e.1)
      (subst (λ (xs : List Stage). LaysNext width place mid inner before xs (one.LeftJoin part conditions)) (sym e.0)
      (next_fed width place mid inner before needs ts part conditions fed (subst (AllByRecursion (λ v. LeaveAll v before)) same left)))

range_more : (start i : ℕ) (steps : List Step) (s : Step) → start ≤ i → i < length steps → s ≡ get_or steps i s → drop start (take i steps) ++ s ∷ [] ≡ drop start (take (i + 1) steps)
range_more start i steps s le lt is =
    sym (drop-append-le start (take i steps) (s ∷ []) (omega (arith, length-take-le i steps (omega (arith, lt)), le)))
    ∙ ap (drop start) (sym (take_more steps i s lt ∙ ap (λ x. take i steps ++ x ∷ []) (sym is)))

pub rest_step : (width : ℕ) (place : Look) (mid next past : ℕ) (before all slice more new : List Stage) (steps : List Step) (start i : ℕ) (s : Step) → start ≤ i → i < length steps → s ≡ get_or steps i s → slice ≡ all → new ≡ all ++ more
    → LaysRest width place mid next before all (drop start (take i steps)) → LaysNext width place next past slice more s → LaysRest width place mid past before new (drop start (take (i + 1) steps))
rest_step width place mid next past before all slice more new steps start i s le lt is same e h k =
    subst (λ (done : List Step). LaysRest width place mid past before new done) (range_more start i steps s le lt is)
    (rest_more width place mid next past before all more new (drop start (take i steps)) s h (subst (λ (xs : List Stage). LaysNext width place next past xs more s) same k) e)

pub rest_init : (width : ℕ) (place : Look) (mid : ℕ) (before : List Stage) (steps : List Step) (start : ℕ) → start ≤ length steps → LaysRest width place mid mid before before (drop start (take start steps))
rest_init width place mid before steps start le =
    subst (λ (done : List Step). LaysRest width place mid mid before before done) (sym (drop_all start (take start steps) (omega (arith, length-take-le start steps le)))) (rest_none width place mid before)

pub rest_ended : (width : ℕ) (place : Look) (mid next : ℕ) (before all : List Stage) (steps : List Step) (start i : ℕ) → length steps ≤ i → LaysRest width place mid next before all (drop start (take i steps)) → LaysRest width place mid next before all (drop start steps)
rest_ended width place mid next before all steps start i le h = subst (λ (xs : List Step). LaysRest width place mid next before all (drop start xs)) (take_all i steps le) h

-- ---- a group that is fed

pub feeds_as : (needs : List ℕ) (width : ℕ) (place : Look) (from next : ℕ) (ss : List Stage) (p q : PatternNode) → p ≡ q → Feeds needs width place from next ss (solutions_of width q) → Feeds needs width place from next ss (solutions_of width p)
feeds_as needs width place from next ss p q e k = subst (λ (x : PatternNode). Feeds needs width place from next ss (solutions_of width x)) (sym e) k

pub feeds_of_group : (needs : List ℕ) (width : ℕ) (place : Look) (from next : ℕ) (ss : List Stage) (p : PatternNode) (steps steps' : List Step) (conditions conditions' : List Expr) → p ≡ pattern.Group steps conditions → steps' ≡ steps → conditions' ≡ conditions
    → Feeds needs width place from next ss (solutions_of width (pattern.Group steps' conditions')) → Feeds needs width place from next ss (solutions_of width p)
feeds_of_group needs width place from next ss p steps steps' conditions conditions' is e f k =
    feeds_as needs width place from next ss p (pattern.Group steps' conditions') (is ∙ (ap (λ xs. pattern.Group xs conditions) (sym e) ∙ ap (pattern.Group steps') (sym f))) k

pub feeds_init : (needs : List ℕ) (width : ℕ) (place : Look) (from : ℕ) (stages : List Stage) (steps : List Step) → width ≤ from → stages ≡ [] → needs ≡ [] → Feeds needs width place from from stages (after_steps width (take 0 steps))
feeds_init needs width place from stages steps named e f =
    subst (λ (ns : List ℕ). Feeds ns width place from from stages (after_steps width [])) (sym f) (subst (λ (ss : List Stage). Feeds [] width place from from ss (after_steps width [])) (sym e) (feeds_nothing width place from named))

pub feeds_step : (old new : List ℕ) (width : ℕ) (place : Look) (from mid next : ℕ) (before slice more all : List Stage) (steps : List Step) (i : ℕ) (s : Step) → Within width from place → i < length steps → s ≡ get_or steps i s → slice ≡ before → all ≡ before ++ more
    → Feeds old width place from mid before (after_steps width (take i steps)) → FeedsNext old new width place mid next slice more s → Feeds new width place from next all (after_steps width (take (i + 1) steps))
feeds_step old new width place from mid next before slice more all steps i s within lt is same e h k =
    subst (λ (done : List Step). Feeds new width place from next all (after_steps width done)) (sym (take_more steps i s lt ∙ ap (λ x. take i steps ++ x ∷ []) (sym is)))
    (subst (λ (xs : List Stage). Feeds new width place from next xs (after_steps width (take i steps ++ s ∷ []))) (sym e)
    ((subst (λ (xs : List Stage). FeedsNext old new width place mid next xs more s) same k).follows from (take i steps) within h))

pub feeds_ended : (needs : List ℕ) (width : ℕ) (place : Look) (from next : ℕ) (ss : List Stage) (steps : List Step) (i : ℕ) → length steps ≤ i → Feeds needs width place from next ss (after_steps width (take i steps)) → Feeds needs width place from next ss (after_steps width steps)
feeds_ended needs width place from next ss steps i le h = subst (λ (done : List Step). Feeds needs width place from next ss (after_steps width done)) (take_all i steps le) h

pub feeds_conditions : (old new : List ℕ) (width : ℕ) (place : Look) (from mid next : ℕ) (ss slice all : List Stage) (steps : List Step) (conditions : List Expr) → Within width from place → Feeds old width place from mid ss (after_steps width steps) → slice ≡ ss
    → Asks (record { width = width; cells = mid }) slice conditions old new → (all ≡ ss ++ map stage.Filter conditions) × (next ≡ mid) → Feeds new width place from next all (solutions_of width (pattern.Group steps conditions))
feeds_conditions old new width place from mid next ss slice all steps conditions within fed same asked e =
    let asks : Asks (record { width = width; cells = mid }) ss conditions old new = subst (λ (xs : List Stage). Asks (record { width = width; cells = mid }) xs conditions old new) same asked in
    subst (λ (n : ℕ). Feeds new width place from n all (solutions_of width (pattern.Group steps conditions))) (sym e.1)
    (feeds_group old new width place from mid ss all steps conditions fed within asks.covers asks.variables asks.settled asks.met e.0)

module _ (width : ℕ) (place : Look) (mid next : ℕ) (before ss : List Stage) (old new : List ℕ) where
  pub fed_as : (s t : Step) → s ≡ t → FeedsNext old new width place mid next before ss t → FeedsNext old new width place mid next before ss s
  fed_as s t e k = subst (FeedsNext old new width place mid next before ss) (sym e) k

  pub fed_left : (s : Step) (part : PatternNode) (conditions cs : List Expr) → s ≡ one.LeftJoin part conditions → cs ≡ conditions → FeedsNext old new width place mid next before ss (one.LeftJoin part cs) → FeedsNext old new width place mid next before ss s
  fed_left s part conditions cs is same k = fed_as s (one.LeftJoin part conditions) is (subst (λ (xs : List Expr). FeedsNext old new width place mid next before ss (one.LeftJoin part xs)) same k)

  pub feeds_optional : (inner slice : List ℕ) (end : ℕ) (ts own : List Stage) (part : PatternNode) (conditions : List Expr) → Feeds inner width place mid end ts (solutions_of width part) → slice ≡ inner → own ≡ ts → AllByRecursion (λ v. LeaveAll v before) slice
      → Sees (record { width = width; cells = mid }) before own conditions slice old new → (ss ≡ stage.Fed (record { stages = ts }) conditions ∷ []) × (next ≡ end) → FeedsNext old new width place mid next before ss (one.LeftJoin part conditions)
  feeds_optional inner slice end ts own part conditions fed same is left seen e =
      let sees : Sees (record { width = width; cells = mid }) before ts conditions inner old new =
      subst (λ (xs : List Stage). Sees (record { width = width; cells = mid }) before xs conditions inner old new) is (subst (λ (vs : List ℕ). Sees (record { width = width; cells = mid }) before own conditions vs old new) same seen) in
      subst (λ (n : ℕ). FeedsNext old new width place mid n before ss (one.LeftJoin part conditions)) (sym e.1)
      (subst (λ (xs : List Stage). FeedsNext old new width place mid end before xs (one.LeftJoin part conditions)) (sym e.0)
      (feeds_left width place mid end before ts old inner new part conditions fed sees.covers sees.more (subst (AllByRecursion (λ v. LeaveAll v before)) same left) sees.touched sees.asks.variables sees.touches sees.asks.settled sees.met sees.asks.met))

pub feeds_one : (width : ℕ) (place : Look) (mid next : ℕ) (before ss : List Stage) (needs : List ℕ) (s : Step) (part : PatternNode) → s ≡ one.Join part → Lays false width place mid next ss (joined_with width part) → FeedsNext needs needs width place mid next before ss s
feeds_one width place mid next before ss needs s part is l = fed_as width place mid next before ss needs needs s (one.Join part) is (feeds_join width place mid next before ss needs part l)

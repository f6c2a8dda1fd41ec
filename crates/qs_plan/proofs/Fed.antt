-- Stages that are fed rows of which they need that some variables are not bound.
use Rattle.std.proofs.Common.{◌≡◌, ◌⊎◌, inl, inr, ◌==◌, ℕ, ◌≤◌, ◌<◌, Bool, true, false, List, [], ◌∷◌, ◌++◌, map, take, length, get_or, Option, None, IsSome, refl, sym, ◌∙◌, ap, subst, arith, append-nil, cond}
use Rattle.std.specs.List.{AllByRecursion, filter, flat_map, fold, list_any}
use Rattle.std.proofs.lemmas.Bool.{cases_lt}
use Rattle.std.proofs.lemmas.List.{get_or-take}
use Rattle.std.proofs.lemmas.List.Folds.{flat_map-map}
use Rattle.std.proofs.lemmas.List.Sorted.{IsPermutation-refl, IsPermutation-trans, IsPermutation-append}
use Rattle.qs_terms.specs.Bag.{Distinct, SameBag}
use Rattle.qs_terms.specs.Dataset.{same_triple}
use Rattle.qs_terms.specs.Statement.{Statement, same_statement}
use Rattle.qs_expr_meaning.specs.declared.expr.Expr.{Expr}
use Rattle.qs_algebra_solutions.specs.Solution.{Solution, term_at, unbound, compatible, merge}
use Rattle.qs_algebra_solutions.specs.inner.Solution.{first_bound}
use Rattle.qs_algebra_solutions.specs.Operators.{merges, or_alone}
use Rattle.qs_algebra_patterns.specs.Basic.{Graph as Triples}
use Rattle.qs_algebra_patterns.specs.Eval.{eval, all_hold}
use Rattle.qs_algebra_patterns.specs.inner.Eval.{kept, step}
use Rattle.qs_algebra_patterns.specs.declared.pattern.PatternNode.{PatternNode}
use Rattle.qs_algebra_patterns.specs.declared.pattern.PatternNode.TheVariants as pattern
use Rattle.qs_algebra_patterns.specs.declared.pattern.Step.{Step}
use Rattle.qs_algebra_patterns.specs.declared.pattern.Step.TheVariants as one
use Rattle.qs_algebra_patterns.proofs.Meaning.{eval_group, step_join, step_left_join}
use Rattle.qs_plan.specs.declared.certain.Size.{Size}
use Rattle.qs_plan_meaning.specs.declared.stage.Look.{Look}
use Rattle.qs_plan_meaning.specs.declared.stage.Stage.{Stage}
use Rattle.qs_plan_meaning.specs.declared.stage.Stage.TheVariants as stage
use Rattle.qs_plan_meaning.specs.inner.Stages.{Made, looked, fed_rows, only, register_of, gives, through}
use Rattle.qs_plan.specs.inner.Certain.{Bound, Binds}
use Rattle.qs_plan.specs.inner.Feeds.{Lacks, Covers, Missing, Met, Touches, LaysIf, Feeds, FeedsNext, LaysNext, LaysRest, solutions_of, after_steps}
use Rattle.qs_plan.specs.inner.Fixes.{Found, AreWide, joined_to}
use Rattle.qs_plan.specs.inner.Lays.{Ready, After, Within, Makes, Lays, LaysStep, joined_with, stepped, all_stepped, all_kept}
use Rattle.qs_plan.specs.inner.Reads.{Agree, Settles, LeaveAll}
use Rattle.qs_plan.proofs.Arms.{filters_arm}
use Rattle.qs_plan.proofs.Commutes.{Commutes, all_map, each, flat_flat, merges_joined}
use Rattle.qs_plan.proofs.Entering.{merged_alike}
use Rattle.qs_plan.proofs.Feeding.{merges_again}
use Rattle.qs_plan.proofs.Fixing.{permuted, ready_any, linear}
use Rattle.qs_plan.proofs.Laying.{Begins, between, then_made, then_lays, lays_as, nothing_lays, merges_after, alone_take, filter_take, alone_after, only_ready, only_looked, within_more}
use Rattle.qs_plan.proofs.Leaving.{all_agree, taken_agree}
use Rattle.qs_plan.proofs.Levels.{flat_ap, gives_fed, map_flat, through_append, through_one}
use Rattle.qs_plan.proofs.Nested.{BindsOnly, left_commutes, kept_commutes}
use Rattle.qs_plan.proofs.Operators.{filter_same, flat_map_same, merges_same, alone_same}
use Rattle.qs_plan.proofs.RunStages.{after_refl, looked_same}
use Rattle.qs_plan.proofs.Widths.{IsWide, all_of, all_filter, all_flat, all_mapped, merge_at, merges_unbound, past_end, unbound_compatible, unbound_merge, short_merges, taken_short, unbound_at, eval_wide}

-- ---- lists and rows

-- the same bag of each of them
flat_each : (P : Solution → Type 0) (f g : Made) → ((x : Solution) → P x → SameBag (f x) (g x)) → (xs : List Solution) → AllByRecursion P xs → SameBag (flat_map f xs) (flat_map g xs)
flat_each P f g h [] k = IsPermutation-refl []
flat_each P f g h (x ∷ xs) k = IsPermutation-append (f x) (g x) (flat_map f xs) (flat_map g xs) (h x k.0) (flat_each P f g h xs k.1)

all_both : (P Q : Solution → Type 0) (xs : List Solution) → AllByRecursion P xs → AllByRecursion Q xs → AllByRecursion (λ r. P r × Q r) xs
all_both P Q [] h k = tt
all_both P Q (x ∷ xs) h k = ((h.0, k.0), all_both P Q xs h.1 k.1)

after_trans : (width from mid next : ℕ) (m r q : Solution) → from ≤ mid → After width from mid m r → After width mid next r q → After width from next m q
after_trans width from mid next m r q le a b = record {
  wide = b.wide ∙ a.wide;
  free = b.free;
  kept = λ v h k. b.kept v h (omega (arith, k, le)) ∙ a.kept v h k;
}

ready_less : (width : ℕ) (first : Bool) (from mid next : ℕ) (m : Solution) → mid ≤ next → Ready width first from next m → Ready width first from mid m
ready_less width first from mid next m le r = record { wide = omega (arith, r.wide, le); short = r.short; free = r.free; start = r.start }

fold_last : (f : List Solution → Step → List Solution) (first : List Solution) (ss : List Step) (s : Step) → fold f first (ss ++ s ∷ []) ≡ f (fold f first ss) s
fold_last f first [] s = refl
fold_last f first (t ∷ ss) s = fold_last f (f first t) ss s

unit_merges : (width : ℕ) (a : Solution) → IsWide width a → merges (unbound width ∷ []) a ≡ a ∷ []
unit_merges width a w =
    let c : compatible a (unbound width) ≡ true = unbound_compatible width a in
    simp c (ap (λ x. x ∷ []) (ap (λ n. merge a (unbound n)) (sym w) ∙ unbound_merge a))

-- ---- laws that hold for some rows

-- one part, and another after it
module _ (Q P : Solution → Type 0) (width : ℕ) (place : Look) (from mid next : ℕ) (ss ts : List Stage) (f g : Makes) (within : Within width from place) (a : LaysIf Q width place from mid ss f) (b : LaysIf P width place mid next ts g) (keep : (quads : List Statement) (active : Triples) (m : Solution) → Ready width false from next m → Q (take width m) → AllByRecursion (λ r. P (take width r)) (through width quads active ss m)) where
  abbrev Fine : Solution → Solution → Type 0
  Fine m r = After width from mid m r × P (take width r)

  ready_first : (m : Solution) → Ready width false from next m → Ready width false from mid m
  ready_first m r = ready_less width false from mid next m b.up r

  fine : (quads : List Statement) (active : Triples) (m : Solution) → Ready width false from next m → Q (take width m) → AllByRecursion (Fine m) (through width quads active ss m)
  fine quads active m r q =
      all_both (After width from mid m) (λ x. P (take width x)) (through width quads active ss m) (a.after quads active m (ready_first m r) q) (keep quads active m r q)

  ready_second : (m r : Solution) → Ready width false from next m → Fine m r → Ready width false mid next r
  ready_second m r w h = record { wide = omega (arith, w.wide, h.0.wide); short = omega (arith, w.short, h.0.wide); free = h.0.free; start = λ k. (let z : false ≡ true = k in cc) }

  then_rows : (quads : List Statement) (active : Triples) → Distinct same_statement quads → Distinct same_triple active → (m : Solution) → Ready width false from next m → Q (take width m)
      → SameBag (map (take width) (through width quads active (ss ++ ts) m)) (flat_map (g quads (looked quads active place m)) (map (take width) (through width quads active ss m)))
  then_rows quads active d e m r q =
      let graph = looked quads active place m in
      let rows = through width quads active ss m in
      between _ (flat_map (λ x. map (take width) (through width quads active ts x)) rows) _ (flat_map (λ x. g quads graph (take width x)) rows)
      (ap (map (take width)) (through_append width quads active ss ts m) ∙ map_flat (take width) (through width quads active ts) rows)
      (flat_each (Fine m) (λ x. map (take width) (through width quads active ts x)) (λ x. g quads graph (take width x))
      (λ x h. subst (λ (l : Triples). SameBag (map (take width) (through width quads active ts x)) (g quads l (take width x))) (looked_same width from quads active place m x within h.0.kept)
      (b.bag quads active d e x (ready_second m x r h) h.1))
      rows (fine quads active m r q))
      (sym (flat_map-map (g quads graph) (take width) rows))

  then_bag : (quads : List Statement) (active : Triples) → Distinct same_statement quads → Distinct same_triple active → (m : Solution) → Ready width false from next m → Q (take width m)
      → SameBag (map (take width) (through width quads active (ss ++ ts) m)) (then_made f g quads (looked quads active place m) (take width m))
  then_bag quads active d e m r q =
      let graph = looked quads active place m in
      IsPermutation-trans _ _ _ (then_rows quads active d e m r q)
      (flat_map_same (g quads graph) (g quads graph) (map (take width) (through width quads active ss m)) (f quads graph (take width m)) (a.bag quads active d e m (ready_first m r) q) (λ x. IsPermutation-refl (g quads graph x)))

  then_after : (quads : List Statement) (active : Triples) (m : Solution) → Ready width false from next m → Q (take width m) → AllByRecursion (After width from next m) (through width quads active (ss ++ ts) m)
  then_after quads active m r q =
      subst (AllByRecursion (After width from next m)) (sym (through_append width quads active ss ts m))
      (all_flat (Fine m) (After width from next m) (through width quads active ts)
      (λ x h. all_map (After width mid next x) (After width from next m) (λ z k. after_trans width from mid next m x z a.up h.0 k) (through width quads active ts x) (b.after quads active x (ready_second m x r h) h.1))
      (through width quads active ss m) (fine quads active m r q))

  then_if : LaysIf Q width place from next (ss ++ ts) (then_made f g)
  then_if = record { named = a.named; up = omega (arith, a.up, b.up); bag = then_bag; after = then_after }

module _ (width : ℕ) (place : Look) (from next : ℕ) (ss : List Stage) where
  if_any : (Q : Solution → Type 0) (f : Makes) → Lays false width place from next ss f → LaysIf Q width place from next ss f
  if_any Q f l = record { named = l.named; up = l.up; bag = λ quads active d e m r q. l.bag quads active d e m r; after = λ quads active m r q. l.after quads active m r }

  if_stronger : (Q R : Solution → Type 0) (f : Makes) → ((a : Solution) → R a → Q a) → LaysIf Q width place from next ss f → LaysIf R width place from next ss f
  if_stronger Q R f h l = record { named = l.named; up = l.up; bag = λ quads active d e m r q. l.bag quads active d e m r (h (take width m) q); after = λ quads active m r q. l.after quads active m r (h (take width m) q) }

  -- the same stages, made of what they make
  if_as : (Q : Solution → Type 0) (f g : Makes)
      → ((quads : List Statement) (active : Triples) → Distinct same_statement quads → Distinct same_triple active → (m : Solution) → Ready width false from next m → Q (take width m) → f quads (looked quads active place m) (take width m) ≡ g quads (looked quads active place m) (take width m))
      → LaysIf Q width place from next ss f → LaysIf Q width place from next ss g
  if_as Q f g h l = record {
    named = l.named;
    up = l.up;
    bag = λ quads active d e m r q. subst (λ (xs : List Solution). SameBag (map (take width) (through width quads active ss m)) xs) (h quads active d e m r q) (l.bag quads active d e m r q);
    after = l.after;
  }

  -- rows that bind no named variable
  abbrev Starts : Solution → Type 0
  Starts a = a ≡ unbound width

  ready_start : (m : Solution) → Ready width false from next m → Starts (take width m) → Ready width true from next m
  ready_start m r q = record { wide = r.wide; short = r.short; free = r.free; start = λ h. q }

  if_first : (f : Makes) → Lays true width place from next ss f → LaysIf Starts width place from next ss f
  if_first f l = record { named = l.named; up = l.up; bag = λ quads active d e m r q. l.bag quads active d e m (ready_start m r q); after = λ quads active m r q. l.after quads active m (ready_start m r q) }

  first_if : (f : Makes) → LaysIf Starts width place from next ss f → Lays true width place from next ss f
  first_if f l = record { named = l.named; up = l.up; bag = λ quads active d e m r. l.bag quads active d e m (ready_any width from next m r) (r.start refl); after = λ quads active m r. l.after quads active m (ready_any width from next m r) (r.start refl) }

-- ---- what a row lacks

lacks_agree : (vs : List ℕ) (a b : Solution) → Agree vs a b → Lacks vs a → Lacks vs b
lacks_agree [] a b h k = tt
lacks_agree (v ∷ vs) a b h k = (h.0 ∙ k.0, lacks_agree vs a b h.1 k.1)

lacks_unbound : (n : ℕ) (vs : List ℕ) (a : Solution) → a ≡ unbound n → Lacks vs a
lacks_unbound n [] a e = tt
lacks_unbound n (v ∷ vs) a e = (ap (λ (b : Solution). term_at b v) e ∙ unbound_at n v, lacks_unbound n vs a e)

-- what the stages leave as it is, their rows lack too
still_lacks : (width : ℕ) (vs : List ℕ) (ss : List Stage) → AllByRecursion (λ v. LeaveAll v ss) vs → (quads : List Statement) (active : Triples) (m : Solution) → Lacks vs (take width m) → AllByRecursion (λ r. Lacks vs (take width r)) (through width quads active ss m)
still_lacks width vs ss h quads active m k =
    all_map (Agree vs m) (λ r. Lacks vs (take width r)) (λ r a. lacks_agree vs (take width m) (take width r) (taken_agree width vs m r a) k) (through width quads active ss m)
    (all_agree vs m (through width quads active ss m)
    (all_map (λ v. LeaveAll v ss) (λ v. AllByRecursion (λ q. term_at q v ≡ term_at m v) (through width quads active ss m)) (λ v l. l.same width quads active m) vs h))

all_each : (H : ℕ → Type 0) (P : ℕ → Solution → Type 0) (xs : List Solution) → ((v : ℕ) → H v → AllByRecursion (P v) xs) → AllByRecursion (λ x. (v : ℕ) → H v → P v x) xs
all_each H P [] h = tt
all_each H P (x ∷ xs) h = (λ v k. (h v k).0, all_each H P xs (λ v k. (h v k).1))

-- ---- the solutions, by the rows that come of a row that binds no named variable

module _ (needs : List ℕ) (size : Size) (place : Look) (from next : ℕ) (ss : List Stage) (found : Found) (fed : Feeds needs size.width place from next ss found) (within : Within size.width from place) where
  abbrev width : ℕ
  width = size.width

  module _ (quads : List Statement) (active : Triples) (d : Distinct same_statement quads) (e : Distinct same_triple active) (m : Solution) (r : Ready size.width false from next m) where
    abbrev solutions : List Solution
    solutions = found quads (looked quads active place m)

    abbrev start : Solution
    start = only (register_of place) m

    start_ready : Ready width true from next start
    start_ready = only_ready width place from next fed.lays.named within false m r fed.lays.up

    start_is : take width start ≡ unbound width
    start_is = start_ready.start refl

    found_same : SameBag (map (take width) (through width quads active ss start)) solutions
    found_same =
        subst (λ (g : Triples). SameBag (map (take width) (through width quads active ss start)) (found quads g))
        (only_looked width place from next fed.lays.named within false place within quads active m (omega (arith, fed.lays.up, r.wide)))
        (between _ _ _ _ refl (fed.lays.bag quads active d e start (ready_any width from next start start_ready) (lacks_unbound width needs (take width start) start_is))
        (ap (merges (found quads (looked quads active place start))) start_is ∙ merges_unbound width (found quads (looked quads active place start)) (fed.wide quads (looked quads active place start))))

    solutions_bind : size.cells ≤ next → (v : ℕ) → v < width → Binds size [] v ss → AllByRecursion (Bound v) solutions
    solutions_bind room v lt b =
        permuted (Bound v) _ _ found_same
        (all_mapped (Bound v) (Bound v) (take width) (λ q h. subst IsSome (sym (get_or-take width q v None lt)) h) (through width quads active ss start)
        (b.bound quads active start (record { wide = omega (arith, start_ready.wide, room); binds = tt })))

    start_at : (v : ℕ) → v < width → term_at start v ≡ None
    start_at v lt = sym (get_or-take width start v None lt) ∙ (ap (λ (b : Solution). term_at b v) start_is ∙ unbound_at width v)

    solutions_only : (vs : List ℕ) → Touches width ss vs → AllByRecursion (BindsOnly vs) solutions
    solutions_only vs t =
        permuted (BindsOnly vs) _ _ found_same
        (all_each (λ v. list_any (λ w. w == v) vs ≡ false) (λ v q. term_at q v ≡ None) (map (take width) (through width quads active ss start)) (λ v h. at v h (cases_lt v width)))
      where
        at : (v : ℕ) → list_any (λ w. w == v) vs ≡ false → (v < width) ⊎ (width ≤ v) → AllByRecursion (λ q. term_at q v ≡ None) (map (take width) (through width quads active ss start))
        at v h (inl lt) =
            all_mapped (λ q. term_at q v ≡ term_at start v) (λ q. term_at q v ≡ None) (take width) (λ q k. get_or-take width q v None lt ∙ (k ∙ start_at v lt)) (through width quads active ss start)
            ((t.leaves v lt h).same width quads active start)
        at v h (inr le) =
            all_map (λ q. length q ≤ width) (λ q. term_at q v ≡ None) (λ q k. past_end q v (omega (arith, k, le))) (map (take width) (through width quads active ss start)) (taken_short width (through width quads active ss start))

    -- what a row can't change in them
    solutions_agree : size.cells ≤ next → (needs' vs : List ℕ) → AllByRecursion (Met size ss needs') vs → (a : Solution) → Lacks needs' a → AllByRecursion (λ x. compatible a x ≡ true → Agree vs x (merge a x)) solutions
    solutions_agree room needs' [] h a k = all_of (λ x. compatible a x ≡ true → Agree [] x (merge a x)) (λ x c. tt) solutions
    solutions_agree room needs' (v ∷ vs) h a k = zip solutions (at h.0) (solutions_agree room needs' vs h.1 a k)
      where
        Same : Solution → Type 0
        Same x = compatible a x ≡ true → term_at (merge a x) v ≡ term_at x v

        at : Met size ss needs' v → AllByRecursion Same solutions
        at (inl missing) = all_of Same (λ x c. merge_at a x v ∙ ap (λ o. first_bound o (term_at x v)) (missing.none a k)) solutions
        at (inr b) = all_map (Bound v) Same (λ x s c. merged_alike size a x v c s) solutions (solutions_bind room v b.0 b.1)

        zip : (xs : List Solution) → AllByRecursion Same xs → AllByRecursion (λ x. compatible a x ≡ true → Agree vs x (merge a x)) xs → AllByRecursion (λ x. compatible a x ≡ true → Agree (v ∷ vs) x (merge a x)) xs
        zip [] p q = tt
        zip (x ∷ xs) p q = (λ c. (p.0 c, q.0 c), zip xs p.1 q.1)

-- ---- the stage of an OPTIONAL

module _ (needs : List ℕ) (width : ℕ) (place : Look) (from next : ℕ) (ss : List Stage) (part : PatternNode) (fed : Feeds needs width place from next ss (solutions_of width part)) (conditions : List Expr) where
  abbrev fed_stage : Stage
  fed_stage = stage.Fed (record { stages = ss }) conditions

  fed_short : (quads : List Statement) (active : Triples) (m : Solution) → AllByRecursion (λ x. length x ≤ width) (fed_rows width (through width quads active ss) m)
  fed_short quads active m = taken_short width (through width quads active ss m)

  fed_after : (quads : List Statement) (active : Triples) (m : Solution) → Ready width false from next m → AllByRecursion (After width from next m) (merges (fed_rows width (through width quads active ss) m) m)
  fed_after quads active m r =
      all_map (After width from from m) (After width from next m) (λ q a. record { wide = a.wide; free = λ v h. a.free v (omega (arith, h, fed.lays.up)); kept = a.kept }) (merges (fed_rows width (through width quads active ss) m) m)
      (merges_after width from fed.lays.named m (omega (arith, fed.lays.up, r.wide)) r.free (fed_rows width (through width quads active ss) m) (fed_short quads active m))

  stage_after : (quads : List Statement) (active : Triples) (m : Solution) → Ready width false from next m → AllByRecursion (After width from next m) (through width quads active (fed_stage ∷ []) m)
  stage_after quads active m r =
      subst (AllByRecursion (After width from next m)) (sym (through_one width quads active fed_stage m ∙ gives_fed width quads active m (record { stages = ss }) conditions))
      (alone_after (After width from next m) m _ (after_refl width from next m (λ v h. r.free v (omega (arith, h, fed.lays.up))))
      (all_filter (After width from next m) (λ n. all_hold conditions (take width n)) (merges (fed_rows width (through width quads active ss) m) m) (fed_after quads active m r)))

  stage_bag : (quads : List Statement) (active : Triples) → Distinct same_statement quads → Distinct same_triple active → (m : Solution) → Ready width false from next m → Lacks needs (take width m)
      → SameBag (map (take width) (through width quads active (fed_stage ∷ []) m)) (stepped width (one.LeftJoin part conditions) quads (looked quads active place m) (take width m))
  stage_bag quads active d e m r q =
      let graph = looked quads active place m in
      let a = take width m in
      let xs = fed_rows width (through width quads active ss) m in
      let ys = eval width quads part graph in
      between _ (or_alone a (filter (all_hold conditions) (merges xs a))) _ (or_alone a (filter (all_hold conditions) (merges (merges ys a) a)))
      (ap (map (take width)) (through_one width quads active fed_stage m ∙ gives_fed width quads active m (record { stages = ss }) conditions)
      ∙ (alone_take width m (filter (λ n. all_hold conditions (take width n)) (merges xs m))
      ∙ (ap (or_alone a) (filter_take width (all_hold conditions) (merges xs m)) ∙ ap (λ zs. or_alone a (filter (all_hold conditions) zs)) (short_merges width xs m (fed_short quads active m)))))
      (alone_same a _ _ (filter_same (all_hold conditions) _ _ (merges_same xs (merges ys a) a (fed.lays.bag quads active d e m r q))))
      (ap (λ zs. or_alone a (filter (all_hold conditions) zs)) (merges_again ys a)
      ∙ sym (step_left_join width quads graph part conditions (a ∷ []) ∙ append-nil (or_alone a (filter (all_hold conditions) (merges ys a)))))

  fed_if : LaysIf (Lacks needs) width place from next (fed_stage ∷ []) (stepped width (one.LeftJoin part conditions))
  fed_if = record { named = fed.lays.named; up = fed.lays.up; bag = stage_bag; after = λ quads active m r q. stage_after quads active m r }

-- ---- steps of a group that is fed

-- what steps make is wide
stay : (xs : List Solution) → kept [] xs ≡ xs
stay [] = refl
stay (x ∷ xs) = ap (λ l. x ∷ l) (stay xs)

steps_wide : (width : ℕ) (steps : List Step) → AreWide width (after_steps width steps)
steps_wide width steps quads graph =
    subst (AllByRecursion (λ x. length x ≡ width)) (eval_group width quads graph steps [] ∙ stay (after_steps width steps quads graph)) (eval_wide width quads (pattern.Group steps []) graph)

last_step : (width : ℕ) (steps : List Step) (s : Step) (quads : List Statement) (graph : Triples) → after_steps width (steps ++ s ∷ []) quads graph ≡ step width quads s graph (after_steps width steps quads graph)
last_step width steps s quads graph = fold_last (λ left one. step width quads one graph left) (unbound width ∷ []) steps s

-- the steps so far, and the stages of the next
module _ (width : ℕ) (place : Look) (mid next : ℕ) (ss ts : List Stage) where
  pub feeds_join : (needs : List ℕ) (part : PatternNode) → Lays false width place mid next ts (joined_with width part) → FeedsNext needs needs width place mid next ss ts (one.Join part)
  feeds_join needs part l = record { up = l.up; follows = λ from steps within fed. record { wide = steps_wide width (steps ++ one.Join part ∷ []); lays = lays from steps within fed } }
    where
      lays : (from : ℕ) (steps : List Step) → Within width from place → Feeds needs width place from mid ss (after_steps width steps) → LaysIf (Lacks needs) width place from next (ss ++ ts) (joined_to (after_steps width (steps ++ one.Join part ∷ [])))
      lays from steps within fed =
          if_as width place from next (ss ++ ts) (Lacks needs) (then_made (joined_to (after_steps width steps)) (joined_with width part)) (joined_to (after_steps width (steps ++ one.Join part ∷ [])))
          (λ quads active d e m r q.
          (let graph = looked quads active place m in
          merges_joined (after_steps width steps quads graph) (eval width quads part graph) (take width m)
          ∙ ap (λ xs. merges xs (take width m)) (sym (last_step width steps (one.Join part) quads graph ∙ step_join width quads graph part (after_steps width steps quads graph)))))
          (then_if (Lacks needs) (λ a. Unit {0}) width place from mid next ss ts (joined_to (after_steps width steps)) (joined_with width part) within fed.lays (if_any width place mid next ts (λ a. Unit {0}) (joined_with width part) l)
          (λ quads active m r q. all_of (λ x. Unit {0}) (λ x. tt) (through width quads active ss m)))

  module _ (old inner new : List ℕ) (part : PatternNode) (conditions : List Expr) (fed : Feeds inner width place mid next ts (solutions_of width part)) (covers : Covers old new) (more : Covers inner new) (left : AllByRecursion (λ v. LeaveAll v ss) inner) (vs us : List ℕ) (touches : Touches width ts vs) (settled : AllByRecursion (Settles us) conditions) (met : AllByRecursion (Met (record { width = width; cells = mid }) ss new) vs) (read : AllByRecursion (Met (record { width = width; cells = mid }) ss new) us) where
    abbrev size : Size
    size = record { width = width; cells = mid }

    abbrev optional : Step
    optional = one.LeftJoin part conditions

    abbrev it : Stage
    it = stage.Fed (record { stages = ts }) conditions

    module _ (from : ℕ) (steps : List Step) (within : Within width from place) (before : Feeds old width place from mid ss (after_steps width steps)) where
      abbrev found : Found
      found = after_steps width steps

      covered : Feeds new width place from mid ss found
      covered = record { wide = before.wide; lays = if_stronger width place from mid ss (Lacks old) (Lacks new) (joined_to found) covers.lacks before.lays }

      ready_found : (m : Solution) → Ready width false from next m → Ready width false from mid m
      ready_found m r = ready_less width false from mid next m fed.lays.up r

      abbrev made : List Statement → Triples → Solution → List Solution
      made quads graph x = or_alone x (filter (all_hold conditions) (merges (eval width quads part graph) x))

      commute : (quads : List Statement) (active : Triples) → Distinct same_statement quads → Distinct same_triple active → (m : Solution) → Ready width false from next m → Lacks new (take width m)
          → AllByRecursion (λ x. Commutes (made quads (looked quads active place m)) (take width m) x) (found quads (looked quads active place m))
      commute quads active d e m r q = at (found quads graph)
          (solutions_agree new size place from mid ss found covered within quads active d e m (ready_found m r) (omega arith) new vs met (take width m) q)
          (solutions_agree new size place from mid ss found covered within quads active d e m (ready_found m r) (omega arith) new us read (take width m) q)
        where
          graph : Triples
          graph = looked quads active place m

          ready_inner : Ready width false mid next m
          ready_inner = record { wide = r.wide; short = r.short; free = λ v h. r.free v (omega (arith, h, before.lays.up)); start = r.start }

          ys_only : AllByRecursion (BindsOnly vs) (eval width quads part graph)
          ys_only = solutions_only inner size place mid next ts (solutions_of width part) fed (within_more width from mid place before.lays.up within) quads active d e m ready_inner vs touches

          at : (xs : List Solution) → AllByRecursion (λ x. compatible (take width m) x ≡ true → Agree vs x (merge (take width m) x)) xs → AllByRecursion (λ x. compatible (take width m) x ≡ true → Agree us x (merge (take width m) x)) xs → AllByRecursion (λ x. Commutes (made quads graph) (take width m) x) xs
          at [] p k = tt
          at (x ∷ xs) p k = (left_commutes (take width m) x conditions us settled (eval width quads part graph) vs ys_only (λ c. (p.0 c, k.0 c)), at xs p.1 k.1)

      same_made : (quads : List Statement) (graph : Triples) (xs : List Solution) → flat_map (stepped width optional quads graph) xs ≡ flat_map (made quads graph) xs
      same_made quads graph xs = flat_ap (stepped width optional quads graph) (made quads graph) (λ x. step_left_join width quads graph part conditions (x ∷ []) ∙ append-nil (made quads graph x)) xs

      left_lays : LaysIf (Lacks new) width place from next (ss ++ it ∷ []) (joined_to (after_steps width (steps ++ optional ∷ [])))
      left_lays =
          if_as width place from next (ss ++ it ∷ []) (Lacks new) (then_made (joined_to found) (stepped width optional)) (joined_to (after_steps width (steps ++ optional ∷ [])))
          (λ quads active d e m r q.
          (let graph = looked quads active place m in
          same_made quads graph (merges (found quads graph) (take width m))
          ∙ (each (made quads graph) (take width m) (found quads graph) (commute quads active d e m r q)
          ∙ ap (λ xs. merges xs (take width m)) (sym (last_step width steps optional quads graph ∙ step_left_join width quads graph part conditions (found quads graph))))))
          (then_if (Lacks new) (Lacks inner) width place from mid next ss (it ∷ []) (joined_to found) (stepped width optional) within covered.lays (fed_if inner width place mid next ts part fed conditions)
          (λ quads active m r q. still_lacks width inner ss left quads active m (more.lacks (take width m) q)))

      pub left_feeds : Feeds new width place from next (ss ++ it ∷ []) (after_steps width (steps ++ optional ∷ []))
      left_feeds = record { wide = steps_wide width (steps ++ optional ∷ []); lays = left_lays }

    pub feeds_left : FeedsNext old new width place mid next ss (it ∷ []) optional
    feeds_left = record { up = fed.lays.up; follows = left_feeds }

-- ---- groups that are fed

pub feeds_nothing : (width : ℕ) (place : Look) (from : ℕ) → width ≤ from → Feeds [] width place from from [] (after_steps width [])
feeds_nothing width place from named = record {
  wide = steps_wide width [];
  lays = if_any width place from from [] (Lacks []) (joined_to (after_steps width []))
      (lays_as false width place from from [] (λ quads graph a. a ∷ []) (joined_to (after_steps width [])) (λ quads graph a h w. sym (unit_merges width a w)) (nothing_lays false width place from named));
}

-- the conditions after the steps
module _ (old new : List ℕ) (width : ℕ) (place : Look) (from next : ℕ) (ss all : List Stage) (steps : List Step) (conditions : List Expr) (fed : Feeds old width place from next ss (after_steps width steps)) (within : Within width from place) (covers : Covers old new) (us : List ℕ) (settled : AllByRecursion (Settles us) conditions) (read : AllByRecursion (Met (record { width = width; cells = next }) ss new) us) (is : all ≡ ss ++ map stage.Filter conditions) where
  abbrev group_size : Size
  group_size = record { width = width; cells = next }

  abbrev group_found : Found
  group_found = after_steps width steps

  abbrev single : Makes
  single quads graph a = a ∷ []

  group_covered : Feeds new width place from next ss group_found
  group_covered = record { wide = fed.wide; lays = if_stronger width place from next ss (Lacks old) (Lacks new) (joined_to group_found) covers.lacks fed.lays }

  filters : Lays false width place next next (map stage.Filter conditions) (all_kept conditions single)
  filters =
      filters_arm false width place next next next [] (map stage.Filter conditions) single conditions (within_more width from next place fed.lays.up within)
      (nothing_lays false width place next (omega (arith, fed.lays.named, fed.lays.up))) (refl, refl)

  kept_each : (xs : List Solution) → flat_map (λ a. kept conditions (a ∷ [])) xs ≡ kept conditions xs
  kept_each [] = refl
  kept_each (x ∷ xs) = at (all_hold conditions x) (kept_each xs)
    where
      at : (b : Bool) → flat_map (λ a. kept conditions (a ∷ [])) xs ≡ kept conditions xs → cond b (x ∷ []) [] ++ flat_map (λ a. kept conditions (a ∷ [])) xs ≡ cond b (x ∷ kept conditions xs) (kept conditions xs)
      at true i = ap (λ l. x ∷ l) i
      at false i = i

  group_is : (quads : List Statement) (graph : Triples) → kept conditions (group_found quads graph) ≡ eval width quads (pattern.Group steps conditions) graph
  group_is quads graph = sym (eval_group width quads graph steps conditions)

  group_lays : LaysIf (Lacks new) width place from next (ss ++ map stage.Filter conditions) (joined_to (solutions_of width (pattern.Group steps conditions)))
  group_lays =
      if_as width place from next (ss ++ map stage.Filter conditions) (Lacks new) (then_made (joined_to group_found) (all_kept conditions single)) (joined_to (solutions_of width (pattern.Group steps conditions)))
      (λ quads active d e m r q.
      (let graph = looked quads active place m in
      kept_each (merges (group_found quads graph) (take width m))
      ∙ (kept_commutes (take width m) conditions us settled (group_found quads graph) (solutions_agree new group_size place from next ss group_found group_covered within quads active d e m r (omega arith) new us read (take width m) q)
      ∙ ap (λ xs. merges xs (take width m)) (group_is quads graph))))
      (then_if (Lacks new) (λ a. Unit {0}) width place from next next ss (map stage.Filter conditions) (joined_to group_found) (all_kept conditions single) within group_covered.lays (if_any width place next next (map stage.Filter conditions) (λ a. Unit {0}) (all_kept conditions single) filters)
      (λ quads active m r q. all_of (λ x. Unit {0}) (λ x. tt) (through width quads active ss m)))

  pub feeds_group : Feeds new width place from next all (solutions_of width (pattern.Group steps conditions))
  feeds_group = record {
    wide = λ quads graph. eval_wide width quads (pattern.Group steps conditions) graph;
    lays = subst (λ (xs : List Stage). LaysIf (Lacks new) width place from next xs (joined_to (solutions_of width (pattern.Group steps conditions)))) (sym is) group_lays;
  }

-- a part that may be fed any row
pub feeds_any : (needs : List ℕ) (width : ℕ) (place : Look) (from next : ℕ) (ss : List Stage) (part : PatternNode) → Lays false width place from next ss (joined_with width part) → Feeds needs width place from next ss (solutions_of width part)
feeds_any needs width place from next ss part l = record { wide = λ quads graph. eval_wide width quads part graph; lays = if_any width place from next ss (Lacks needs) (joined_with width part) l }

-- ---- steps of a group that comes first

module _ (width : ℕ) (place : Look) (mid next : ℕ) (before : List Stage) where
  -- fed rows that lack what it needs
  pub next_fed : (needs : List ℕ) (ts : List Stage) (part : PatternNode) (conditions : List Expr) → Feeds needs width place mid next ts (solutions_of width part) → AllByRecursion (λ v. LeaveAll v before) needs
      → LaysNext width place mid next before (stage.Fed (record { stages = ts }) conditions ∷ []) (one.LeftJoin part conditions)
  next_fed needs ts part conditions fed left = record {
    up = fed.lays.up;
    follows = λ from makes within l.
        first_if width place from next (before ++ stage.Fed (record { stages = ts }) conditions ∷ []) (then_made makes (stepped width (one.LeftJoin part conditions)))
        (then_if (λ a. a ≡ unbound width) (Lacks needs) width place from mid next before (stage.Fed (record { stages = ts }) conditions ∷ []) makes (stepped width (one.LeftJoin part conditions)) within
        (if_first width place from mid before makes l) (fed_if needs width place mid next ts part fed conditions)
        (λ quads active m r q. still_lacks width needs before left quads active m (lacks_unbound width needs (take width m) q)));
  }

  -- any other
  pub next_step : (second : Bool) (ts : List Stage) (s : Step) → (second ≡ true → before ≡ []) → LaysStep second width place mid next ts s → LaysNext width place mid next before ts s
  next_step second ts s none k = record {
    up = k.lays.up;
    follows = λ from makes within l. then_lays width place true second from mid next before ts makes (stepped width s) within l k.lays (record { whole = λ e. refl; none = none });
  }

alone : (xs : List Solution) → xs ≡ flat_map (λ a. a ∷ []) xs
alone [] = refl
alone (x ∷ xs) = ap (λ l. x ∷ l) (alone xs)

pub rest_none : (width : ℕ) (place : Look) (mid : ℕ) (before : List Stage) → LaysRest width place mid mid before before []
rest_none width place mid before = record {
  up = omega arith;
  follows = λ from makes within l. lays_as true width place from mid before makes (λ quads graph a. flat_map (all_stepped width [] quads graph) (makes quads graph a)) (λ quads graph a h w. alone (makes quads graph a)) l;
}

pub rest_more : (width : ℕ) (place : Look) (mid next past : ℕ) (before all more new : List Stage) (steps : List Step) (s : Step) → LaysRest width place mid next before all steps → LaysNext width place next past all more s → new ≡ all ++ more
    → LaysRest width place mid past before new (steps ++ s ∷ [])
rest_more width place mid next past before all more new steps s h k is =
    subst (λ (xs : List Stage). LaysRest width place mid past before xs (steps ++ s ∷ [])) (sym is) (record {
      up = omega (arith, h.up, k.up);
      follows = λ from makes within l.
          lays_as true width place from past (all ++ more) (λ quads graph a. flat_map (stepped width s quads graph) (flat_map (all_stepped width steps quads graph) (makes quads graph a)))
          (λ quads graph a. flat_map (all_stepped width (steps ++ s ∷ []) quads graph) (makes quads graph a))
          (λ quads graph a z w.
          sym (flat_flat (all_stepped width steps quads graph) (stepped width s quads graph) (makes quads graph a))
          ∙ flat_ap (λ b. flat_map (stepped width s quads graph) (all_stepped width steps quads graph b)) (all_stepped width (steps ++ s ∷ []) quads graph)
          (λ b. sym ((linear width s).each quads graph (all_stepped width steps quads graph b)) ∙ sym (fold_last (λ left one. step width quads one graph left) (b ∷ []) steps s)) (makes quads graph a))
          (k.follows from (λ quads graph a. flat_map (all_stepped width steps quads graph) (makes quads graph a)) within (h.follows from makes within l));
    })

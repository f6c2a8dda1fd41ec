-- Stages one after another, and what each stage makes of the named variables.
use Rattle.std.proofs.Common.{◌≡◌, ℕ, zero, suc, ◌+◌, ◌-◌, ◌≤◌, ◌<◌, Bool, true, false, not, cond, ◌&&◌, if◌then◌else◌, List, [], ◌∷◌, ◌++◌, map, take, drop, length, get_or, Option, Some, None, refl, sym, ◌∙◌, ap, subst, arith, append-nil}
use Rattle.std.specs.List.{AllByRecursion, filter, flat_map, fold, list_any}
use Rattle.std.proofs.lemmas.Grind.{flat_map-append}
use Rattle.std.proofs.lemmas.List.Folds.{flat_map-map}
use Rattle.std.proofs.lemmas.List.{map-append, length-append, length-take-le, length-drop, take_at, get_or-append_right, get_or-drop, get_or-set_same, get_or-set_other, length-set, take-set-le, take_more}
use Rattle.std.proofs.lemmas.List.Sorted.{IsPermutation-refl, IsPermutation-trans, IsPermutation-append, list_any-IsPermutation}
use Rattle.qs_terms.specs.Bag.{Distinct, SameBag}
use Rattle.qs_terms.specs.Dataset.{same_triple, graph_of, names_of}
use Rattle.qs_terms.specs.Statement.{Statement, same_statement}
use Rattle.qs_terms.specs.Term.{same_term}
use Rattle.qs_terms.specs.declared.term.Term.{Term}
use Rattle.qs_expr_meaning.specs.declared.expr.Expr.{Expr}
use Rattle.qs_expr_meaning.specs.Meaning.{holds}
use Rattle.qs_algebra_solutions.specs.Solution.{Solution, term_at, unbound, merge, compatible}
use Rattle.qs_algebra_solutions.specs.Operators.{merges, join, or_alone, excludes, minus}
use Rattle.qs_algebra_patterns.specs.Basic.{Graph as Triples}
use Rattle.qs_algebra_patterns.specs.Eval.{eval, all_hold, extended}
use Rattle.qs_algebra_patterns.specs.inner.Eval.{kept, rows_of}
use Rattle.qs_algebra_patterns.specs.inner.Eval.{step}
use Rattle.qs_algebra_patterns.specs.declared.table.Table.{Table}
use Rattle.qs_algebra_patterns.specs.declared.pattern.PatternNode.{PatternNode}
use Rattle.qs_algebra_patterns.specs.declared.pattern.PatternNode.TheVariants as pattern
use Rattle.qs_algebra_patterns.specs.declared.pattern.Step.{Step}
use Rattle.qs_algebra_patterns.specs.declared.pattern.Step.TheVariants as one
use Rattle.qs_algebra_patterns.proofs.Meaning.{eval_group, eval_union, eval_graph, eval_values, step_join, step_left_join, step_minus, step_extend}
use Rattle.qs_plan_meaning.specs.declared.stage.Look.{Look}
use Rattle.qs_plan_meaning.specs.declared.stage.Look.TheVariants as look
use Rattle.qs_plan_meaning.specs.declared.stage.Group.{Group}
use Rattle.qs_plan_meaning.specs.declared.stage.Stage.{Stage}
use Rattle.qs_plan_meaning.specs.declared.stage.Stage.TheVariants as stage
use Rattle.qs_plan_meaning.specs.inner.Stages.{Made, looked, graph_named, kept_if, only, aside, gives, through}
use Rattle.qs_plan.specs.inner.Lays.{Ready, After, Within, Makes, Lays, joined_with, joined_with_all, stepped, all_stepped, all_kept, IsLinear, LaysStep, IsJoin}
use Rattle.qs_plan_meaning.specs.inner.Stages.{register_of}
use Rattle.qs_plan.proofs.Commutes.{all_map, merges_append, merges_joined}
use Rattle.qs_plan.proofs.Levels.{gives_exists, gives_filter, gives_bind, gives_values, gives_union, gives_optional, gives_minus, gives_apart, through_append, through_one, flat_ap, map_flat}
use Rattle.qs_plan.proofs.Operators.{filter_same, flat_map_same, merges_same, alone_same}
use Rattle.qs_plan.proofs.RunStages.{looked_same, after_refl}
use Rattle.qs_plan.proofs.Widths.{IsWide, all_append, all_filter, all_mapped, all_flat, length_unbound, unbound_at, unbound_compatible, unbound_merge, merge_width, merge_past, short_merges, taken_short, table_width, extended_width, eval_merges}

-- ---- bags

pub same : (xs ys : List Solution) → xs ≡ ys → SameBag xs ys
same xs ys e = subst (SameBag xs) e (IsPermutation-refl xs)

-- equal before, and equal after
pub between : (xs xs' ys ys' : List Solution) → xs ≡ xs' → SameBag xs' ys' → ys' ≡ ys → SameBag xs ys
between xs xs' ys ys' e h f = subst (SameBag xs) f (subst (λ (l : List Solution). SameBag l ys') (sym e) h)

-- the same bag of each of them
pub flat_each : (P : Solution → Type 0) (f g : Made) → ((x : Solution) → P x → SameBag (f x) (g x)) → (xs : List Solution) → AllByRecursion P xs → SameBag (flat_map f xs) (flat_map g xs)
flat_each P f g h [] k = IsPermutation-refl []
flat_each P f g h (x ∷ xs) k = IsPermutation-append (f x) (g x) (flat_map f xs) (flat_map g xs) (h x k.0) (flat_each P f g h xs k.1)

-- ---- one after another

after_trans : (width from mid next : ℕ) (m r q : Solution) → from ≤ mid → After width from mid m r → After width mid next r q → After width from next m q
after_trans width from mid next m r q le a b = record {
  wide = b.wide ∙ a.wide;
  free = b.free;
  kept = λ v h k. b.kept v h (omega (arith, k, le)) ∙ a.kept v h k;
}

ready_less : (width : ℕ) (first : Bool) (from mid next : ℕ) (m : Solution) → mid ≤ next → Ready width first from next m → Ready width first from mid m
ready_less width first from mid next m le r = record { wide = omega (arith, r.wide, le); short = r.short; free = r.free; start = r.start }

-- where a second part begins with the row itself, nothing stood before it
pub record Begins (first second : Bool) (stages : List Stage) : Type 0 where
  pub whole : second ≡ true → first ≡ true
  pub none : second ≡ true → stages ≡ []

starts : (width : ℕ) (quads : List Statement) (active : Triples) (first second : Bool) (stages : List Stage) (m : Solution) → Begins first second stages → (first ≡ true → take width m ≡ unbound width)
    → AllByRecursion (λ r. second ≡ true → take width r ≡ unbound width) (through width quads active stages m)
starts width quads active first second stages m b h = at second refl
  where
    at : (c : Bool) → second ≡ c → AllByRecursion (λ r. second ≡ true → take width r ≡ unbound width) (through width quads active stages m)
    at true e = subst (λ (ss : List Stage). AllByRecursion (λ r. second ≡ true → take width r ≡ unbound width) (through width quads active ss m)) (sym (b.none e)) (λ k. h (b.whole k), tt)
    at false e = all_of_none (through width quads active stages m)
      where
        all_of_none : (rs : List Solution) → AllByRecursion (λ r. second ≡ true → take width r ≡ unbound width) rs
        all_of_none [] = tt
        all_of_none (r ∷ rs) = (λ k. (let f : false ≡ true = sym e ∙ k in cc), all_of_none rs)

all_both : (P Q : Solution → Type 0) (xs : List Solution) → AllByRecursion P xs → AllByRecursion Q xs → AllByRecursion (λ r. P r × Q r) xs
all_both P Q [] h k = tt
all_both P Q (x ∷ xs) h k = ((h.0, k.0), all_both P Q xs h.1 k.1)

abbrev pub then_made : Makes → Makes → Makes
then_made f g quads graph a = flat_map (g quads graph) (f quads graph a)

module _ (width : ℕ) (place : Look) (first second : Bool) (from mid next : ℕ) (ss ts : List Stage) (f g : Makes) (within : Within width from place) (a : Lays first width place from mid ss f) (b : Lays second width place mid next ts g) (begins : Begins first second ss) where
  abbrev Fine : Solution → Solution → Type 0
  Fine m r = After width from mid m r × (second ≡ true → take width r ≡ unbound width)

  ready_first : (m : Solution) → Ready width first from next m → Ready width first from mid m
  ready_first m r = ready_less width first from mid next m b.up r

  fine : (quads : List Statement) (active : Triples) (m : Solution) → Ready width first from next m → AllByRecursion (Fine m) (through width quads active ss m)
  fine quads active m r =
      all_both (After width from mid m) (λ q. second ≡ true → take width q ≡ unbound width) (through width quads active ss m)
      (a.after quads active m (ready_first m r)) (starts width quads active first second ss m begins r.start)

  ready_second : (m r : Solution) → Ready width first from next m → Fine m r → Ready width second mid next r
  ready_second m r w h = record { wide = omega (arith, w.wide, h.0.wide); short = omega (arith, w.short, h.0.wide); free = h.0.free; start = h.1 }

  then_rows : (quads : List Statement) (active : Triples) → Distinct same_statement quads → Distinct same_triple active → (m : Solution) → Ready width first from next m
      → SameBag (map (take width) (through width quads active (ss ++ ts) m)) (flat_map (g quads (looked quads active place m)) (map (take width) (through width quads active ss m)))
  then_rows quads active d e m r =
      let graph = looked quads active place m in
      let rows = through width quads active ss m in
      between _ (flat_map (λ x. map (take width) (through width quads active ts x)) rows) _ (flat_map (λ x. g quads graph (take width x)) rows)
      (ap (map (take width)) (through_append width quads active ss ts m) ∙ map_flat (take width) (through width quads active ts) rows)
      (flat_each (Fine m) (λ x. map (take width) (through width quads active ts x)) (λ x. g quads graph (take width x))
      (λ x h. subst (λ (l : Triples). SameBag (map (take width) (through width quads active ts x)) (g quads l (take width x))) (looked_same width from quads active place m x within h.0.kept)
      (b.bag quads active d e x (ready_second m x r h)))
      rows (fine quads active m r))
      (sym (flat_map-map (g quads graph) (take width) rows))

  then_bag : (quads : List Statement) (active : Triples) → Distinct same_statement quads → Distinct same_triple active → (m : Solution) → Ready width first from next m
      → SameBag (map (take width) (through width quads active (ss ++ ts) m)) (then_made f g quads (looked quads active place m) (take width m))
  then_bag quads active d e m r =
      let graph = looked quads active place m in
      IsPermutation-trans _ _ _ (then_rows quads active d e m r)
      (flat_map_same (g quads graph) (g quads graph) (map (take width) (through width quads active ss m)) (f quads graph (take width m)) (a.bag quads active d e m (ready_first m r)) (λ x. IsPermutation-refl (g quads graph x)))

  then_after : (quads : List Statement) (active : Triples) (m : Solution) → Ready width first from next m → AllByRecursion (After width from next m) (through width quads active (ss ++ ts) m)
  then_after quads active m r =
      subst (AllByRecursion (After width from next m)) (sym (through_append width quads active ss ts m))
      (all_flat (Fine m) (After width from next m) (through width quads active ts)
      (λ x h. all_map (After width mid next x) (After width from next m) (λ q k. after_trans width from mid next m x q a.up h.0 k) (through width quads active ts x) (b.after quads active x (ready_second m x r h)))
      (through width quads active ss m) (fine quads active m r))

  -- one part, and another after it
  pub then_lays : Lays first width place from next (ss ++ ts) (then_made f g)
  then_lays = record { named = a.named; up = omega (arith, a.up, b.up); bag = then_bag; after = then_after }

-- the same stages, made of what they make
pub lays_as : (first : Bool) (width : ℕ) (place : Look) (from next : ℕ) (ss : List Stage) (f g : Makes) → ((quads : List Statement) (graph : Triples) (a : Solution) → (first ≡ true → a ≡ unbound width) → IsWide width a → f quads graph a ≡ g quads graph a)
    → Lays first width place from next ss f → Lays first width place from next ss g
lays_as first width place from next ss f g h l = record {
  named = l.named;
  up = l.up;
  bag = λ quads active d e m r. subst (λ (xs : List Solution). SameBag (map (take width) (through width quads active ss m)) xs) (h quads (looked quads active place m) (take width m) r.start (length-take-le width m (omega (arith, l.named, l.up, r.wide)))) (l.bag quads active d e m r);
  after = l.after;
}

-- nothing
pub nothing_lays : (first : Bool) (width : ℕ) (place : Look) (from : ℕ) → width ≤ from → Lays first width place from from [] (λ quads graph a. a ∷ [])
nothing_lays first width place from named = record {
  named = named;
  up = omega arith;
  bag = λ quads active d e m r. IsPermutation-refl (take width m ∷ []);
  after = λ quads active m r. (after_refl width from from m r.free, tt);
}

-- ---- a stage that merges the row with solutions of the named variables

module _ (width from : ℕ) (named : width ≤ from) (m : Solution) (wide : from ≤ length m) (free : (v : ℕ) → from ≤ v → term_at m v ≡ None) where
  merged_after : (x : Solution) → length x ≤ width → After width from from m (merge m x)
  merged_after x h = record {
    wide = merge_width (length m) m x refl (omega (arith, h, named, wide));
    free = λ v k. merge_past m x v (omega (arith, h, named, k)) ∙ free v k;
    kept = λ v k l. merge_past m x v (omega (arith, h, k));
  }

  pub merges_after : (xs : List Solution) → AllByRecursion (λ x. length x ≤ width) xs → AllByRecursion (After width from from m) (merges xs m)
  merges_after xs h =
      all_mapped (λ x. length x ≤ width) (After width from from m) (merge m) merged_after (filter (compatible m) xs)
      (all_filter (λ x. length x ≤ width) (compatible m) xs h)

wide_short : (n : ℕ) (xs : List Solution) → AllByRecursion (IsWide n) xs → AllByRecursion (λ x. length x ≤ n) xs
wide_short n xs h = all_map (IsWide n) (λ x. length x ≤ n) (λ x e. omega (arith, e)) xs h

-- a stage that gives what `xs` merge to
module _ (first : Bool) (width : ℕ) (place : Look) (from next : ℕ) (named : width ≤ from) (up : from ≤ next) (s : Stage) (f : Makes) where
  pub stage_lays : ((quads : List Statement) (active : Triples) (m : Solution) → Ready width first from next m → AllByRecursion (After width from next m) (gives width quads active s m))
      → ((quads : List Statement) (active : Triples) → Distinct same_statement quads → Distinct same_triple active → (m : Solution) → Ready width first from next m
      → SameBag (map (take width) (gives width quads active s m)) (f quads (looked quads active place m) (take width m)))
      → Lays first width place from next (s ∷ []) f
  stage_lays h k = record {
    named = named;
    up = up;
    bag = λ quads active d e m r. subst (λ (l : List Solution). SameBag (map (take width) l) (f quads (looked quads active place m) (take width m))) (sym (through_one width quads active s m)) (k quads active d e m r);
    after = λ quads active m r. subst (AllByRecursion (After width from next m)) (sym (through_one width quads active s m)) (h quads active m r);
  }

-- ---- filters

after_more : (width from mid next : ℕ) (m r : Solution) → from ≤ mid → mid ≤ next → After width mid mid m r → ((v : ℕ) → next ≤ v → term_at m v ≡ None) → After width from next m r
after_more width from mid next m r le up a free = record { wide = a.wide; free = λ v h. a.free v (omega (arith, h, up)); kept = λ v h k. a.kept v h (omega (arith, k, le)) }

kept_take : (width : ℕ) (b : Bool) (m : Solution) → map (take width) (kept_if b m) ≡ kept_if b (take width m)
kept_take width true m = refl
kept_take width false m = refl

kept_after : (P : Solution → Type 0) (b : Bool) (m : Solution) → P m → AllByRecursion P (kept_if b m)
kept_after P true m h = (h, tt)
kept_after P false m h = tt

abbrev pub filtered : Expr → Makes
filtered e quads graph a = kept_if (holds a e) a

pub filter_lays : (first : Bool) (width : ℕ) (place : Look) (from : ℕ) (e : Expr) → width ≤ from → Lays first width place from from (stage.Filter e ∷ []) (filtered e)
filter_lays first width place from e named =
    stage_lays first width place from from named (omega arith) (stage.Filter e) (filtered e)
    (λ quads active m r. subst (AllByRecursion (After width from from m)) (sym (gives_filter width quads active m e)) (kept_after (After width from from m) (holds (take width m) e) m (after_refl width from from m r.free)))
    (λ quads active d k m r. same _ _ (ap (map (take width)) (gives_filter width quads active m e) ∙ kept_take width (holds (take width m) e) m))

-- ---- BIND

abbrev pub bound_made : ℕ → Expr → Makes
bound_made v e quads graph a = extended v e a ∷ []

pub bind_lays : (first : Bool) (width : ℕ) (place : Look) (from : ℕ) (v : ℕ) (e : Expr) → width ≤ from → Lays first width place from from (stage.Bind v e ∷ []) (bound_made v e)
bind_lays first width place from v e named =
    stage_lays first width place from from named (omega arith) (stage.Bind v e) (bound_made v e)
    (λ quads active m r. subst (AllByRecursion (After width from from m)) (sym (gives_bind width quads active m v e)) (after m r, tt))
    (λ quads active d k m r. same _ _ (ap (map (take width)) (gives_bind width quads active m v e) ∙ ap (λ x. x ∷ []) (take_at (extended v e (take width m)) (drop width m) width (front m r))))
  where
    front : (m : Solution) → Ready width first from from m → length (extended v e (take width m)) ≡ width
    front m r = extended_width width v e (take width m) (length-take-le width m (omega (arith, named, r.wide)))

    past_at : (m : Solution) (r : Ready width first from from m) (w : ℕ) → width ≤ w → term_at (extended v e (take width m) ++ drop width m) w ≡ term_at m w
    past_at m r w h =
        get_or-append_right (extended v e (take width m)) (drop width m) width w None (front m r) h
        ∙ (get_or-drop width m (w - width) None ∙ ap (term_at m) (let k : width + (w - width) ≡ w = omega arith in k))

    after : (m : Solution) → Ready width first from from m → After width from from m (extended v e (take width m) ++ drop width m)
    after m r = record {
      wide = length-append (extended v e (take width m)) (drop width m) ∙ (let k : length (extended v e (take width m)) + length (drop width m) ≡ length m = omega (arith, front m r, length-drop width m, named, r.wide) in k);
      free = λ w h. past_at m r w (omega (arith, named, h)) ∙ r.free w h;
      kept = λ w h l. past_at m r w h;
    }

-- ---- VALUES

pub values_lays : (first : Bool) (width : ℕ) (place : Look) (from : ℕ) (table : Table) → width ≤ from → Lays first width place from from (stage.Values table ∷ []) (joined_with width (pattern.Values table))
values_lays first width place from table named =
    stage_lays first width place from from named (omega arith) (stage.Values table) (joined_with width (pattern.Values table))
    (λ quads active m r. subst (AllByRecursion (After width from from m)) (sym (gives_values width quads active m table)) (merges_after width from named m r.wide r.free (rows_of width table) short))
    (λ quads active d k m r. same _ _
    (ap (map (take width)) (gives_values width quads active m table)
    ∙ (short_merges width (rows_of width table) m short ∙ ap (λ l. merges l (take width m)) (sym (eval_values width quads (looked quads active place m) table)))))
  where
    short : AllByRecursion (λ x. length x ≤ width) (rows_of width table)
    short = wide_short width (rows_of width table) (table_width width table)

-- ---- the rows of an OPTIONAL, without their hidden cells

pub alone_take : (width : ℕ) (a : Solution) (xs : List Solution) → map (take width) (or_alone a xs) ≡ or_alone (take width a) (map (take width) xs)
alone_take width a [] = refl
alone_take width a (x ∷ xs) = refl

pub filter_take : (width : ℕ) (p : Solution → Bool) (xs : List Solution) → map (take width) (filter (λ n. p (take width n)) xs) ≡ filter p (map (take width) xs)
filter_take width p [] = refl
filter_take width p (x ∷ xs) = at (p (take width x)) (filter_take width p xs)
  where
    at : (b : Bool) → map (take width) (filter (λ n. p (take width n)) xs) ≡ filter p (map (take width) xs) → map (take width) (cond b (x ∷ filter (λ n. p (take width n)) xs) (filter (λ n. p (take width n)) xs)) ≡ cond b (take width x ∷ filter p (map (take width) xs)) (filter p (map (take width) xs))
    at true h = ap (λ l. take width x ∷ l) h
    at false h = h

pub alone_after : (P : Solution → Type 0) (m : Solution) (xs : List Solution) → P m → AllByRecursion P xs → AllByRecursion P (or_alone m xs)
alone_after P m [] h k = (h, tt)
alone_after P m (x ∷ xs) h k = k

-- ---- a group that is evaluated by itself

length_only : (r : Option ℕ) (m : Solution) → length (only r m) ≡ length m
length_only None m = length_unbound (length m)
length_only (Some r) m = length-set (unbound (length m)) r (term_at m r) ∙ length_unbound (length m)

pub take_unbound : (width n : ℕ) → width ≤ n → take width (unbound n) ≡ unbound width
take_unbound zero n h = refl
take_unbound (suc width) zero h = absurd (omega arith)
take_unbound (suc width) (suc n) h = ap (λ l. None ∷ l) (take_unbound width n (omega arith))

module _ (width : ℕ) (place : Look) (from next : ℕ) (named : width ≤ from) (within : Within width from place) (first : Bool) where
  take_only : (p : Look) → Within width from p → (m : Solution) → width ≤ length m → take width (only (register_of p) m) ≡ unbound width
  take_only look.Active w m h = take_unbound width (length m) h
  take_only (look.Named name) w m h = take_unbound width (length m) h
  take_only (look.Register r) w m h = take-set-le width (unbound (length m)) r (term_at m r) w.0 ∙ take_unbound width (length m) h

  only_free : (p : Look) → Within width from p → (m : Solution) (v : ℕ) → from ≤ v → term_at (only (register_of p) m) v ≡ None
  only_free look.Active w m v h = unbound_at (length m) v
  only_free (look.Named name) w m v h = unbound_at (length m) v
  only_free (look.Register r) w m v h = get_or-set_other (unbound (length m)) r v (term_at m r) None (λ e. absurd (omega (arith, e, w.1, h))) ∙ unbound_at (length m) v

  pub only_looked : (p : Look) → Within width from p → (quads : List Statement) (active : Triples) (m : Solution) → from ≤ length m → looked quads active p (only (register_of p) m) ≡ looked quads active p m
  only_looked look.Active w quads active m h = refl
  only_looked (look.Named name) w quads active m h = refl
  only_looked (look.Register r) w quads active m h = ap (graph_named quads) (get_or-set_same (unbound (length m)) r (term_at m r) None (omega (arith, w.1, h, length_unbound (length m))))

  pub only_ready : (m : Solution) → Ready width first from next m → from ≤ next → Ready width true from next (only (register_of place) m)
  only_ready m r up = record {
    wide = omega (arith, length_only (register_of place) m, r.wide);
    short = omega (arith, length_only (register_of place) m, r.short);
    free = λ v h. only_free place within m v h;
    start = λ h. take_only place within m (omega (arith, named, up, r.wide));
  }

  -- its solutions are those of the pattern
  module _ (ss : List Stage) (part : PatternNode) (l : Lays true width place from next ss (joined_with width part)) where
    pub aside_same : (quads : List Statement) (active : Triples) → Distinct same_statement quads → Distinct same_triple active → (m : Solution) → Ready width first from next m
        → SameBag (aside width (register_of place) (through width quads active ss) m) (eval width quads part (looked quads active place m))
    aside_same quads active d e m r =
        let start = only (register_of place) m in
        subst (λ (g : Triples). SameBag (aside width (register_of place) (through width quads active ss) m) (eval width quads part g)) (only_looked place within quads active m (omega (arith, l.up, r.wide)))
        (between _ _ _ _ refl (l.bag quads active d e start (only_ready m r l.up))
        (ap (merges (eval width quads part (looked quads active place start))) (take_only place within m (omega (arith, named, l.up, r.wide))) ∙ eval_merges width quads part (looked quads active place start)))

    aside_short : (quads : List Statement) (active : Triples) (m : Solution) → AllByRecursion (λ x. length x ≤ width) (aside width (register_of place) (through width quads active ss) m)
    aside_short quads active m = taken_short width (through width quads active ss (only (register_of place) m))

    wider : (m r : Solution) → ((v : ℕ) → next ≤ v → term_at m v ≡ None) → After width from from m r → After width from next m r
    wider m r free a = record { wide = a.wide; free = λ v h. a.free v (omega (arith, h, l.up)); kept = a.kept }

    merged_after_all : (quads : List Statement) (active : Triples) (m : Solution) → Ready width first from next m → AllByRecursion (After width from next m) (merges (aside width (register_of place) (through width quads active ss) m) m)
    merged_after_all quads active m r =
        all_map (After width from from m) (After width from next m) (λ q a. wider m q (λ v h. r.free v (omega (arith, h, l.up))) a) (merges (aside width (register_of place) (through width quads active ss) m) m)
        (merges_after width from named m (omega (arith, l.up, r.wide)) r.free (aside width (register_of place) (through width quads active ss) m) (aside_short quads active m))

    -- joined
    pub apart_lays : Lays first width place from next (stage.Apart (register_of place) (record { stages = ss }) ∷ []) (joined_with width part)
    apart_lays =
        stage_lays first width place from next named l.up (stage.Apart (register_of place) (record { stages = ss })) (joined_with width part)
        (λ quads active m r. subst (AllByRecursion (After width from next m)) (sym (gives_apart width quads active m (register_of place) (record { stages = ss }))) (merged_after_all quads active m r))
        (λ quads active d e m r. between _ (merges (aside width (register_of place) (through width quads active ss) m) (take width m)) _ _
        (ap (map (take width)) (gives_apart width quads active m (register_of place) (record { stages = ss })) ∙ short_merges width (aside width (register_of place) (through width quads active ss) m) m (aside_short quads active m))
        (merges_same (aside width (register_of place) (through width quads active ss) m) (eval width quads part (looked quads active place m)) (take width m) (aside_same quads active d e m r))
        refl)

    -- MINUS
    minus_one : (graph : Triples) (quads : List Statement) (a : Solution) → minus (a ∷ []) (eval width quads part graph) ≡ kept_if (not (list_any (excludes a) (eval width quads part graph))) a
    minus_one graph quads a = at (not (list_any (excludes a) (eval width quads part graph)))
      where
        at : (b : Bool) → cond b (a ∷ []) [] ≡ kept_if b a
        at true = refl
        at false = refl

    pub minus_lays : Lays first width place from next (stage.Minus (register_of place) (record { stages = ss }) ∷ []) (stepped width (one.Minus part))
    minus_lays =
        stage_lays first width place from next named l.up (stage.Minus (register_of place) (record { stages = ss })) (stepped width (one.Minus part))
        (λ quads active m r. subst (AllByRecursion (After width from next m)) (sym (gives_minus width quads active m (register_of place) (record { stages = ss })))
        (kept_after (After width from next m) (not (list_any (excludes (take width m)) (aside width (register_of place) (through width quads active ss) m))) m (after_refl width from next m (λ v h. r.free v (omega (arith, h, l.up))))))
        (λ quads active d e m r.
        (let graph = looked quads active place m in
        let a = take width m in
        same _ _
        (ap (map (take width)) (gives_minus width quads active m (register_of place) (record { stages = ss }))
        ∙ (kept_take width (not (list_any (excludes a) (aside width (register_of place) (through width quads active ss) m))) m
        ∙ (ap (λ b. kept_if (not b) a) (list_any-IsPermutation (excludes a) _ _ (aside_same quads active d e m r))
        ∙ (sym (minus_one graph quads a) ∙ sym (step_minus width quads graph part (a ∷ []))))))))

    -- OPTIONAL
    pub optional_lays : (conditions : List Expr) → Lays first width place from next (stage.Optional (register_of place) (record { stages = ss }) conditions ∷ []) (stepped width (one.LeftJoin part conditions))
    optional_lays conditions =
        stage_lays first width place from next named l.up (stage.Optional (register_of place) (record { stages = ss }) conditions) (stepped width (one.LeftJoin part conditions))
        (λ quads active m r. subst (AllByRecursion (After width from next m)) (sym (gives_optional width quads active m (register_of place) (record { stages = ss }) conditions))
        (alone_after (After width from next m) m _ (after_refl width from next m (λ v h. r.free v (omega (arith, h, l.up))))
        (all_filter (After width from next m) (λ n. all_hold conditions (take width n)) (merges (aside width (register_of place) (through width quads active ss) m) m) (merged_after_all quads active m r))))
        (λ quads active d e m r.
        (let graph = looked quads active place m in
        let a = take width m in
        let xs = aside width (register_of place) (through width quads active ss) m in
        between _ (or_alone a (filter (all_hold conditions) (merges xs a))) _ (or_alone a (filter (all_hold conditions) (merges (eval width quads part graph) a)))
        (ap (map (take width)) (gives_optional width quads active m (register_of place) (record { stages = ss }) conditions)
        ∙ (alone_take width m (filter (λ n. all_hold conditions (take width n)) (merges xs m))
        ∙ (ap (or_alone a) (filter_take width (all_hold conditions) (merges xs m)) ∙ ap (λ ys. or_alone a (filter (all_hold conditions) ys)) (short_merges width xs m (aside_short quads active m)))))
        (alone_same a _ _ (filter_same (all_hold conditions) _ _ (merges_same xs (eval width quads part graph) a (aside_same quads active d e m r))))
        (sym (step_left_join width quads graph part conditions (a ∷ []) ∙ append-nil (or_alone a (filter (all_hold conditions) (merges (eval width quads part graph) a)))))))

-- ---- steps

fold_last : (f : List Solution → Step → List Solution) (first : List Solution) (ss : List Step) (s : Step) → fold f first (ss ++ s ∷ []) ≡ f (fold f first ss) s
fold_last f first [] s = refl
fold_last f first (t ∷ ss) s = fold_last f (f first t) ss s

flat_nil : (f : Made) (xs : List Solution) → flat_map f xs ≡ flat_map (λ a. f a ++ []) xs
flat_nil f xs = flat_ap f (λ a. f a ++ []) (λ a. sym (append-nil (f a))) xs

filter_one : (p : Solution → Bool) (xs : List Solution) → filter p xs ≡ flat_map (λ a. filter p (a ∷ [])) xs
filter_one p [] = refl
filter_one p (x ∷ xs) = at (p x) (filter_one p xs)
  where
    at : (b : Bool) → filter p xs ≡ flat_map (λ m. filter p (m ∷ [])) xs → cond b (x ∷ filter p xs) (filter p xs) ≡ cond b (x ∷ []) [] ++ flat_map (λ m. filter p (m ∷ [])) xs
    at true h = ap (λ l. x ∷ l) h
    at false h = h

map_one : (f : Solution → Solution) (xs : List Solution) → map f xs ≡ flat_map (λ a. map f (a ∷ [])) xs
map_one f [] = refl
map_one f (x ∷ xs) = ap (λ l. f x ∷ l) (map_one f xs)

pub join_linear : (width : ℕ) (part : PatternNode) → IsLinear width (one.Join part)
join_linear width part = record { each = λ quads graph xs. step_join width quads graph part xs ∙ (flat_nil (merges (eval width quads part graph)) xs ∙ flat_ap _ _ (λ a. sym (step_join width quads graph part (a ∷ []))) xs) }

pub left_join_linear : (width : ℕ) (part : PatternNode) (conditions : List Expr) → IsLinear width (one.LeftJoin part conditions)
left_join_linear width part conditions = record { each = λ quads graph xs. step_left_join width quads graph part conditions xs ∙ (flat_nil (λ a. or_alone a (filter (all_hold conditions) (merges (eval width quads part graph) a))) xs ∙ flat_ap _ _ (λ a. sym (step_left_join width quads graph part conditions (a ∷ []))) xs) }

pub minus_linear : (width : ℕ) (part : PatternNode) → IsLinear width (one.Minus part)
minus_linear width part = record { each = λ quads graph xs. step_minus width quads graph part xs ∙ (filter_one (λ a. not (list_any (excludes a) (eval width quads part graph))) xs ∙ flat_ap _ _ (λ a. sym (step_minus width quads graph part (a ∷ []))) xs) }

pub extend_linear : (width : ℕ) (v : ℕ) (e : Expr) → IsLinear width (one.Extend v e)
extend_linear width v e = record { each = λ quads graph xs. step_extend width quads graph v e xs ∙ (map_one (extended v e) xs ∙ flat_ap _ _ (λ a. sym (step_extend width quads graph v e (a ∷ []))) xs) }

-- a step that is laid
pub join_step : (first : Bool) (width : ℕ) (place : Look) (from next : ℕ) (ss : List Stage) (part : PatternNode) → Lays first width place from next ss (joined_with width part) → LaysStep first width place from next ss (one.Join part)
join_step first width place from next ss part l = record {
  lays = lays_as first width place from next ss (joined_with width part) (stepped width (one.Join part)) (λ quads graph a h w. sym (step_join width quads graph part (a ∷ []) ∙ append-nil (merges (eval width quads part graph) a))) l;
  linear = join_linear width part;
}

pub left_join_step : (first : Bool) (width : ℕ) (place : Look) (from next : ℕ) (ss : List Stage) (part : PatternNode) (conditions : List Expr) → width ≤ from → Within width from place → Lays true width place from next ss (joined_with width part)
    → LaysStep first width place from next (stage.Optional (register_of place) (record { stages = ss }) conditions ∷ []) (one.LeftJoin part conditions)
left_join_step first width place from next ss part conditions named within l = record {
  lays = optional_lays width place from next named within first ss part l conditions;
  linear = left_join_linear width part conditions;
}

pub minus_step : (first : Bool) (width : ℕ) (place : Look) (from next : ℕ) (ss : List Stage) (part : PatternNode) → width ≤ from → Within width from place → Lays true width place from next ss (joined_with width part)
    → LaysStep first width place from next (stage.Minus (register_of place) (record { stages = ss }) ∷ []) (one.Minus part)
minus_step first width place from next ss part named within l = record { lays = minus_lays width place from next named within first ss part l; linear = minus_linear width part }

pub extend_step : (first : Bool) (width : ℕ) (place : Look) (from : ℕ) (v : ℕ) (e : Expr) → width ≤ from → LaysStep first width place from from (stage.Bind v e ∷ []) (one.Extend v e)
extend_step first width place from v e named = record {
  lays = lays_as first width place from from (stage.Bind v e ∷ []) (bound_made v e) (stepped width (one.Extend v e)) (λ quads graph a h w. sym (step_extend width quads graph v e (a ∷ []))) (bind_lays first width place from v e named);
  linear = extend_linear width v e;
}

pub within_more : (width from mid : ℕ) (place : Look) → from ≤ mid → Within width from place → Within width mid place
within_more width from mid look.Active h w = tt
within_more width from mid (look.Named name) h w = tt
within_more width from mid (look.Register r) h w = (w.0, omega (arith, w.1, h))

-- one step more
pub step_more : (first second : Bool) (width : ℕ) (place : Look) (from mid next : ℕ) (ss ts new : List Stage) (done : List Step) (s : Step) → Within width from place → new ≡ ss ++ ts → Begins first second ss
    → Lays first width place from mid ss (all_stepped width done) → LaysStep second width place mid next ts s → Lays first width place from next new (all_stepped width (done ++ s ∷ []))
step_more first second width place from mid next ss ts new done s within e b l k =
    subst (λ (all : List Stage). Lays first width place from next all (all_stepped width (done ++ s ∷ []))) (sym e)
    (lays_as first width place from next (ss ++ ts) (then_made (all_stepped width done) (stepped width s)) (all_stepped width (done ++ s ∷ []))
    (λ quads graph a h w.
    sym (k.linear.each quads graph (all_stepped width done quads graph a)) ∙ sym (fold_last (λ left one. step width quads one graph left) (a ∷ []) done s))
    (then_lays width place first second from mid next ss ts (all_stepped width done) (stepped width s) within l k.lays b))

-- ---- groups

pub filter_more : (first : Bool) (width : ℕ) (place : Look) (from next : ℕ) (ss : List Stage) (f : Makes) (done : List Expr) (e : Expr) → Within width from place
    → Lays first width place from next ss (all_kept done f) → Lays first width place from next (ss ++ stage.Filter e ∷ []) (all_kept (done ++ e ∷ []) f)
filter_more first width place from next ss f done e within l =
    lays_as first width place from next (ss ++ stage.Filter e ∷ []) (then_made (all_kept done f) (filtered e)) (all_kept (done ++ e ∷ []) f)
    (λ quads graph a h w. kept_last done e (f quads graph a))
    (then_lays width place first false from next next ss (stage.Filter e ∷ []) (all_kept done f) (filtered e) within l (filter_lays false width place next e (omega (arith, l.named, l.up)))
    (record { whole = λ h. (let g : false ≡ true = h in cc); none = λ h. (let g : false ≡ true = h in cc) }))
  where
    holds_last : (cs : List Expr) (c : Expr) (m : Solution) → all_hold (cs ++ c ∷ []) m ≡ (all_hold cs m && holds m c)
    holds_last [] c m = at (holds m c)
      where
        at : (b : Bool) → (b && true) ≡ b
        at true = refl
        at false = refl
    holds_last (d ∷ cs) c m = at (holds m d) (holds_last cs c m)
      where
        at : (b : Bool) → all_hold (cs ++ c ∷ []) m ≡ (all_hold cs m && holds m c) → (b && all_hold (cs ++ c ∷ []) m) ≡ ((b && all_hold cs m) && holds m c)
        at true h = h
        at false h = refl

    kept_last : (cs : List Expr) (c : Expr) (xs : List Solution) → flat_map (λ a. kept_if (holds a c) a) (kept cs xs) ≡ kept (cs ++ c ∷ []) xs
    kept_last cs c [] = refl
    kept_last cs c (x ∷ xs) = at (all_hold cs x) (holds x c) refl refl (kept_last cs c xs)
      where
        at : (b d : Bool) → all_hold cs x ≡ b → holds x c ≡ d → flat_map (λ a. kept_if (holds a c) a) (kept cs xs) ≡ kept (cs ++ c ∷ []) xs → flat_map (λ a. kept_if (holds a c) a) (kept cs (x ∷ xs)) ≡ kept (cs ++ c ∷ []) (x ∷ xs)
        at true true e f i = let g : all_hold (cs ++ c ∷ []) x ≡ true = holds_last cs c x ∙ rw (e, f) refl in simp (e, f, g) (ap (λ l. x ∷ l) i)
        at true false e f i = let g : all_hold (cs ++ c ∷ []) x ≡ false = holds_last cs c x ∙ rw (e, f) refl in simp (e, f, g) i
        at false d e f i = let g : all_hold (cs ++ c ∷ []) x ≡ false = holds_last cs c x ∙ rw e refl in simp (e, g) i

-- no conditions
pub none_kept : (first : Bool) (width : ℕ) (place : Look) (from next : ℕ) (ss : List Stage) (f : Makes) → Lays first width place from next ss f → Lays first width place from next ss (all_kept [] f)
none_kept first width place from next ss f l =
    lays_as first width place from next ss f (all_kept [] f) (λ quads graph a h w. sym (all_stay (f quads graph a))) l
  where
    all_stay : (xs : List Solution) → kept [] xs ≡ xs
    all_stay [] = refl
    all_stay (x ∷ xs) = ap (λ l. x ∷ l) (all_stay xs)

join_all : (width : ℕ) (quads : List Statement) (graph : Triples) (steps : List Step) → AllByRecursion IsJoin steps → (a : Solution) (xs : List Solution)
    → fold (λ left one. step width quads one graph left) (merges xs a) steps ≡ merges (fold (λ left one. step width quads one graph left) xs steps) a
join_all width quads graph [] j a xs = refl
join_all width quads graph (s ∷ steps) j a xs =
    let right = eval width quads (j.0.0) graph in
    let e : (ys : List Solution) → step width quads s graph ys ≡ join ys right = λ ys. ap (λ t. step width quads t graph ys) j.0.1 ∙ step_join width quads graph (j.0.0) ys in
    ap (λ l. fold (λ left one. step width quads one graph left) l steps) (e (merges xs a) ∙ (merges_joined xs right a ∙ ap (λ l. merges l a) (sym (e xs))))
    ∙ join_all width quads graph steps j.1 a (step width quads s graph xs)

unit_merges : (width : ℕ) (a : Solution) → IsWide width a → merges (unbound width ∷ []) a ≡ a ∷ []
unit_merges width a w =
    let c : compatible a (unbound width) ≡ true = unbound_compatible width a in
    simp c (ap (λ x. x ∷ []) (ap (λ n. merge a (unbound n)) (sym w) ∙ unbound_merge a))

-- joins alone
pub joins_lay : (width : ℕ) (place : Look) (from next : ℕ) (ss : List Stage) (steps : List Step) (conditions : List Expr) → AllByRecursion IsJoin steps → conditions ≡ [] → Lays false width place from next ss (all_stepped width steps)
    → Lays false width place from next ss (joined_with width (pattern.Group steps conditions))
joins_lay width place from next ss steps conditions j none l =
    lays_as false width place from next ss (all_stepped width steps) (joined_with width (pattern.Group steps conditions))
    (λ quads graph a h w.
    ap (λ l. fold (λ left one. step width quads one graph left) l steps) (sym (unit_merges width a w))
    ∙ (join_all width quads graph steps j a (unbound width ∷ [])
    ∙ (ap (λ l. merges l a) (sym (all_stay (fold (λ left one. step width quads one graph left) (unbound width ∷ []) steps)))
    ∙ (ap (λ cs. merges (kept cs (fold (λ left one. step width quads one graph left) (unbound width ∷ []) steps)) a) (sym none)
    ∙ ap (λ l. merges l a) (sym (eval_group width quads graph steps conditions))))))
    l
  where
    all_stay : (xs : List Solution) → kept [] xs ≡ xs
    all_stay [] = refl
    all_stay (x ∷ xs) = ap (λ l. x ∷ l) (all_stay xs)

-- ---- unions

pub none_united : (first : Bool) (width : ℕ) (place : Look) (from : ℕ) → width ≤ from → Lays first width place from from (stage.Union [] ∷ []) (joined_with_all width [])
none_united first width place from named =
    stage_lays first width place from from named (omega arith) (stage.Union []) (joined_with_all width [])
    (λ quads active m r. subst (AllByRecursion (After width from from m)) (sym (gives_union width quads active m [])) tt)
    (λ quads active d e m r. same _ _ (ap (map (take width)) (gives_union width quads active m [])))

-- one branch more
pub union_more : (first : Bool) (width : ℕ) (place : Look) (from mid next : ℕ) (branches new : List Group) (ss : List Stage) (parts : List PatternNode) (i : ℕ) (part : PatternNode) → Within width from place → i < length parts → part ≡ get_or parts i part
    → new ≡ branches ++ record { stages = ss } ∷ []
    → Lays first width place from mid (stage.Union branches ∷ []) (joined_with_all width (take i parts)) → Lays first width place mid next ss (joined_with width part)
    → Lays first width place from next (stage.Union new ∷ []) (joined_with_all width (take (i + 1) parts))
union_more first width place from mid next branches new ss parts i part within lt is e a b =
    subst (λ (bs : List Group). Lays first width place from next (stage.Union bs ∷ []) (joined_with_all width (take (i + 1) parts))) (sym e)
    (stage_lays first width place from next a.named (omega (arith, a.up, b.up)) (stage.Union (branches ++ record { stages = ss } ∷ [])) (joined_with_all width (take (i + 1) parts)) after bag)
  where
    rows : (quads : List Statement) (active : Triples) (m : Solution) → gives width quads active (stage.Union (branches ++ record { stages = ss } ∷ [])) m ≡ through width quads active (stage.Union branches ∷ []) m ++ through width quads active ss m
    rows quads active m =
        gives_union width quads active m (branches ++ record { stages = ss } ∷ [])
        ∙ (flat_map-append (λ (g : Group). through width quads active g.stages m) branches (record { stages = ss } ∷ [])
        ∙ (ap (λ l. flat_map (λ (g : Group). through width quads active g.stages m) branches ++ l) (append-nil (through width quads active ss m))
        ∙ ap (λ l. l ++ through width quads active ss m) (sym (through_one width quads active (stage.Union branches) m ∙ gives_union width quads active m branches))))

    ready_left : (m : Solution) → Ready width first from next m → Ready width first from mid m
    ready_left m r = ready_less width first from mid next m b.up r

    ready_right : (m : Solution) → Ready width first from next m → Ready width first mid next m
    ready_right m r = record { wide = r.wide; short = r.short; free = λ v h. r.free v (omega (arith, h, a.up)); start = r.start }

    after : (quads : List Statement) (active : Triples) (m : Solution) → Ready width first from next m → AllByRecursion (After width from next m) (gives width quads active (stage.Union (branches ++ record { stages = ss } ∷ [])) m)
    after quads active m r =
        subst (AllByRecursion (After width from next m)) (sym (rows quads active m))
        (all_append (After width from next m) (through width quads active (stage.Union branches ∷ []) m) (through width quads active ss m)
        (all_map (After width from mid m) (After width from next m) (λ q k. record { wide = k.wide; free = λ v h. k.free v (omega (arith, h, b.up)); kept = k.kept }) (through width quads active (stage.Union branches ∷ []) m) (a.after quads active m (ready_left m r)))
        (all_map (After width mid next m) (After width from next m) (λ q k. record { wide = k.wide; free = k.free; kept = λ v h l. k.kept v h (omega (arith, l, a.up)) }) (through width quads active ss m) (b.after quads active m (ready_right m r))))

    bag : (quads : List Statement) (active : Triples) → Distinct same_statement quads → Distinct same_triple active → (m : Solution) → Ready width first from next m
        → SameBag (map (take width) (gives width quads active (stage.Union (branches ++ record { stages = ss } ∷ [])) m)) (joined_with_all width (take (i + 1) parts) quads (looked quads active place m) (take width m))
    bag quads active d k m r =
        let graph = looked quads active place m in
        let f = λ (p : PatternNode). eval width quads p graph in
        between _ (map (take width) (through width quads active (stage.Union branches ∷ []) m) ++ map (take width) (through width quads active ss m)) _
        (merges (flat_map f (take i parts)) (take width m) ++ merges (f part) (take width m))
        (ap (map (take width)) (rows quads active m) ∙ map-append (take width) (through width quads active (stage.Union branches ∷ []) m) (through width quads active ss m))
        (IsPermutation-append _ _ _ _ (a.bag quads active d k m (ready_left m r)) (b.bag quads active d k m (ready_right m r)))
        (sym (merges_append (take width m) (flat_map f (take i parts)) (f part))
        ∙ ap (λ l. merges l (take width m))
        (sym (ap (flat_map f) (take_more parts i part lt ∙ ap (λ x. take i parts ++ x ∷ []) (sym is)) ∙ (flat_map-append f (take i parts) (part ∷ []) ∙ ap (λ l. flat_map f (take i parts) ++ l) (append-nil (f part))))))

pub union_lays : (first : Bool) (width : ℕ) (place : Look) (from next : ℕ) (ss : List Stage) (parts : List PatternNode) → Lays first width place from next ss (joined_with_all width parts) → Lays first width place from next ss (joined_with width (pattern.Union parts))
union_lays first width place from next ss parts l =
    lays_as first width place from next ss (joined_with_all width parts) (joined_with width (pattern.Union parts)) (λ quads graph a h w. ap (λ xs. merges xs a) (sym (eval_union width quads graph parts))) l

-- ---- GRAPH

pub graph_lays : (first : Bool) (width : ℕ) (place : Look) (from next : ℕ) (ss : List Stage) (name : Term) (part : PatternNode) → Lays first width (look.Named name) from next ss (joined_with width part)
    → Lays first width place from next (stage.Exists name ∷ ss) (joined_with width (pattern.Graph name part))
graph_lays first width place from next ss name part l = record { named = l.named; up = l.up; bag = bag; after = after }
  where
    rows : (quads : List Statement) (active : Triples) (m : Solution) → through width quads active (stage.Exists name ∷ ss) m ≡ (if list_any (same_term name) (names_of quads) then through width quads active ss m else [])
    rows quads active m = ap (flat_map (through width quads active ss)) (gives_exists width quads active m name) ∙ at (list_any (same_term name) (names_of quads))
      where
        at : (b : Bool) → flat_map (through width quads active ss) (if b then m ∷ [] else []) ≡ (if b then through width quads active ss m else [])
        at true = append-nil (through width quads active ss m)
        at false = refl

    after : (quads : List Statement) (active : Triples) (m : Solution) → Ready width first from next m → AllByRecursion (After width from next m) (through width quads active (stage.Exists name ∷ ss) m)
    after quads active m r = subst (AllByRecursion (After width from next m)) (sym (rows quads active m)) (at (list_any (same_term name) (names_of quads)))
      where
        at : (b : Bool) → AllByRecursion (After width from next m) (if b then through width quads active ss m else [])
        at true = l.after quads active m r
        at false = tt

    bag : (quads : List Statement) (active : Triples) → Distinct same_statement quads → Distinct same_triple active → (m : Solution) → Ready width first from next m
        → SameBag (map (take width) (through width quads active (stage.Exists name ∷ ss) m)) (joined_with width (pattern.Graph name part) quads (looked quads active place m) (take width m))
    bag quads active d e m r =
        between _ _ _ _ (ap (map (take width)) (rows quads active m)) (at (list_any (same_term name) (names_of quads)))
        (ap (λ xs. merges xs (take width m)) (sym (eval_graph width quads (looked quads active place m) name part)))
      where
        at : (b : Bool) → SameBag (map (take width) (if b then through width quads active ss m else [])) (merges (if b then eval width quads part (graph_of quads (Some name)) else []) (take width m))
        at true = l.bag quads active d e m r
        at false = IsPermutation-refl []

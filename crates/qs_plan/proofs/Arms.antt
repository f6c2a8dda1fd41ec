-- The arms of the functions that lay stages.
use Rattle.std.proofs.Common.{◌≡◌, ℕ, ◌+◌, ◌≤◌, ◌<◌, Bool, true, false, List, [], ◌∷◌, ◌++◌, map, take, drop, length, get_or, refl, sym, ◌∙◌, ap, subst, arith, append-nil, append_assoc}
use Rattle.std.specs.List.{AllByRecursion}
use Rattle.std.proofs.lemmas.List.{take_more, take_all, drop_all, drop-append-le, length-take-le}
use Rattle.qs_terms.specs.declared.term.Term.{Term}
use Rattle.qs_expr_meaning.specs.declared.expr.Expr.{Expr}
use Rattle.qs_algebra_patterns.specs.declared.table.Table.{Table}
use Rattle.qs_algebra_patterns.specs.declared.pattern.PatternNode.{PatternNode}
use Rattle.qs_algebra_patterns.specs.declared.pattern.PatternNode.TheVariants as pattern
use Rattle.qs_algebra_patterns.specs.declared.pattern.Step.{Step}
use Rattle.qs_algebra_patterns.specs.declared.pattern.Step.TheVariants as one
use Rattle.qs_plan_meaning.specs.declared.stage.Look.{Look}
use Rattle.qs_plan_meaning.specs.declared.stage.Look.TheVariants as look
use Rattle.qs_plan_meaning.specs.declared.stage.Group.{Group}
use Rattle.qs_plan_meaning.specs.declared.stage.Stage.{Stage}
use Rattle.qs_plan_meaning.specs.declared.stage.Stage.TheVariants as stage
use Rattle.qs_plan.specs.inner.Lays.{Within, Makes, Lays, LaysStep, IsJoin, joined_with, joined_with_all, all_stepped, all_kept}
use Rattle.qs_plan_meaning.specs.inner.Stages.{register_of}
use Rattle.qs_plan.proofs.EachGraph.{bound_lays, each_lays}
use Rattle.qs_plan.proofs.Feeding.{fed_step}
use Rattle.qs_plan.proofs.Laying.{Begins, nothing_lays, values_lays, apart_lays, join_step, left_join_step, minus_step, extend_step, step_more, filter_more, none_kept, joins_lay, none_united, union_lays, graph_lays}

module _ (first : Bool) (width : ℕ) (place : Look) (from next : ℕ) (ss : List Stage) where
  -- by equations between what is laid
  pub lays_at : (f : Makes) (next' : ℕ) (ss' : List Stage) → next ≡ next' → ss ≡ ss' → Lays first width place from next' ss' f → Lays first width place from next ss f
  lays_at f next' ss' n e l =
      subst (λ (k : ℕ). Lays first width place from k ss f) (sym n) (subst (λ (xs : List Stage). Lays first width place from next' xs f) (sym e) l)

  step_at : (s : Step) (next' : ℕ) (ss' : List Stage) → next ≡ next' → ss ≡ ss' → LaysStep first width place from next' ss' s → LaysStep first width place from next ss s
  step_at s next' ss' n e l =
      subst (λ (k : ℕ). LaysStep first width place from k ss s) (sym n) (subst (λ (xs : List Stage). LaysStep first width place from next' xs s) (sym e) l)

  pub as_part : (p q : PatternNode) → p ≡ q → Lays first width place from next ss (joined_with width q) → Lays first width place from next ss (joined_with width p)
  as_part p q e l = subst (λ (x : PatternNode). Lays first width place from next ss (joined_with width x)) (sym e) l

  as_step : (s t : Step) → s ≡ t → LaysStep first width place from next ss t → LaysStep first width place from next ss s
  as_step s t e l = subst (λ (x : Step). LaysStep first width place from next ss x) (sym e) l

  pub values_arm : (p : PatternNode) (table : Table) → width ≤ from → p ≡ pattern.Values table → (ss ≡ stage.Values table ∷ []) × (next ≡ from) → Lays first width place from next ss (joined_with width p)
  values_arm p table named is e = as_part p (pattern.Values table) is (lays_at (joined_with width (pattern.Values table)) from (stage.Values table ∷ []) e.1 e.0 (values_lays first width place from table named))

  -- ---- steps

  pub join_arm : (s : Step) (part : PatternNode) → s ≡ one.Join part → Lays first width place from next ss (joined_with width part) → LaysStep first width place from next ss s
  join_arm s part is l = as_step s (one.Join part) is (join_step first width place from next ss part l)

  pub left_join_arm : (s : Step) (part : PatternNode) (conditions cs : List Expr) → s ≡ one.LeftJoin part conditions → cs ≡ conditions → LaysStep first width place from next ss (one.LeftJoin part cs) → LaysStep first width place from next ss s
  left_join_arm s part conditions cs is same l =
      as_step s (one.LeftJoin part conditions) is (subst (λ (xs : List Expr). LaysStep first width place from next ss (one.LeftJoin part xs)) same l)

  -- evaluated by itself
  pub optional_apart : (part : PatternNode) (conditions : List Expr) (inner : ℕ) (ts : List Stage) → width ≤ from → Within width from place → Lays true width place from inner ts (joined_with width part)
      → (ss ≡ stage.Optional (register_of place) (record { stages = ts }) conditions ∷ []) × (next ≡ inner) → LaysStep first width place from next ss (one.LeftJoin part conditions)
  optional_apart part conditions inner ts named within l e =
      step_at (one.LeftJoin part conditions) inner (stage.Optional (register_of place) (record { stages = ts }) conditions ∷ []) e.1 e.0 (left_join_step first width place from inner ts part conditions named within l)

  -- fed each row
  pub optional_fed : (part : PatternNode) (conditions : List Expr) (inner : ℕ) (ts : List Stage) → Lays false width place from inner ts (joined_with width part)
      → (ss ≡ stage.Fed (record { stages = ts }) conditions ∷ []) × (next ≡ inner) → LaysStep first width place from next ss (one.LeftJoin part conditions)
  optional_fed part conditions inner ts l e =
      step_at (one.LeftJoin part conditions) inner (stage.Fed (record { stages = ts }) conditions ∷ []) e.1 e.0 (fed_step width place from inner ts part l first conditions)

  pub minus_arm : (s : Step) (part : PatternNode) (inner : ℕ) (ts : List Stage) → width ≤ from → Within width from place → s ≡ one.Minus part → Lays true width place from inner ts (joined_with width part)
      → (ss ≡ stage.Minus (register_of place) (record { stages = ts }) ∷ []) × (next ≡ inner) → LaysStep first width place from next ss s
  minus_arm s part inner ts named within is l e =
      as_step s (one.Minus part) is (step_at (one.Minus part) inner (stage.Minus (register_of place) (record { stages = ts }) ∷ []) e.1 e.0 (minus_step first width place from inner ts part named within l))

  pub extend_arm : (s : Step) (v : ℕ) (e : Expr) → width ≤ from → s ≡ one.Extend v e → (ss ≡ stage.Bind v e ∷ []) × (next ≡ from) → LaysStep first width place from next ss s
  extend_arm s v e named is at =
      as_step s (one.Extend v e) is (step_at (one.Extend v e) from (stage.Bind v e ∷ []) at.1 at.0 (extend_step first width place from v e named))

  -- ---- a part that doesn't come first, evaluated by itself

  pub apart_arm : (part : PatternNode) (inner : ℕ) (ts : List Stage) → width ≤ from → Within width from place → Lays true width place from inner ts (joined_with width part)
      → (ss ≡ stage.Apart (register_of place) (record { stages = ts }) ∷ []) × (next ≡ inner) → Lays first width place from next ss (joined_with width part)
  apart_arm part inner ts named within l e =
      lays_at (joined_with width part) inner (stage.Apart (register_of place) (record { stages = ts }) ∷ []) e.1 e.0 (apart_lays width place from inner named within first ts part l)

  -- ---- unions and graphs

  pub union_arm : (parts : List PatternNode) (branches : List Group) (inner : ℕ) → Lays first width place from inner (stage.Union branches ∷ []) (joined_with_all width parts) → (ss ≡ stage.Union branches ∷ []) × (next ≡ inner)
      → Lays first width place from next ss (joined_with width (pattern.Union parts))
  union_arm parts branches inner l e =
      lays_at (joined_with width (pattern.Union parts)) inner (stage.Union branches ∷ []) e.1 e.0 (union_lays first width place from inner (stage.Union branches ∷ []) parts l)

  pub graph_arm : (name : Term) (seen : Look) (part : PatternNode) (inner : ℕ) (ts : List Stage) → seen ≡ look.Named name → Lays first width seen from inner ts (joined_with width part) → (ss ≡ stage.Exists name ∷ ts) × (next ≡ inner)
      → Lays first width place from next ss (joined_with width (pattern.Graph name part))
  graph_arm name seen part inner ts same l e =
      lays_at (joined_with width (pattern.Graph name part)) inner (stage.Exists name ∷ ts) e.1 e.0
      (graph_lays first width place from inner ts name part (subst (λ (p : Look). Lays first width p from inner ts (joined_with width part)) same l))

  pub each_arm : (v : ℕ) (part : PatternNode) (mid inner : ℕ) (ts : List Stage) → width ≤ from → mid ≡ from + 1 → Lays first width (look.Register from) mid inner ts (joined_with width part)
      → (ss ≡ stage.Names from ∷ (ts ++ stage.Name v from ∷ [])) × (next ≡ inner) → Lays first width place from next ss (joined_with width (pattern.EachGraph v part))
  each_arm v part mid inner ts named m l e =
      lays_at (joined_with width (pattern.EachGraph v part)) inner ss e.1 refl
      (each_lays first width from inner ts v part named (subst (λ (k : ℕ). Lays first width (look.Register from) k inner ts (joined_with width part)) m l) place ss e.0)

-- a flag that is known
pub at_flag : (first flag : Bool) (width : ℕ) (place : Look) (from next : ℕ) (ss : List Stage) (f : Makes) → first ≡ flag → Lays flag width place from next ss f → Lays first width place from next ss f
at_flag first flag width place from next ss f e l = subst (λ (b : Bool). Lays b width place from next ss f) (sym e) l

-- a named graph's name before what is laid in it
pub bound_arm : (whole : Bool) (width : ℕ) (place : Look) (from next : ℕ) (ss : List Stage) (v : ℕ) (part : PatternNode) (mid inner : ℕ) (ts : List Stage) → width ≤ from → mid ≡ from + 1 → Lays false width (look.Register from) mid inner ts (joined_with width part)
    → (ss ≡ stage.Names from ∷ stage.Name v from ∷ ts) × (next ≡ inner) → Lays whole width place from next ss (joined_with width (pattern.EachGraph v part))
bound_arm whole width place from next ss v part mid inner ts named m l e =
    lays_at whole width place from next ss (joined_with width (pattern.EachGraph v part)) inner ss e.1 refl
    (bound_lays false width from inner ts v part named (subst (λ (k : ℕ). Lays false width (look.Register from) k inner ts (joined_with width part)) m l) refl whole place ss e.0)

-- the register of a graph's name
pub register_within : (width from mid : ℕ) → width ≤ from → mid ≡ from + 1 → Within width mid (look.Register from)
register_within width from mid h e = (h, omega (arith, e))

-- ---- steps and conditions

pub begins_of : (first second : Bool) (ss : List Stage) → (second ≡ true → (first ≡ true) × (ss ≡ [])) → Begins first second ss
begins_of first second ss h = record { whole = λ e. (h e).0; none = λ e. (h e).1 }

-- the steps from one place up to another, and the next one
range_more : (start i : ℕ) (steps : List Step) (s : Step) → start ≤ i → i < length steps → s ≡ get_or steps i s → drop start (take i steps) ++ s ∷ [] ≡ drop start (take (i + 1) steps)
range_more start i steps s le lt is =
    sym (drop-append-le start (take i steps) (s ∷ []) (omega (arith, length-take-le i steps (omega (arith, lt)), le)))
    ∙ ap (drop start) (sym (take_more steps i s lt ∙ ap (λ x. take i steps ++ x ∷ []) (sym is)))

pub one_step_more : (first second : Bool) (width : ℕ) (place : Look) (from mid next : ℕ) (ss ts new : List Stage) (steps : List Step) (start i : ℕ) (s : Step) → Within width from place → start ≤ i → i < length steps → s ≡ get_or steps i s → new ≡ ss ++ ts
    → (second ≡ true → (first ≡ true) × (ss ≡ [])) → Lays first width place from mid ss (all_stepped width (drop start (take i steps))) → LaysStep second width place mid next ts s → Lays first width place from next new (all_stepped width (drop start (take (i + 1) steps)))
one_step_more first second width place from mid next ss ts new steps start i s within le lt is e b l k =
    subst (λ (done : List Step). Lays first width place from next new (all_stepped width done)) (range_more start i steps s le lt is)
    (step_more first second width place from mid next ss ts new (drop start (take i steps)) s within e (begins_of first second ss b) l k)

pub steps_init : (first : Bool) (width : ℕ) (place : Look) (from : ℕ) (stages : List Stage) (steps : List Step) (start : ℕ) → width ≤ from → start ≤ length steps → stages ≡ [] → Lays first width place from from stages (all_stepped width (drop start (take start steps)))
steps_init first width place from stages steps start named le e =
    subst (λ (done : List Step). Lays first width place from from stages (all_stepped width done)) (sym (drop_all start (take start steps) (omega (arith, length-take-le start steps le))))
    (subst (λ (ss : List Stage). Lays first width place from from ss (all_stepped width [])) (sym e) (nothing_lays first width place from named))

pub steps_end : (first : Bool) (width : ℕ) (place : Look) (from next : ℕ) (ss : List Stage) (steps : List Step) (start i end : ℕ) → i ≡ end → Lays first width place from next ss (all_stepped width (drop start (take i steps))) → Lays first width place from next ss (all_stepped width (drop start (take end steps)))
steps_end first width place from next ss steps start i end e l = subst (λ (n : ℕ). Lays first width place from next ss (all_stepped width (drop start (take n steps)))) e l

pub steps_all : (first : Bool) (width : ℕ) (place : Look) (from next : ℕ) (ss : List Stage) (steps : List Step) (start n : ℕ) → length steps ≤ n → Lays first width place from next ss (all_stepped width (drop start (take n steps))) → Lays first width place from next ss (all_stepped width (drop start steps))
steps_all first width place from next ss steps start n h l = subst (λ (xs : List Step). Lays first width place from next ss (all_stepped width (drop start xs))) (take_all n steps h) l

-- all filters, one after another
filters_lay : (first : Bool) (width : ℕ) (place : Look) (from next : ℕ) (ss : List Stage) (f : Makes) (done conditions : List Expr) → Within width from place → Lays first width place from next ss (all_kept done f) → Lays first width place from next (ss ++ map stage.Filter conditions) (all_kept (done ++ conditions) f)
filters_lay first width place from next ss f done [] within l =
    lays_at first width place from next (ss ++ []) (all_kept (done ++ []) f) next ss refl (append-nil ss) (subst (λ (cs : List Expr). Lays first width place from next ss (all_kept cs f)) (sym (append-nil done)) l)
filters_lay first width place from next ss f done (e ∷ conditions) within l =
    subst (λ (xs : List Stage). Lays first width place from next xs (all_kept (done ++ e ∷ conditions) f)) (append_assoc ss (stage.Filter e ∷ []) (map stage.Filter conditions))
    (subst (λ (cs : List Expr). Lays first width place from next ((ss ++ stage.Filter e ∷ []) ++ map stage.Filter conditions) (all_kept cs f)) (append_assoc done (e ∷ []) conditions)
    (filters_lay first width place from next (ss ++ stage.Filter e ∷ []) f (done ++ e ∷ []) conditions within (filter_more first width place from next ss f done e within l)))

pub filters_arm : (first : Bool) (width : ℕ) (place : Look) (from inner next : ℕ) (ts ss : List Stage) (f : Makes) (conditions : List Expr) → Within width from place → Lays first width place from inner ts f → (ss ≡ ts ++ map stage.Filter conditions) × (next ≡ inner)
    → Lays first width place from next ss (all_kept conditions f)
filters_arm first width place from inner next ts ss f conditions within l e =
    lays_at first width place from next ss (all_kept conditions f) inner (ts ++ map stage.Filter conditions) e.1 e.0 (filters_lay first width place from inner ts f [] conditions within (none_kept first width place from inner ts f l))

pub is_join_at : (s : Step) (part : PatternNode) → s ≡ one.Join part → IsJoin s
is_join_at s part e = (part, e)

pub joins_more : (steps : List Step) (i : ℕ) (s : Step) → i < length steps → s ≡ get_or steps i s → IsJoin s → AllByRecursion IsJoin (take i steps) → AllByRecursion IsJoin (take (i + 1) steps)
joins_more steps i s lt is j h =
    subst (AllByRecursion IsJoin) (sym (take_more steps i s lt ∙ ap (λ x. take i steps ++ x ∷ []) (sym is))) (last (take i steps) h)
  where
    last : (ss : List Step) → AllByRecursion IsJoin ss → AllByRecursion IsJoin (ss ++ s ∷ [])
    last [] h = (j, tt)
    last (t ∷ ss) h = (h.0, last ss h.1)

-- ---- groups

pub group_joins : (first : Bool) (width : ℕ) (place : Look) (from next : ℕ) (ss : List Stage) (steps : List Step) (conditions : List Expr) → first ≡ false → AllByRecursion IsJoin steps → conditions ≡ [] → Lays false width place from next ss (all_stepped width steps)
    → Lays first width place from next ss (joined_with width (pattern.Group steps conditions))
group_joins first width place from next ss steps conditions e j none l =
    at_flag first false width place from next ss (joined_with width (pattern.Group steps conditions)) e (joins_lay width place from next ss steps conditions j none l)

-- ---- loops

pub union_init : (first : Bool) (width : ℕ) (place : Look) (from : ℕ) (branches : List Group) (parts : List PatternNode) → width ≤ from → branches ≡ [] → Lays first width place from from (stage.Union branches ∷ []) (joined_with_all width (take 0 parts))
union_init first width place from branches parts named e =
    subst (λ (bs : List Group). Lays first width place from from (stage.Union bs ∷ []) (joined_with_all width (take 0 parts))) (sym e) (none_united first width place from named)

pub union_end : (first : Bool) (width : ℕ) (place : Look) (from next : ℕ) (ss : List Stage) (parts : List PatternNode) (i : ℕ) → length parts ≤ i → Lays first width place from next ss (joined_with_all width (take i parts)) → Lays first width place from next ss (joined_with_all width parts)
union_end first width place from next ss parts i h l = subst (λ (ps : List PatternNode). Lays first width place from next ss (joined_with_all width ps)) (take_all i parts h) l

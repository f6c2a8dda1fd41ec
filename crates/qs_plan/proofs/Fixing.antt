-- A table of the terms to which a condition fixes a variable may come before stages that are certain to bind it.
use Rattle.std.proofs.Common.{◌≡◌, ℕ, zero, suc, ◌+◌, ◌-◌, ◌≤◌, ◌<◌, Bool, true, false, ◌&&◌, ◌||◌, cond, List, [], ◌∷◌, ◌++◌, map, take, drop, length, get_or, Option, Some, None, IsSome, slice_set, refl, sym, ◌∙◌, ap, subst, arith}
use Rattle.std.specs.List.{AllByRecursion, filter, flat_map, fold, list_any}
use Rattle.std.proofs.lemmas.List.{get_or-take, length-drop, take_all, take-append-drop}
use Rattle.std.proofs.lemmas.List.Elements.{All-from_recursion, recursion_from_All, filter-append}
use Rattle.std.proofs.lemmas.List.Sorted.{All-permutation, IsPermutation-trans, IsPermutation-append}
use Rattle.std.proofs.lemmas.List.Sums.{fold-append}
use Rattle.qs_terms.specs.Bag.{Distinct, SameBag}
use Rattle.qs_terms.specs.inner.Bag.{times}
use Rattle.qs_terms.specs.Dataset.{same_triple}
use Rattle.qs_terms.specs.Statement.{Statement, same_statement}
use Rattle.qs_terms.specs.Term.{same_term}
use Rattle.qs_terms.specs.declared.term.Term.{Term}
use Rattle.qs_terms.proofs.Counts.{times-append, times-filter}
use Rattle.qs_terms.proofs.SameTerm.{same_term-Decides}
use Rattle.qs_expr_meaning.specs.Meaning.{meaning, holds}
use Rattle.qs_expr_meaning.specs.declared.expr.Expr.{Expr}
use Rattle.qs_expr_meaning.specs.declared.expr.Expr.TheVariants.{And}
use Rattle.qs_algebra_solutions.specs.Solution.{Solution, term_at, unbound, binding, compatible_terms, compatible, merge, same_solution}
use Rattle.qs_algebra_solutions.specs.Operators.{merges}
use Rattle.qs_algebra_solutions.proofs.Same.{same_solution-Decides}
use Rattle.qs_algebra_patterns.specs.Basic.{Graph}
use Rattle.qs_algebra_patterns.specs.Eval.{eval, all_hold}
use Rattle.qs_algebra_patterns.specs.inner.Eval.{kept, rows_of, step}
use Rattle.qs_algebra_patterns.specs.declared.table.Table.{Table}
use Rattle.qs_algebra_patterns.specs.declared.pattern.PatternNode.TheVariants as pattern
use Rattle.qs_algebra_patterns.specs.declared.pattern.PatternNode.{PatternNode}
use Rattle.qs_algebra_patterns.specs.declared.pattern.PatternNode.TheOpen as level
use Rattle.qs_algebra_patterns.specs.declared.pattern.Step.{Step, map-Step, roll-Step, ind-Step}
use Rattle.qs_algebra_patterns.specs.declared.pattern.Step.TheVariants.{rolls-Join, rolls-LeftJoin, rolls-Minus, rolls-Extend}
use Rattle.qs_algebra_patterns.proofs.Meaning.{eval_group, eval_values}
use Rattle.qs_plan.specs.declared.certain.Size.{Size}
use Rattle.qs_plan_meaning.specs.declared.stage.Look.{Look}
use Rattle.qs_plan_meaning.specs.declared.stage.Stage.{Stage}
use Rattle.qs_plan_meaning.specs.declared.stage.Stage.TheVariants as stage
use Rattle.qs_plan_meaning.specs.inner.Stages.{looked, only, register_of, through}
use Rattle.qs_plan.specs.inner.Certain.{Bound, Alike, Binds}
use Rattle.qs_plan.specs.inner.Fixes.{is_one_of, Fixes, SettledBy, StepKeeps, Found, joined_to, AreWide, kept_after, StandsFor, Instead}
use Rattle.qs_plan.specs.inner.Feeds.{LaysRest}
use Rattle.qs_plan.specs.inner.Reads.{Agree, Settles}
use Rattle.qs_plan.specs.inner.Lays.{Ready, Within, Makes, Lays, IsLinear, IsJoin, joined_with, all_stepped, all_kept}
use Rattle.qs_plan.proofs.Arms.{filters_arm}
use Rattle.qs_plan.proofs.Commutes.{all_map, flat_flat, merges_joined}
use Rattle.qs_plan.proofs.Entering.{holds_each, merged_alike}
use Rattle.qs_plan.proofs.Keeping.{all_more, still_bound}
use Rattle.qs_plan.proofs.Laying.{between, same, then_made, then_lays, lays_as, values_lays, only_ready, only_looked, join_linear, left_join_linear, minus_linear, extend_linear, joins_lay}
use Rattle.qs_plan.proofs.Levels.{flat_ap}
use Rattle.qs_plan.proofs.Onward.{no_term}
use Rattle.qs_plan.proofs.Operators.{by_times, filter_ap, merges_same}
use Rattle.qs_plan.proofs.Widths.{all_of, all_filter, all_flat, all_mapped, compatible_unbound, merge_unbound, merges_unbound, eval_wide, eval_merges}

-- ---- the row of one term

-- whether it is the term
abbrev pub is_it : Term → Option Term → Bool
is_it t None = false
is_it t (Some x) = same_term x t

self : (t : Term) → same_term t t ≡ true
self t = (same_term-Decides t t).1 refl

pub turned : (t x : Term) → same_term t x ≡ same_term x t
turned t x = at (same_term x t) refl
  where
    at : (b : Bool) → same_term x t ≡ b → same_term t x ≡ b
    at true e = let k : x ≡ t = (same_term-Decides x t).0 e in subst (λ (y : Term). same_term t y ≡ true) (sym k) (self t)
    at false e = by (same_term t x) refl
      where
        by : (c : Bool) → same_term t x ≡ c → c ≡ false
        by true f =
            let k : t ≡ x = (same_term-Decides t x).0 f in
            let g : same_term x t ≡ true = subst (λ (y : Term). same_term y t ≡ true) k (self t) in
            let n : true ≡ false = sym g ∙ e in cc
        by false f = refl

and_true : (b : Bool) → (b && true) ≡ b
and_true true = refl
and_true false = refl

row_compatible : (n v : ℕ) (t : Term) (p : Solution) → length p ≡ n → compatible (slice_set (unbound n) v (Some t)) p ≡ compatible_terms (Some t) (term_at p v)
row_compatible zero v t [] e = refl
row_compatible zero v t (y ∷ p) e = absurd (omega (arith, e))
row_compatible (suc n) v t [] e = absurd (omega (arith, e))
row_compatible (suc n) zero t (y ∷ p) e = ap (λ c. compatible_terms (Some t) y && c) (compatible_unbound n p) ∙ and_true (compatible_terms (Some t) y)
row_compatible (suc n) (suc v) t (y ∷ p) e = row_compatible n v t p (omega (arith, e))

row_merged : (n v : ℕ) (t : Term) (p : Solution) → length p ≡ n → term_at p v ≡ Some t → merge (slice_set (unbound n) v (Some t)) p ≡ p
row_merged zero v t [] e h = refl
row_merged zero v t (y ∷ p) e h = absurd (omega (arith, e))
row_merged (suc n) v t [] e h = absurd (omega (arith, e))
row_merged (suc n) zero t (y ∷ p) e h = ap (λ o. o ∷ merge (unbound n) p) (sym h) ∙ ap (λ l. y ∷ l) (merge_unbound n p (omega (arith, e)))
row_merged (suc n) (suc v) t (y ∷ p) e h = ap (λ l. y ∷ l) (row_merged n v t p (omega (arith, e)) h)

-- ---- the table

-- what has one of two properties that exclude each other
either_filter : (f g : Solution → Bool) → ((a : Solution) → (f a && g a) ≡ false) → (xs : List Solution) → SameBag (filter f xs ++ filter g xs) (filter (λ a. f a || g a) xs)
either_filter f g h xs =
    by_times _ _ (λ a.
    times-append same_solution a (filter f xs) (filter g xs)
    ∙ (ap (λ n. n + times same_solution a (filter g xs)) (times-filter same_solution same_solution-Decides f a xs)
    ∙ (ap (λ n. cond (f a) (times same_solution a xs) 0 + n) (times-filter same_solution same_solution-Decides g a xs)
    ∙ (at (f a) (g a) (h a) (times same_solution a xs) ∙ sym (times-filter same_solution same_solution-Decides (λ a. f a || g a) a xs)))))
  where
    at : (b c : Bool) → (b && c) ≡ false → (n : ℕ) → cond b n 0 + cond c n 0 ≡ cond (b || c) n 0
    at true true k n = absurd (let e : true ≡ false = k in cc)
    at true false k n = omega arith
    at false true k n = omega arith
    at false false k n = refl

module _ (n v : ℕ) where
  -- a solution that binds the variable
  abbrev pub Full : Solution → Type 0
  Full p = (length p ≡ n) × Bound v p

  abbrev pub row : Term → Solution
  row t = binding n (v ∷ []) (Some t ∷ [])

  abbrev pub among : List Term → Solution → Bool
  among ts p = is_one_of ts (term_at p v)

  merges_row : (t : Term) (ps : List Solution) → AllByRecursion Full ps → merges ps (row t) ≡ filter (λ p. is_it t (term_at p v)) ps
  merges_row t [] h = refl
  merges_row t (p ∷ ps) h = at (term_at p v) refl (merges_row t ps h.1)
    where
      at : (o : Option Term) → term_at p v ≡ o → merges ps (row t) ≡ filter (λ p. is_it t (term_at p v)) ps → merges (p ∷ ps) (row t) ≡ filter (λ p. is_it t (term_at p v)) (p ∷ ps)
      at None e i = absurd (no_term (term_at p v) e h.0.1)
      at (Some x) e i = by (same_term x t) refl
        where
          fits : compatible (row t) p ≡ same_term x t
          fits = row_compatible n v t p h.0.0 ∙ (ap (compatible_terms (Some t)) e ∙ turned t x)

          is : is_it t (term_at p v) ≡ same_term x t
          is = ap (is_it t) e

          by : (b : Bool) → same_term x t ≡ b → merges (p ∷ ps) (row t) ≡ filter (λ p. is_it t (term_at p v)) (p ∷ ps)
          by true f =
              let c : compatible (row t) p ≡ true = fits ∙ f in
              let g : is_it t (term_at p v) ≡ true = is ∙ f in
              simp (c, g) (ap (λ q. q ∷ merges ps (row t)) (row_merged n v t p h.0.0 (e ∙ ap Some ((same_term-Decides x t).0 f))) ∙ ap (λ l. p ∷ l) i)
          by false f =
              let c : compatible (row t) p ≡ false = fits ∙ f in
              let g : is_it t (term_at p v) ≡ false = is ∙ f in
              simp (c, g) i

  none_among : (ps : List Solution) → AllByRecursion Full ps → filter (among []) ps ≡ []
  none_among [] h = refl
  none_among (p ∷ ps) h = at (term_at p v) refl (none_among ps h.1)
    where
      at : (o : Option Term) → term_at p v ≡ o → filter (among []) ps ≡ [] → filter (among []) (p ∷ ps) ≡ []
      at None e i = absurd (no_term (term_at p v) e h.0.1)
      at (Some x) e i = let g : is_one_of [] (term_at p v) ≡ false = ap (is_one_of []) e in simp g i

  one_more : (t : Term) (ts : List Term) (o : Option Term) → (is_it t o || is_one_of ts o) ≡ is_one_of (t ∷ ts) o
  one_more t ts None = refl
  one_more t ts (Some x) = refl

  not_twice : (t : Term) (ts : List Term) → list_any (same_term t) ts ≡ false → (o : Option Term) → (is_it t o && is_one_of ts o) ≡ false
  not_twice t ts h None = refl
  not_twice t ts h (Some x) = at (same_term x t) refl
    where
      at : (b : Bool) → same_term x t ≡ b → (b && list_any (same_term x) ts) ≡ false
      at true e = subst (λ (y : Term). list_any (same_term y) ts ≡ false) (sym ((same_term-Decides x t).0 e)) h
      at false e = refl

  -- the merges with the rows of the terms are the solutions in which the variable is one of them
  pub rows_filter : (ts : List Term) → Distinct same_term ts → (ps : List Solution) → AllByRecursion Full ps → SameBag (flat_map (merges ps) (map row ts)) (filter (among ts) ps)
  rows_filter [] d ps h = same _ _ (sym (none_among ps h))
  rows_filter (t ∷ ts) d ps h =
      IsPermutation-trans _ _ _
      (IsPermutation-append _ _ _ _ (same _ _ (merges_row t ps h)) (rows_filter ts d.1 ps h))
      (IsPermutation-trans _ _ _
      (either_filter (λ p. is_it t (term_at p v)) (among ts) (λ p. not_twice t ts d.0 (term_at p v)) ps)
      (same _ _ (filter_ap (λ p. is_it t (term_at p v) || among ts p) (among (t ∷ ts)) (λ p. one_more t ts (term_at p v)) ps)))

  table_rows : (table : Table) (ts : List Term) → table.variables ≡ v ∷ [] → table.rows ≡ map (λ t. Some t ∷ []) ts → rows_of n table ≡ map row ts
  table_rows table ts e f = ap (λ vs. map (binding n vs) table.rows) e ∙ (ap (map (binding n (v ∷ []))) f ∙ each ts)
    where
      each : (ts : List Term) → map (binding n (v ∷ [])) (map (λ t. Some t ∷ []) ts) ≡ map row ts
      each [] = refl
      each (t ∷ ts) = ap (λ l. row t ∷ l) (each ts)

-- ---- what stages are certain to bind, the solutions do

pub permuted : (P : Solution → Type 0) (xs ys : List Solution) → SameBag xs ys → AllByRecursion P xs → AllByRecursion P ys
permuted P xs ys h k = recursion_from_All P ys (All-permutation P xs ys h (All-from_recursion P xs k))

pub ready_any : (width from next : ℕ) (m : Solution) → Ready width true from next m → Ready width false from next m
ready_any width from next m r = record { wide = r.wide; short = r.short; free = r.free; start = λ h. (let g : false ≡ true = h in cc) }

pub lays_any : (width : ℕ) (place : Look) (from next : ℕ) (ss : List Stage) (f : Makes) → Lays false width place from next ss f → Lays true width place from next ss f
lays_any width place from next ss f l = record {
  named = l.named;
  up = l.up;
  bag = λ quads active d e m r. l.bag quads active d e m (ready_any width from next m r);
  after = λ quads active m r. l.after quads active m (ready_any width from next m r);
}

module _ (size : Size) (place : Look) (from next : ℕ) (within : Within size.width from place) (room : size.cells ≤ next) (ss : List Stage) (found : Found) (wide : AreWide size.width found) (l : Lays false size.width place from next ss (joined_to found)) where
  module _ (quads : List Statement) (active : Graph) (d : Distinct same_statement quads) (e : Distinct same_triple active) (m : Solution) (r : Ready size.width false from next m) where
    abbrev start : Solution
    start = only (register_of place) m

    start_ready : Ready size.width true from next start
    start_ready = only_ready size.width place from next l.named within false m r l.up

    found_same : SameBag (map (take size.width) (through size.width quads active ss start)) (found quads (looked quads active place m))
    found_same =
        subst (λ (g : Graph). SameBag (map (take size.width) (through size.width quads active ss start)) (found quads g))
        (only_looked size.width place from next l.named within false place within quads active m (omega (arith, l.up, r.wide)))
        (between _ _ _ _ refl (l.bag quads active d e start (ready_any size.width from next start start_ready))
        (ap (merges (found quads (looked quads active place start))) (start_ready.start refl)
        ∙ merges_unbound size.width (found quads (looked quads active place start)) (wide quads (looked quads active place start))))

    pub found_bound : (v : ℕ) → v < size.width → Binds size [] v ss → AllByRecursion (Bound v) (found quads (looked quads active place m))
    found_bound v lt b =
        permuted (Bound v) _ _ found_same
        (all_mapped (Bound v) (Bound v) (take size.width) (λ q h. subst IsSome (sym (get_or-take size.width q v None lt)) h) (through size.width quads active ss start)
        (b.bound quads active start (record { wide = omega (arith, start_ready.wide, room); binds = tt })))

  -- with the table before them they make the merges with those solutions in which the variable is one of the terms
  module _ (v : ℕ) (ts : List Term) (table : Table) (lt : v < size.width) (b : Binds size [] v ss) (distinct : Distinct same_term ts) (column : table.variables ≡ v ∷ []) (rows : table.rows ≡ map (λ t. Some t ∷ []) ts) where
    abbrev fewer : Found
    fewer quads graph = filter (among size.width v ts) (found quads graph)

    both : (xs : List Solution) → AllByRecursion (λ x. length x ≡ size.width) xs → AllByRecursion (Bound v) xs → AllByRecursion (Full size.width v) xs
    both [] h k = tt
    both (x ∷ xs) h k = ((h.0, k.0), both xs h.1 k.1)

    table_first : Lays false size.width place from next (stage.Values table ∷ ss) (then_made (joined_with size.width (pattern.Values table)) (joined_to found))
    table_first =
        then_lays size.width place false false from from next (stage.Values table ∷ []) ss (joined_with size.width (pattern.Values table)) (joined_to found) within
        (values_lays false size.width place from table l.named) l
        (record { whole = λ h. (let g : false ≡ true = h in cc); none = λ h. (let g : false ≡ true = h in cc) })

    made_same : (quads : List Statement) (active : Graph) → Distinct same_statement quads → Distinct same_triple active → (m : Solution) → Ready size.width false from next m
        → SameBag (then_made (joined_with size.width (pattern.Values table)) (joined_to found) quads (looked quads active place m) (take size.width m)) (joined_to fewer quads (looked quads active place m) (take size.width m))
    made_same quads active d e m r =
        let graph = looked quads active place m in
        let a = take size.width m in
        between _ (merges (flat_map (merges (found quads graph)) (map (row size.width v) ts)) a) _ _
        (ap (λ xs. flat_map (merges (found quads graph)) (merges xs a)) (eval_values size.width quads graph table ∙ table_rows size.width v table ts column rows)
        ∙ merges_joined (map (row size.width v) ts) (found quads graph) a)
        (merges_same _ _ a (rows_filter size.width v ts distinct (found quads graph) (both (found quads graph) (wide quads graph) (found_bound quads active d e m r v lt b))))
        refl

    pub fewer_wide : AreWide size.width fewer
    fewer_wide quads graph = all_filter (λ x. length x ≡ size.width) (among size.width v ts) (found quads graph) (wide quads graph)

    pub fewer_lays : Lays false size.width place from next (stage.Values table ∷ ss) (joined_to fewer)
    fewer_lays = record {
      named = table_first.named;
      up = table_first.up;
      bag = λ quads active d e m r. IsPermutation-trans _ _ _ (table_first.bag quads active d e m r) (made_same quads active d e m r);
      after = table_first.after;
    }

-- ---- steps one after another

module _ (width : ℕ) where
  linear_level : (y : level.Step-F ((p : PatternNode) × Unit {0}) ((s : Step) × IsLinear width s))
      → IsLinear width (roll-Step (map-Step ((p : PatternNode) × Unit {0}) ((s : Step) × IsLinear width s) PatternNode Step (λ e. e.0) (λ e. e.0) y))
  linear_level (level.Join e) = subst (IsLinear width) (sym (rolls-Join e.0)) (join_linear width e.0)
  linear_level (level.LeftJoin e conditions) = subst (IsLinear width) (sym (rolls-LeftJoin e.0 conditions)) (left_join_linear width e.0 conditions)
  linear_level (level.Minus e) = subst (IsLinear width) (sym (rolls-Minus e.0)) (minus_linear width e.0)
  linear_level (level.Extend w e) = subst (IsLinear width) (sym (rolls-Extend w e)) (extend_linear width w e)

  pub linear : (s : Step) → IsLinear width s
  linear = ind-Step (λ (p : PatternNode). Unit {0}) (IsLinear width) (λ x y is. tt) (λ x y is. subst (λ z. IsLinear width (roll-Step z)) is (linear_level y))

  module _ (quads : List Statement) (graph : Graph) where
    -- what steps make of solutions, one after another
    abbrev pub on : List Step → List Solution → List Solution
    on steps xs = fold (λ left one. step width quads one graph left) xs steps

    alone : (xs : List Solution) → xs ≡ flat_map (λ a. a ∷ []) xs
    alone [] = refl
    alone (x ∷ xs) = ap (λ l. x ∷ l) (alone xs)

    pub on_each : (steps : List Step) (xs : List Solution) → on steps xs ≡ flat_map (all_stepped width steps quads graph) xs
    on_each [] xs = alone xs
    on_each (s ∷ ss) xs =
        ap (on ss) ((linear s).each quads graph xs)
        ∙ (on_each ss (flat_map (λ a. step width quads s graph (a ∷ [])) xs)
        ∙ (sym (flat_flat (λ a. step width quads s graph (a ∷ [])) (all_stepped width ss quads graph) xs)
        ∙ flat_ap (λ a. flat_map (all_stepped width ss quads graph) (step width quads s graph (a ∷ []))) (all_stepped width (s ∷ ss) quads graph) (λ a. sym (on_each ss (step width quads s graph (a ∷ [])))) xs))

    module _ (v : ℕ) (first : Solution) (b : Bound v first) where
      step_alike : (s : Step) → StepKeeps v s → (xs : List Solution) → AllByRecursion (Alike v first) xs → AllByRecursion (Alike v first) (step width quads s graph xs)
      step_alike s k xs h =
          subst (AllByRecursion (Alike v first)) (sym ((linear s).each quads graph xs))
          (all_flat (Alike v first) (Alike v first) (λ a. step width quads s graph (a ∷ []))
          (λ a e. all_map (Alike v a) (Alike v first) (λ r f. f ∙ e) (step width quads s graph (a ∷ [])) (k.alike width quads graph a (still_bound v first a e b))) xs h)

      on_alike : (steps : List Step) → AllByRecursion (StepKeeps v) steps → (xs : List Solution) → AllByRecursion (Alike v first) xs → AllByRecursion (Alike v first) (on steps xs)
      on_alike [] k xs h = h
      on_alike (s ∷ ss) k xs h = on_alike ss k.1 (step width quads s graph xs) (step_alike s k.0 xs h)

    -- ---- what is left out gives nothing

    module _ (v : ℕ) (ts : List Term) (e : Expr) (fixes : Fixes v ts e) (steps : List Step) (keep : AllByRecursion (StepKeeps v) steps) where
      is_bound : (o : Option Term) → is_one_of ts o ≡ false → IsSome o
      is_bound None h = let n : true ≡ false = h in cc
      is_bound (Some x) h = refl

      left_out : (p : Solution) → is_one_of ts (term_at p v) ≡ false → kept (e ∷ []) (all_stepped width steps quads graph p) ≡ []
      left_out p n = none (on steps (p ∷ [])) (on_alike v p (is_bound (term_at p v) n) steps keep (p ∷ []) (refl, tt))
        where
          none : (rs : List Solution) → AllByRecursion (Alike v p) rs → kept (e ∷ []) rs ≡ []
          none [] h = refl
          none (r ∷ rs) h = at (holds r e) refl (none rs h.1)
            where
              at : (b : Bool) → holds r e ≡ b → kept (e ∷ []) rs ≡ [] → kept (e ∷ []) (r ∷ rs) ≡ []
              at true f i = absurd (let k : true ≡ false = sym (fixes.only r f) ∙ (ap (is_one_of ts) h.0 ∙ n) in cc)
              at false f i = simp f i

      kept_fewer : (ps : List Solution) → kept_after width steps (e ∷ []) quads graph (filter (among width v ts) ps) ≡ kept_after width steps (e ∷ []) quads graph ps
      kept_fewer [] = refl
      kept_fewer (p ∷ ps) = at (among width v ts p) refl (kept_fewer ps)
        where
          makes : Solution → List Solution
          makes = all_stepped width steps quads graph

          test : Solution → Bool
          test = all_hold (e ∷ [])

          at : (b : Bool) → among width v ts p ≡ b → filter test (flat_map makes (filter (among width v ts) ps)) ≡ filter test (flat_map makes ps)
              → filter test (flat_map makes (cond b (p ∷ filter (among width v ts) ps) (filter (among width v ts) ps))) ≡ filter test (makes p ++ flat_map makes ps)
          at true f i = filter-append test (makes p) (flat_map makes (filter (among width v ts) ps)) ∙ (ap (λ l. filter test (makes p) ++ l) i ∙ sym (filter-append test (makes p) (flat_map makes ps)))
          at false f i = i ∙ sym (filter-append test (makes p) (flat_map makes ps) ∙ ap (λ l. l ++ filter test (flat_map makes ps)) (left_out p f))

-- ---- stages in place of others

pub table_instead : (size : Size) (steps : List Step) (v : ℕ) (ts : List Term) (e : Expr) (table : Table) (old new : List Stage) → Fixes v ts e → AllByRecursion (StepKeeps v) steps → v < size.width → Binds size [] v old
    → table.variables ≡ v ∷ [] → table.rows ≡ map (λ t. Some t ∷ []) ts → new ≡ stage.Values table ∷ old → Instead size steps (e ∷ []) old new
table_instead size steps v ts e table old new fixes keep lt b column rows is = record {
  stands = λ place from next found within room wide l.
      subst (λ (ss : List Stage). StandsFor size.width steps (e ∷ []) place from next ss found) (sym is) (record {
        fewer = fewer size place from next within room old found wide l v ts table lt b fixes.distinct column rows;
        wide = fewer_wide size place from next within room old found wide l v ts table lt b fixes.distinct column rows;
        lays = fewer_lays size place from next within room old found wide l v ts table lt b fixes.distinct column rows;
        same = λ quads graph. kept_fewer size.width quads graph v ts e fixes steps keep (found quads graph);
      });
}

module _ (size : Size) (steps : List Step) where
  pub instead_same : (conditions : List Expr) (old new : List Stage) → new ≡ old → Instead size steps conditions old new
  instead_same conditions old new is = record {
    stands = λ place from next found within room wide l.
        subst (λ (ss : List Stage). StandsFor size.width steps conditions place from next ss found) (sym is)
        (record { fewer = found; wide = wide; lays = l; same = λ quads graph. refl });
  }

  pub instead_then : (conditions : List Expr) (old mid new : List Stage) → Instead size steps conditions old mid → Instead size steps conditions mid new → Instead size steps conditions old new
  instead_then conditions old mid new h k = record {
    stands = λ place from next found within room wide l.
        (let x : StandsFor size.width steps conditions place from next mid found = h.stands place from next found within room wide l in
        let y : StandsFor size.width steps conditions place from next new x.fewer = k.stands place from next x.fewer within room x.wide x.lays in
        record { fewer = y.fewer; wide = y.wide; lays = y.lays; same = λ quads graph. y.same quads graph ∙ x.same quads graph });
  }

  module _ (cs ds : List Expr) (h : (m : Solution) → all_hold cs m ≡ true → all_hold ds m ≡ true) where
    kept_twice : (xs : List Solution) → kept cs xs ≡ kept cs (kept ds xs)
    kept_twice [] = refl
    kept_twice (x ∷ xs) = at (all_hold cs x) (all_hold ds x) refl refl (kept_twice xs)
      where
        at : (c d : Bool) → all_hold cs x ≡ c → all_hold ds x ≡ d → kept cs xs ≡ kept cs (kept ds xs) → cond c (x ∷ kept cs xs) (kept cs xs) ≡ kept cs (cond d (x ∷ kept ds xs) (kept ds xs))
        at true true e f i = ap (λ l. x ∷ l) i ∙ sym (ap (λ b. cond b (x ∷ kept cs (kept ds xs)) (kept cs (kept ds xs))) e)
        at true false e f i = absurd (let n : true ≡ false = sym (h x e) ∙ f in cc)
        at false true e f i = i ∙ sym (ap (λ b. cond b (x ∷ kept cs (kept ds xs)) (kept cs (kept ds xs))) e)
        at false false e f i = i

    pub instead_stronger : (old new : List Stage) → Instead size steps ds old new → Instead size steps cs old new
    instead_stronger old new k = record {
      stands = λ place from next found within room wide l.
          (let x : StandsFor size.width steps ds place from next new found = k.stands place from next found within room wide l in
          record {
            fewer = x.fewer;
            wide = x.wide;
            lays = x.lays;
            same = λ quads graph.
                kept_twice (flat_map (all_stepped size.width steps quads graph) (x.fewer quads graph))
                ∙ (ap (kept cs) (x.same quads graph) ∙ sym (kept_twice (flat_map (all_stepped size.width steps quads graph) (found quads graph))));
          });
    }

-- one condition more
hold_at : (cs : List Expr) (i : ℕ) (c : Expr) (m : Solution) → i < length cs → c ≡ get_or cs i c → all_hold cs m ≡ true → all_hold (c ∷ []) m ≡ true
hold_at [] i c m lt is h = absurd (omega (arith, lt))
hold_at (d ∷ cs) zero c m lt is h = ap (λ b. b && true) (ap (holds m) is ∙ (both (holds m d) (all_hold cs m) h).0)
  where
    both : (b c : Bool) → (b && c) ≡ true → (b ≡ true) × (c ≡ true)
    both true c k = (refl, k)
    both false c k = let n : false ≡ true = k in cc
hold_at (d ∷ cs) (suc i) c m lt is h = hold_at cs i c m (omega (arith, lt)) is (both (holds m d) (all_hold cs m) h).1
  where
    both : (b c : Bool) → (b && c) ≡ true → (b ≡ true) × (c ≡ true)
    both true c k = (refl, k)
    both false c k = let n : false ≡ true = k in cc

pub instead_more : (size : Size) (steps : List Step) (conditions : List Expr) (i : ℕ) (c : Expr) (old mid new : List Stage) → i < length conditions → c ≡ get_or conditions i c → Instead size steps conditions old mid → Instead size steps (c ∷ []) mid new
    → Instead size steps conditions old new
instead_more size steps conditions i c old mid new lt is h k =
    instead_then size steps conditions old mid new h (instead_stronger size steps conditions (c ∷ []) (λ m e. hold_at conditions i c m lt is e) mid new k)

pub instead_parts : (size : Size) (steps : List Step) (c : Expr) (parts slice : List Expr) (old new : List Stage) → c ≡ And parts → slice ≡ parts → Instead size steps slice old new → Instead size steps (c ∷ []) old new
instead_parts size steps c parts slice old new is e k =
    instead_stronger size steps (c ∷ []) slice (λ m h. subst (λ (l : List Expr). all_hold l m ≡ true) (sym e) (sym (holds_each m parts) ∙ (ap (holds m) (sym is) ∙ first (holds m c) h))) old new k
  where
    first : (b : Bool) → (b && true) ≡ true → b ≡ true
    first true h = refl
    first false h = h

-- ---- groups

-- a slice up to the end
pub rest_of : (count : ℕ) (steps : List Step) → take (length steps - count) (drop count steps) ≡ drop count steps
rest_of count steps = take_all (length steps - count) (drop count steps) (omega (arith, length-drop count steps))

module _ (width : ℕ) (place : Look) (from mid next : ℕ) (count : ℕ) (steps : List Step) (conditions : List Expr) (front new all ss : List Stage) (rest : List Step) where
  abbrev size : Size
  size = record { width = width; cells = mid }

  abbrev before : Found
  before quads graph = eval width quads (pattern.Group (take count steps) []) graph

  all_stay : (xs : List Solution) → kept [] xs ≡ xs
  all_stay [] = refl
  all_stay (x ∷ xs) = ap (λ l. x ∷ l) (all_stay xs)

  -- all steps after the first ones
  rest_same : (quads : List Statement) (graph : Graph) → kept_after width (drop count steps) conditions quads graph (before quads graph) ≡ eval width quads (pattern.Group steps conditions) graph
  rest_same quads graph =
      let none : List Solution = unbound width ∷ [] in
      ap (kept_after width (drop count steps) conditions quads graph) (eval_group width quads graph (take count steps) [] ∙ all_stay (on width quads graph (take count steps) none))
      ∙ (ap (kept conditions)
      (sym (on_each width quads graph (drop count steps) (on width quads graph (take count steps) none))
      ∙ (sym (fold-append (λ left one. step width quads one graph left) none (take count steps) (drop count steps))
      ∙ ap (λ l. on width quads graph l none) (take-append-drop count steps)))
      ∙ sym (eval_group width quads graph steps conditions))

  pub whole_lays : Within width from place → AllByRecursion IsJoin (take count steps) → Lays false width place from mid front (all_stepped width (take count steps)) → rest ≡ drop count steps → Instead size rest conditions front new
      → LaysRest width place mid next new all rest → ss ≡ all ++ map stage.Filter conditions
      → Lays true width place from next ss (joined_with width (pattern.Group steps conditions))
  whole_lays within joins l e instead k is =
      let x : StandsFor width (drop count steps) conditions place from mid new before =
      (subst (λ (r : List Step). Instead size r conditions front new) e instead).stands place from mid before within (omega arith) (λ quads graph. eval_wide width quads (pattern.Group (take count steps) []) graph) (joins_lay width place from mid front (take count steps) [] joins refl l) in
      lays_as true width place from next ss (all_kept conditions (then_made (joined_to x.fewer) (all_stepped width (drop count steps)))) (joined_with width (pattern.Group steps conditions))
      (λ quads graph a h w.
      ap (λ b. kept_after width (drop count steps) conditions quads graph (merges (x.fewer quads graph) b)) (h refl)
      ∙ (ap (kept_after width (drop count steps) conditions quads graph) (merges_unbound width (x.fewer quads graph) (x.wide quads graph))
      ∙ (x.same quads graph
      ∙ (rest_same quads graph
      ∙ (sym (eval_merges width quads (pattern.Group steps conditions) graph) ∙ ap (merges (eval width quads (pattern.Group steps conditions) graph)) (sym (h refl)))))))
      (filters_arm true width place from next next all ss (then_made (joined_to x.fewer) (all_stepped width (drop count steps))) conditions within
      ((subst (LaysRest width place mid next new all) e k).follows from (joined_to x.fewer) within (lays_any width place from mid new (joined_to x.fewer) x.lays))
      (is, refl))

-- ---- conditions in line

pub settled_more : (conditions : List Expr) (size : Size) (ss : List Stage) (i : ℕ) (c : Expr) → i < length conditions → c ≡ get_or conditions i c → AllByRecursion (SettledBy size ss) (take i conditions) → SettledBy size ss c → AllByRecursion (SettledBy size ss) (take (i + 1) conditions)
settled_more conditions size ss i c lt is h k = all_more (SettledBy size ss) conditions i c c lt is h k

-- what is certain to be bound stays when a row is merged with it
module _ (width : ℕ) (conditions : List Expr) (a : Solution) where
  abbrev Settled : Solution → Expr → Type 0
  Settled x e = (vs : List ℕ) × Settles vs e × AllByRecursion (λ v. Bound v x) vs

  holds_merged : (x : Solution) → compatible a x ≡ true → (e : Expr) → Settled x e → holds (merge a x) e ≡ holds x e
  holds_merged x c e s =
      let k : meaning (merge a x) e ≡ meaning x e = s.1.same x (merge a x) (agree s.0 s.2) in cc
    where
      agree : (vs : List ℕ) → AllByRecursion (λ v. Bound v x) vs → Agree vs x (merge a x)
      agree [] h = tt
      agree (v ∷ vs) h = (merged_alike (record { width = width; cells = width }) a x v c h.0, agree vs h.1)

  all_merged : (x : Solution) → compatible a x ≡ true → (es : List Expr) → AllByRecursion (Settled x) es → all_hold es (merge a x) ≡ all_hold es x
  all_merged x c [] h = refl
  all_merged x c (e ∷ es) h = ap (λ b. b && all_hold es (merge a x)) (holds_merged x c e h.0) ∙ ap (λ b. holds x e && b) (all_merged x c es h.1)

  pub kept_merges : (xs : List Solution) → AllByRecursion (λ x. AllByRecursion (Settled x) conditions) xs → kept conditions (merges xs a) ≡ merges (kept conditions xs) a
  kept_merges [] h = refl
  kept_merges (x ∷ xs) h = at (compatible a x) (all_hold conditions x) refl refl (kept_merges xs h.1)
    where
      at : (b d : Bool) → compatible a x ≡ b → all_hold conditions x ≡ d → kept conditions (merges xs a) ≡ merges (kept conditions xs) a
          → kept conditions (map (merge a) (cond b (x ∷ filter (compatible a) xs) (filter (compatible a) xs))) ≡ merges (cond d (x ∷ kept conditions xs) (kept conditions xs)) a
      at true true e f i =
          let g : all_hold conditions (merge a x) ≡ true = all_merged x e conditions h.0 ∙ f in
          ap (λ b. cond b (merge a x ∷ kept conditions (merges xs a)) (kept conditions (merges xs a))) g
          ∙ (ap (λ l. merge a x ∷ l) i ∙ sym (ap (λ b. map (merge a) (cond b (x ∷ filter (compatible a) (kept conditions xs)) (filter (compatible a) (kept conditions xs)))) e))
      at true false e f i =
          let g : all_hold conditions (merge a x) ≡ false = all_merged x e conditions h.0 ∙ f in
          ap (λ b. cond b (merge a x ∷ kept conditions (merges xs a)) (kept conditions (merges xs a))) g ∙ i
      at false true e f i = i ∙ sym (ap (λ b. map (merge a) (cond b (x ∷ filter (compatible a) (kept conditions xs)) (filter (compatible a) (kept conditions xs)))) e)
      at false false e f i = i

module _ (width : ℕ) (place : Look) (from mid : ℕ) (steps : List Step) (conditions : List Expr) (front new ss : List Stage) (within : Within width from place) (joins : AllByRecursion IsJoin steps) (l : Lays false width place from mid front (all_stepped width steps)) (instead : Instead (record { width = width; cells = mid }) [] conditions front new) (is : ss ≡ new ++ map stage.Filter conditions) where
  abbrev room : Size
  room = record { width = width; cells = mid }

  abbrev whole : Found
  whole quads graph = eval width quads (pattern.Group steps []) graph

  found_new : StandsFor width [] conditions place from mid new whole
  found_new = instead.stands place from mid whole within (omega arith) (λ quads graph. eval_wide width quads (pattern.Group steps []) graph) (joins_lay width place from mid front steps [] joins refl l)

  one_by_one : (xs : List Solution) → flat_map (λ (a : Solution). a ∷ []) xs ≡ xs
  one_by_one [] = refl
  one_by_one (x ∷ xs) = ap (λ l. x ∷ l) (one_by_one xs)

  stay : (xs : List Solution) → kept [] xs ≡ xs
  stay [] = refl
  stay (x ∷ xs) = ap (λ l. x ∷ l) (stay xs)

  group_is : (quads : List Statement) (graph : Graph) → kept conditions (found_new.fewer quads graph) ≡ eval width quads (pattern.Group steps conditions) graph
  group_is quads graph =
      ap (kept conditions) (sym (one_by_one (found_new.fewer quads graph)))
      ∙ (found_new.same quads graph
      ∙ (ap (kept conditions) (one_by_one (whole quads graph) ∙ (eval_group width quads graph steps [] ∙ stay (on width quads graph steps (unbound width ∷ []))))
      ∙ sym (eval_group width quads graph steps conditions)))

  filtered_lays : (first : Bool) → Lays first width place from mid new (joined_to found_new.fewer) → Lays first width place from mid ss (all_kept conditions (joined_to found_new.fewer))
  filtered_lays first k = filters_arm first width place from mid mid new ss (joined_to found_new.fewer) conditions within k (is, refl)

  pub plain_first : Lays true width place from mid ss (joined_with width (pattern.Group steps conditions))
  plain_first =
      lays_as true width place from mid ss (all_kept conditions (joined_to found_new.fewer)) (joined_with width (pattern.Group steps conditions))
      (λ quads graph a h w.
      ap (λ b. kept conditions (merges (found_new.fewer quads graph) b)) (h refl)
      ∙ (ap (kept conditions) (merges_unbound width (found_new.fewer quads graph) (found_new.wide quads graph))
      ∙ (group_is quads graph
      ∙ (sym (eval_merges width quads (pattern.Group steps conditions) graph) ∙ ap (merges (eval width quads (pattern.Group steps conditions) graph)) (sym (h refl))))))
      (filtered_lays true (lays_any width place from mid new (joined_to found_new.fewer) found_new.lays))

  module _ (settled : AllByRecursion (SettledBy room new) conditions) where
    bound_all : (quads : List Statement) (active : Graph) → Distinct same_statement quads → Distinct same_triple active → (m : Solution) → Ready width false from mid m → (vs : List ℕ) → AllByRecursion (λ v. (v < width) × Binds room [] v new) vs
        → AllByRecursion (λ x. AllByRecursion (λ v. Bound v x) vs) (found_new.fewer quads (looked quads active place m))
    bound_all quads active d e m r [] h = all_of (λ x. Unit {0}) (λ x. tt) (found_new.fewer quads (looked quads active place m))
    bound_all quads active d e m r (v ∷ vs) h =
        zip (found_new.fewer quads (looked quads active place m))
        (found_bound room place from mid within (omega arith) new found_new.fewer found_new.wide found_new.lays quads active d e m r v h.0.0 h.0.1) (bound_all quads active d e m r vs h.1)
      where
        zip : (xs : List Solution) → AllByRecursion (Bound v) xs → AllByRecursion (λ x. AllByRecursion (λ v. Bound v x) vs) xs → AllByRecursion (λ x. AllByRecursion (λ v. Bound v x) (v ∷ vs)) xs
        zip [] p q = tt
        zip (x ∷ xs) p q = ((p.0, q.0), zip xs p.1 q.1)

    settled_all : (quads : List Statement) (active : Graph) → Distinct same_statement quads → Distinct same_triple active → (m : Solution) → Ready width false from mid m → (es : List Expr) → AllByRecursion (SettledBy room new) es → (a : Solution)
        → AllByRecursion (λ x. AllByRecursion (Settled width conditions a x) es) (found_new.fewer quads (looked quads active place m))
    settled_all quads active d e m r [] h a = all_of (λ x. Unit {0}) (λ x. tt) (found_new.fewer quads (looked quads active place m))
    settled_all quads active d e m r (c ∷ es) h a =
        zip (found_new.fewer quads (looked quads active place m)) (bound_all quads active d e m r h.0.variables h.0.bound) (settled_all quads active d e m r es h.1 a)
      where
        zip : (xs : List Solution) → AllByRecursion (λ x. AllByRecursion (λ v. Bound v x) h.0.variables) xs → AllByRecursion (λ x. AllByRecursion (Settled width conditions a x) es) xs → AllByRecursion (λ x. AllByRecursion (Settled width conditions a x) (c ∷ es)) xs
        zip [] p q = tt
        zip (x ∷ xs) p q = (((h.0.variables, h.0.settles, p.0), q.0), zip xs p.1 q.1)

    pub plain_in_line : Lays false width place from mid ss (joined_with width (pattern.Group steps conditions))
    plain_in_line =
        let k : Lays false width place from mid ss (all_kept conditions (joined_to found_new.fewer)) = filtered_lays false found_new.lays in
        record {
          named = k.named;
          up = k.up;
          bag = λ quads active d e m r.
              between _ _ _ _ refl (k.bag quads active d e m r)
              (kept_merges width conditions (take width m) (found_new.fewer quads (looked quads active place m)) (settled_all quads active d e m r conditions settled (take width m))
              ∙ ap (λ xs. merges xs (take width m)) (group_is quads (looked quads active place m)));
          after = k.after;
        }

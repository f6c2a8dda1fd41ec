-- Which stages leave a variable as it is, and how a filter goes before such a stage.
use Rattle.std.proofs.Common.{◌≡◌, ◌≢◌, ◌⊎◌, inl, inr, ℕ, zero, suc, ◌+◌, ◌≤◌, ◌<◌, ◌==◌, Bool, true, false, not, ◌||◌, if◌then◌else◌, List, [], ◌∷◌, ◌++◌, map, take, drop, length, get_or, Option, Some, None, slice_set, refl, sym, ◌∙◌, ap, subst, arith}
use Rattle.std.specs.List.{AllByRecursion, filter, flat_map, list_any}
use Rattle.std.proofs.lemmas.Bool.{cases_lt}
use Rattle.std.proofs.lemmas.Bool.Decides.{eqb_tells}
use Rattle.std.proofs.lemmas.List.{get_or-set_other, take-append-drop, get_or-take, take_more}
use Rattle.qs_terms.specs.Dataset.{names_of}
use Rattle.qs_terms.specs.Statement.{Statement}
use Rattle.qs_terms.specs.Term.{same_term}
use Rattle.qs_terms.specs.declared.term.Term.{Term}
use Rattle.qs_expr_meaning.specs.declared.expr.Expr.{Expr}
use Rattle.qs_expr_meaning.specs.Meaning.{meaning, holds}
use Rattle.qs_algebra_solutions.specs.Solution.{Solution, term_at, unbound, bind_all, binding, compatible, merge}
use Rattle.qs_algebra_solutions.specs.inner.Solution.{first_bound}
use Rattle.qs_algebra_solutions.specs.Operators.{merges, or_alone, excludes}
use Rattle.qs_algebra_patterns.specs.Basic.{Graph}
use Rattle.qs_algebra_patterns.specs.Eval.{all_hold}
use Rattle.qs_algebra_patterns.specs.inner.Eval.{bound_to, rows_of}
use Rattle.qs_algebra_patterns.specs.declared.table.Table.{Table}
use Rattle.qs_algebra_patterns.specs.declared.pattern.TriplePattern.{TriplePattern}
use Rattle.qs_algebra_patterns.specs.declared.pattern.PathPattern.{PathPattern}
use Rattle.qs_plan_meaning.specs.declared.stage.Group.{Group}
use Rattle.qs_plan_meaning.specs.declared.stage.Look.{Look}
use Rattle.qs_plan_meaning.specs.declared.stage.Stage.{Stage}
use Rattle.qs_plan_meaning.specs.declared.stage.Stage.TheVariants as stage
use Rattle.qs_plan_meaning.specs.inner.Scans.{bound_triple, bound_ends, path_pairs}
use Rattle.qs_plan_meaning.specs.inner.Stages.{Made, looked, kept_if, only, aside, through}
use Rattle.qs_plan.specs.inner.Reads.{Agree, Leaves, LeaveAll}
use Rattle.qs_plan.specs.inner.Sames.{Misses}
use Rattle.qs_plan.proofs.Commutes.{all_map, scanned_each}
use Rattle.qs_plan.proofs.Laying.{same}
use Rattle.qs_plan.proofs.Levels.{gives_triple, gives_path, gives_exists, gives_names, gives_name, gives_filter, gives_bind, gives_values, gives_union, gives_optional, gives_fed, gives_minus, gives_apart, through_append, through_one}
use Rattle.qs_plan.proofs.Swaps.{triple_stays, ends_stay}
use Rattle.qs_plan.proofs.Widths.{all_append, all_filter, all_mapped, unbound_at, merge_at}

first_none : (x : Option Term) → first_bound x None ≡ x
first_none None = refl
first_none (Some x) = refl

pub not_true : (b : Bool) → not b ≡ true → b ≡ false
not_true true h = let f : false ≡ true = h in cc
not_true false h = refl

pub differs : (w v : ℕ) → not (w == v) ≡ true → w ≢ v
differs w v h e = elim (eqb_tells w v) as (λ x. ⊥) [ inl p ↦ (let g : true ≡ false = sym p.0 ∙ not_true (w == v) h in cc) | inr p ↦ p.1 e ]

short : (n : ℕ) (m : Solution) (w : ℕ) → n ≤ w → term_at (take n m) w ≡ None
short zero m w h = refl
short (suc n) [] w h = refl
short (suc n) (x ∷ m) zero h = absurd (omega arith)
short (suc n) (x ∷ m) (suc w) h = short n m w (omega arith)

first_self : (x : Option Term) → first_bound x x ≡ x
first_self None = refl
first_self (Some x) = refl

module _ (v : ℕ) where
  abbrev Still : Solution → Solution → Type 0
  Still m q = term_at q v ≡ term_at m v

  abbrev Gone : Solution → Type 0
  Gone x = term_at x v ≡ None

  -- ---- merges with solutions that don't bind it

  merges_leave : (m : Solution) (xs : List Solution) → AllByRecursion Gone xs → AllByRecursion (Still m) (merges xs m)
  merges_leave m xs h =
      all_mapped Gone (Still m) (merge m) (λ x e. merge_at m x v ∙ (ap (first_bound (term_at m v)) e ∙ first_none (term_at m v))) (filter (compatible m) xs) (all_filter Gone (compatible m) xs h)

  -- ---- merges with rows that bind it as the row does, without their hidden cells

  abbrev As : Solution → Solution → Type 0
  As m x = first_bound (term_at m v) (term_at x v) ≡ term_at m v

  taken_as : (width : ℕ) (m q : Solution) → Still m q → As m (take width q)
  taken_as width m q e = at (cases_lt v width)
    where
      at : (v < width) ⊎ (width ≤ v) → As m (take width q)
      at (inl lt) = ap (first_bound (term_at m v)) (get_or-take width q v None lt ∙ e) ∙ first_self (term_at m v)
      at (inr le) = ap (first_bound (term_at m v)) (short width q v le) ∙ first_none (term_at m v)

  merges_as : (m : Solution) (xs : List Solution) → AllByRecursion (As m) xs → AllByRecursion (Still m) (merges xs m)
  merges_as m xs h = all_mapped (As m) (Still m) (merge m) (λ x e. merge_at m x v ∙ e) (filter (compatible m) xs) (all_filter (As m) (compatible m) xs h)

  bind_other : (a : Solution) (vs : List ℕ) (terms : List (Option Term)) → list_any (λ w. w == v) vs ≡ false → term_at (bind_all a vs terms) v ≡ term_at a v
  bind_other a [] terms h = refl
  bind_other a (w ∷ vs) [] h = refl
  bind_other a (w ∷ vs) (t ∷ terms) h =
      let k = neither (w == v) (list_any (λ w. w == v) vs) h in
      bind_other (slice_set a w t) vs terms k.1 ∙ get_or-set_other a w v t None (λ e. differs w k.0 (sym e))
    where
      neither : (a b : Bool) → (a || b) ≡ false → (a ≡ false) × (b ≡ false)
      neither true b h = let f : true ≡ false = h in cc
      neither false b h = (refl, h)

      differs : (w : ℕ) → (w == v) ≡ false → w ≡ v → ⊥
      differs w f e = elim (eqb_tells w v) as (λ x. ⊥) [ inl p ↦ (let g : true ≡ false = sym p.0 ∙ f in cc) | inr p ↦ p.1 e ]

  binding_gone : (n : ℕ) (vs : List ℕ) (terms : List (Option Term)) → list_any (λ w. w == v) vs ≡ false → Gone (binding n vs terms)
  binding_gone n vs terms h = bind_other (unbound n) vs terms h ∙ unbound_at n v

  rows_gone : (n : ℕ) (table : Table) → list_any (λ w. w == v) table.variables ≡ false → AllByRecursion Gone (rows_of n table)
  rows_gone n table h = rows table.rows
    where
      rows : (rs : List (List (Option Term))) → AllByRecursion Gone (map (binding n table.variables) rs)
      rows [] = tt
      rows (r ∷ rs) = (binding_gone n table.variables r h, rows rs)

  take_gone : (n : ℕ) (m : Solution) → Gone m → Gone (take n m)
  take_gone n m h = at (cases_lt v n)
    where
      at : (v < n) ⊎ (n ≤ v) → Gone (take n m)
      at (inl lt) = get_or-take n m v None lt ∙ h
      at (inr le) = short n m v le

  only_gone : (r : Option ℕ) (m : Solution) → (r ≡ Some v → ⊥) → Gone (only r m)
  only_gone None m h = unbound_at (length m) v
  only_gone (Some r) m h = get_or-set_other (unbound (length m)) r v (term_at m r) None (λ e. h (ap Some (sym e))) ∙ unbound_at (length m) v

  aside_gone : (width : ℕ) (quads : List Statement) (active : Graph) (r : Option ℕ) (g : Group) (m : Solution) → LeaveAll v g.stages → (r ≡ Some v → ⊥) → AllByRecursion Gone (aside width r (through width quads active g.stages) m)
  aside_gone width quads active r g m h n =
      all_mapped (Still (only r m)) Gone (take width) (λ q e. take_gone width q (e ∙ only_gone r m n)) (through width quads active g.stages (only r m)) (h.same width quads active (only r m))

  kept_still : (b : Bool) (m : Solution) → AllByRecursion (Still m) (kept_if b m)
  kept_still true m = (refl, tt)
  kept_still false m = tt

  -- ---- stages

  pub triple_leaves : (s : Stage) (place : Look) (p : TriplePattern) → s ≡ stage.Triple place p → Misses (Some v) p.subject × (Misses (Some v) p.predicate × Misses (Some v) p.object) → Leaves v s
  triple_leaves s place p is h = subst (Leaves v) (sym is) (record {
    same = λ width quads active m.
        subst (AllByRecursion (Still m)) (sym (gives_triple width quads active m place p))
        (scanned_each (Still m) (λ t. bound_triple p t m) (λ t q k. (triple_stays (Some v) p t m q h.0 h.1.0 h.1.1 k).holds) (looked quads active place m));
  })

  pub path_leaves : (s : Stage) (place : Look) (p : PathPattern) → s ≡ stage.Path place p → Misses (Some v) p.subject × Misses (Some v) p.object → Leaves v s
  path_leaves s place p is h = subst (Leaves v) (sym is) (record {
    same = λ width quads active m.
        subst (AllByRecursion (Still m)) (sym (gives_path width quads active m place p))
        (scanned_each (Still m) (λ x. bound_ends p x m) (λ x q k. (ends_stay (Some v) p x m q h.0 h.1 k).holds) (path_pairs p (looked quads active place m)));
  })

  pub exists_leaves : (s : Stage) (name : Term) → s ≡ stage.Exists name → Leaves v s
  exists_leaves s name is = subst (Leaves v) (sym is) (record {
    same = λ width quads active m. subst (AllByRecursion (Still m)) (sym (gives_exists width quads active m name)) (at m (list_any (same_term name) (names_of quads)));
  })
    where
      at : (m : Solution) (b : Bool) → AllByRecursion (Still m) (if b then m ∷ [] else [])
      at m true = (refl, tt)
      at m false = tt

  pub names_leave : (s : Stage) (r : ℕ) → s ≡ stage.Names r → r ≢ v → Leaves v s
  names_leave s r is ne = subst (Leaves v) (sym is) (record {
    same = λ width quads active m. subst (AllByRecursion (Still m)) (sym (gives_names width quads active m r)) (at m (names_of quads));
  })
    where
      at : (m : Solution) (ns : List Term) → AllByRecursion (Still m) (map (λ n. slice_set m r (Some n)) ns)
      at m [] = tt
      at m (n ∷ ns) = (get_or-set_other m r v (Some n) None (λ e. ne (sym e)), at m ns)

  pub name_leaves : (s : Stage) (w r : ℕ) → s ≡ stage.Name w r → (w == v) ≡ false → Leaves v s
  name_leaves s w r is ne = subst (Leaves v) (sym is) (record {
    same = λ width quads active m.
        subst (AllByRecursion (Still m)) (sym (gives_name width quads active m w r))
        (merges_leave m (binding width (w ∷ []) (term_at m r ∷ []) ∷ []) (binding_gone width (w ∷ []) (term_at m r ∷ []) (rw ne refl), tt));
  })

  pub filter_leaves : (s : Stage) (e : Expr) → s ≡ stage.Filter e → Leaves v s
  filter_leaves s e is = subst (Leaves v) (sym is) (record {
    same = λ width quads active m. subst (AllByRecursion (Still m)) (sym (gives_filter width quads active m e)) (kept_still (holds (take width m) e) m);
  })

  pub bind_leaves : (s : Stage) (w : ℕ) (e : Expr) → s ≡ stage.Bind w e → w ≢ v → Leaves v s
  bind_leaves s w e is ne = subst (Leaves v) (sym is) (record {
    same = λ width quads active m.
        subst (AllByRecursion (Still m)) (sym (gives_bind width quads active m w e))
        (to_bound (take width m) (drop width m) (meaning (take width m) e) ∙ ap (λ l. term_at l v) (take-append-drop width m), tt);
  })
    where
      set_front : (a b : Solution) (w v : ℕ) (t : Option Term) → (w ≡ v → ⊥) → term_at (slice_set a w t ++ b) v ≡ term_at (a ++ b) v
      set_front [] b w v t h = refl
      set_front (x ∷ a) b zero zero t h = absurd (h refl)
      set_front (x ∷ a) b zero (suc v) t h = refl
      set_front (x ∷ a) b (suc w) zero t h = refl
      set_front (x ∷ a) b (suc w) (suc v) t h = set_front a b w v t (λ e. h (ap suc e))

      to_bound : (a b : Solution) (o : Option Term) → term_at (bound_to a w o ++ b) v ≡ term_at (a ++ b) v
      to_bound a b None = refl
      to_bound a b (Some t) = set_front a b w v (Some t) ne

  pub values_leave : (s : Stage) (table : Table) → s ≡ stage.Values table → list_any (λ w. w == v) table.variables ≡ false → Leaves v s
  values_leave s table is h = subst (Leaves v) (sym is) (record {
    same = λ width quads active m. subst (AllByRecursion (Still m)) (sym (gives_values width quads active m table)) (merges_leave m (rows_of width table) (rows_gone width table h));
  })

  pub union_leaves : (s : Stage) (branches bs : List Group) → s ≡ stage.Union branches → bs ≡ branches → AllByRecursion (λ g. LeaveAll v g.stages) bs → Leaves v s
  union_leaves s branches bs is e h = subst (Leaves v) (sym is) (record {
    same = λ width quads active m.
        subst (AllByRecursion (Still m)) (sym (gives_union width quads active m branches)) (at width quads active m branches (subst (AllByRecursion (λ (g : Group). LeaveAll v g.stages)) e h));
  })
    where
      at : (width : ℕ) (quads : List Statement) (active : Graph) (m : Solution) (gs : List Group) → AllByRecursion (λ (g : Group). LeaveAll v g.stages) gs → AllByRecursion (Still m) (flat_map (λ (g : Group). through width quads active g.stages m) gs)
      at width quads active m [] k = tt
      at width quads active m (g ∷ gs) k = all_append (Still m) (through width quads active g.stages m) (flat_map (λ (g : Group). through width quads active g.stages m) gs) (k.0.same width quads active m) (at width quads active m gs k.1)

  pub optional_leaves : (s : Stage) (r : Option ℕ) (g : Group) (conditions : List Expr) → s ≡ stage.Optional r g conditions → LeaveAll v g.stages → (r ≡ Some v → ⊥) → Leaves v s
  optional_leaves s r g conditions is h n = subst (Leaves v) (sym is) (record {
    same = λ width quads active m.
        subst (AllByRecursion (Still m)) (sym (gives_optional width quads active m r g conditions))
        (alone m _ (all_filter (Still m) (λ q. all_hold conditions (take width q)) _ (merges_leave m _ (aside_gone width quads active r g m h n))));
  })
    where
      alone : (m : Solution) (xs : List Solution) → AllByRecursion (Still m) xs → AllByRecursion (Still m) (or_alone m xs)
      alone m [] k = (refl, tt)
      alone m (x ∷ xs) k = k

  pub fed_leaves : (s : Stage) (g : Group) (conditions : List Expr) → s ≡ stage.Fed g conditions → LeaveAll v g.stages → Leaves v s
  fed_leaves s g conditions is h = subst (Leaves v) (sym is) (record {
    same = λ width quads active m.
        subst (AllByRecursion (Still m)) (sym (gives_fed width quads active m g conditions))
        (alone m _ (all_filter (Still m) (λ q. all_hold conditions (take width q)) _ (merges_as m _ (all_mapped (Still m) (As m) (take width) (taken_as width m) (through width quads active g.stages m) (h.same width quads active m)))));
  })
    where
      alone : (m : Solution) (xs : List Solution) → AllByRecursion (Still m) xs → AllByRecursion (Still m) (or_alone m xs)
      alone m [] k = (refl, tt)
      alone m (x ∷ xs) k = k

  pub minus_leaves : (s : Stage) (r : Option ℕ) (g : Group) → s ≡ stage.Minus r g → Leaves v s
  minus_leaves s r g is = subst (Leaves v) (sym is) (record {
    same = λ width quads active m. subst (AllByRecursion (Still m)) (sym (gives_minus width quads active m r g)) (kept_still (not (list_any (excludes (take width m)) (aside width r (through width quads active g.stages) m))) m);
  })

  pub apart_leaves : (s : Stage) (r : Option ℕ) (g : Group) → s ≡ stage.Apart r g → LeaveAll v g.stages → (r ≡ Some v → ⊥) → Leaves v s
  apart_leaves s r g is h n = subst (Leaves v) (sym is) (record {
    same = λ width quads active m. subst (AllByRecursion (Still m)) (sym (gives_apart width quads active m r g)) (merges_leave m _ (aside_gone width quads active r g m h n));
  })

  -- ---- one after another

  pub none_leave : LeaveAll v []
  none_leave = record { same = λ width quads active m. (refl, tt) }

  pub more_leave : (ss : List Stage) (i : ℕ) (s : Stage) → i < length ss → s ≡ get_or ss i s → LeaveAll v (take i ss) → Leaves v s → LeaveAll v (take (i + 1) ss)
  more_leave ss i s lt is h k = subst (LeaveAll v) (sym (take_more ss i s lt ∙ ap (λ x. take i ss ++ x ∷ []) (sym is))) (record {
    same = λ width quads active m.
        subst (AllByRecursion (Still m)) (sym (through_append width quads active (take i ss) (s ∷ []) m))
        (flat m (through width quads active (s ∷ [])) (λ q. subst (AllByRecursion (Still q)) (sym (through_one width quads active s q)) (k.same width quads active q)) (through width quads active (take i ss) m) (h.same width quads active m));
  })
    where
      flat : (m : Solution) (f : Made) → ((q : Solution) → AllByRecursion (Still q) (f q)) → (xs : List Solution) → AllByRecursion (Still m) xs → AllByRecursion (Still m) (flat_map f xs)
      flat m f g [] a = tt
      flat m f g (x ∷ xs) a = all_append (Still m) (f x) (flat_map f xs) (all_map (Still x) (Still m) (λ q e. e ∙ a.0) (f x) (g x)) (flat m f g xs a.1)

-- ---- a filter goes before a stage that leaves its variables

-- each row of all variables
pub all_agree : (vs : List ℕ) (m : Solution) (xs : List Solution) → AllByRecursion (λ v. AllByRecursion (λ q. term_at q v ≡ term_at m v) xs) vs → AllByRecursion (Agree vs m) xs
all_agree vs m [] h = tt
all_agree vs m (x ∷ xs) h = (firsts vs h, all_agree vs m xs (rests vs h))
  where
    firsts : (us : List ℕ) → AllByRecursion (λ v. AllByRecursion (λ q. term_at q v ≡ term_at m v) (x ∷ xs)) us → Agree us m x
    firsts [] k = tt
    firsts (u ∷ us) k = (k.0.0, firsts us k.1)

    rests : (us : List ℕ) → AllByRecursion (λ v. AllByRecursion (λ q. term_at q v ≡ term_at m v) (x ∷ xs)) us → AllByRecursion (λ v. AllByRecursion (λ q. term_at q v ≡ term_at m v) xs) us
    rests [] k = tt
    rests (u ∷ us) k = (k.0.1, rests us k.1)

pub taken_agree : (width : ℕ) (vs : List ℕ) (m q : Solution) → Agree vs m q → Agree vs (take width m) (take width q)
taken_agree width [] m q h = tt
taken_agree width (v ∷ vs) m q h = (at (cases_lt v width), taken_agree width vs m q h.1)
  where
    at : (v < width) ⊎ (width ≤ v) → term_at (take width q) v ≡ term_at (take width m) v
    at (inl lt) = get_or-take width q v None lt ∙ (h.0 ∙ sym (get_or-take width m v None lt))
    at (inr le) = short width q v le ∙ sym (short width m v le)

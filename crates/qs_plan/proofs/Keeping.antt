-- Which stages keep what a row binds to a variable.
use Rattle.std.proofs.Common.{◌≡◌, ℕ, ◌+◌, ◌<◌, ◌==◌, Bool, true, false, not, if◌then◌else◌, List, [], ◌∷◌, ◌++◌, take, length, get_or, Option, Some, None, IsSome, slice_set, refl, sym, ◌∙◌, ap, subst}
use Rattle.std.specs.List.{AllByRecursion, filter, flat_map, list_any}
use Rattle.std.proofs.lemmas.List.{get_or-set_other, take_more}
use Rattle.qs_terms.specs.Dataset.{Triple, names_of}
use Rattle.qs_terms.specs.Statement.{Statement}
use Rattle.qs_terms.specs.Term.{same_term}
use Rattle.qs_terms.specs.declared.term.Term.{Term}
use Rattle.qs_paths_meaning.specs.Pair.{Pair}
use Rattle.qs_expr_meaning.specs.declared.expr.Expr.{Expr}
use Rattle.qs_expr_meaning.specs.Meaning.{holds}
use Rattle.qs_algebra_solutions.specs.Solution.{Solution, term_at, binding, compatible, merge}
use Rattle.qs_algebra_solutions.specs.Operators.{merges, or_alone, excludes}
use Rattle.qs_algebra_patterns.specs.Basic.{Graph}
use Rattle.qs_algebra_patterns.specs.Eval.{all_hold}
use Rattle.qs_algebra_patterns.specs.inner.Eval.{rows_of}
use Rattle.qs_algebra_patterns.specs.declared.pattern.Slot.{Slot}
use Rattle.qs_algebra_patterns.specs.declared.pattern.Slot.TheVariants as slot
use Rattle.qs_algebra_patterns.specs.declared.table.Table.{Table}
use Rattle.qs_algebra_patterns.specs.declared.pattern.PathPattern.{PathPattern}
use Rattle.qs_algebra_patterns.specs.declared.pattern.TriplePattern.{TriplePattern}
use Rattle.qs_plan_meaning.specs.declared.stage.Group.{Group}
use Rattle.qs_plan_meaning.specs.declared.stage.Look.{Look}
use Rattle.qs_plan_meaning.specs.declared.stage.Stage.{Stage}
use Rattle.qs_plan_meaning.specs.declared.stage.Stage.TheVariants as stage
use Rattle.qs_plan_meaning.specs.inner.Scans.{bound_at, bound_slot, bound_end, bound_triple, bound_ends, path_pairs}
use Rattle.qs_plan_meaning.specs.inner.Stages.{looked, kept_if, aside, fed_rows, gives, through}
use Rattle.qs_plan.specs.inner.Certain.{Bound, Alike, Keeps}
use Rattle.qs_plan.specs.inner.Reads.{Leaves}
use Rattle.qs_plan.proofs.Commutes.{slot_sets, scanned_each}
use Rattle.qs_plan.proofs.Leaving.{names_leave, bind_leaves, differs}
use Rattle.qs_plan.proofs.Levels.{gives_triple, gives_path, gives_exists, gives_name, gives_filter, gives_values, gives_union, gives_optional, gives_fed, gives_minus, gives_apart}
use Rattle.qs_plan.proofs.Onward.{no_term, triple_way, path_way, merge_alike}
use Rattle.qs_plan.proofs.Widths.{all_of, all_append, all_filter, all_mapped, all_flat}

module _ (v : ℕ) where
  -- a row that binds the variable as m does still binds it
  pub still_bound : (m q : Solution) → Alike v m q → Bound v m → Bound v q
  still_bound m q a h = subst IsSome (sym a) h

  alike_trans : (m q r : Solution) → Alike v m q → Alike v q r → Alike v m r
  alike_trans m q r a b = b ∙ a

  at_alike : (w : ℕ) (t : Term) (m q : Solution) (c : Option Term) → term_at m w ≡ c → bound_at c w t m ≡ Some q → Bound v m → Alike v m q
  at_alike w t m q None e h b =
      let k : q ≡ slice_set m w (Some t) = cc in
      ap (λ l. term_at l v) k ∙ get_or-set_other m w v (Some t) None (λ i. none (ap (term_at m) i ∙ e))
    where
      none : term_at m v ≡ None → ⊥
      none f = no_term (term_at m v) f b
  at_alike w t m q (Some x) e h b = at (same_term x t) h
    where
      at : (c : Bool) → (if c then Some m else None) ≡ Some q → Alike v m q
      at true k = let f : q ≡ m = cc in ap (λ l. term_at l v) f
      at false k = let f : None ≡ Some q = k in cc

  slot_alike : (s : Slot) (t : Term) (m q : Solution) → bound_slot s t m ≡ Some q → Bound v m → Alike v m q
  slot_alike (slot.Term c) t m q h b = let e : q ≡ m = slot_sets (slot.Term c) t m q h in ap (λ l. term_at l v) e
  slot_alike (slot.Variable w) t m q h b = at_alike w t m q (term_at m w) refl h b

  end_alike : (s : Slot) (t : Term) (m q : Solution) → bound_end s t m ≡ Some q → Bound v m → Alike v m q
  end_alike (slot.Term c) t m q h b = let e : q ≡ m = cc in ap (λ l. term_at l v) e
  end_alike (slot.Variable w) t m q h b = at_alike w t m q (term_at m w) refl h b

  triple_alike : (p : TriplePattern) (t : Triple) (m q : Solution) → bound_triple p t m ≡ Some q → Bound v m → Alike v m q
  triple_alike p t m q h b =
      let w = triple_way p t m q h in
      let e = slot_alike p.subject t.subject m w.x w.first b in
      let f = slot_alike p.predicate t.predicate w.x w.y w.second (still_bound m w.x e b) in
      alike_trans m w.y q (alike_trans m w.x w.y e f) (slot_alike p.object t.object w.y q w.third (still_bound w.x w.y f (still_bound m w.x e b)))

  path_alike : (p : PathPattern) (x : Pair) (m q : Solution) → bound_ends p x m ≡ Some q → Bound v m → Alike v m q
  path_alike p x m q h b =
      let w = path_way p x m q h in
      let e = end_alike p.subject x.left m w.x w.first b in
      alike_trans m w.x q e (end_alike p.object x.right w.x q w.second (still_bound m w.x e b))

  pub merges_alike : (xs : List Solution) (m : Solution) → Bound v m → AllByRecursion (Alike v m) (merges xs m)
  merges_alike xs m b = all_mapped (λ x. Unit {0}) (Alike v m) (merge m) (λ x u. merge_alike m x v b) (filter (compatible m) xs) (all_of (λ x. Unit {0}) (λ x. tt) (filter (compatible m) xs))

  kept_alike : (b : Bool) (m : Solution) → AllByRecursion (Alike v m) (kept_if b m)
  kept_alike true m = (refl, tt)
  kept_alike false m = tt

  pub alone_alike : (m : Solution) (xs : List Solution) → AllByRecursion (Alike v m) xs → AllByRecursion (Alike v m) (or_alone m xs)
  alone_alike m [] k = (refl, tt)
  alone_alike m (x ∷ xs) k = k

  -- a stage that leaves the variable keeps it
  left_keeps : (s : Stage) → Leaves v s → Keeps v s
  left_keeps s h = record { alike = λ width quads active m b. h.same width quads active m }

  -- ---- stages

  pub triple_keeps : (s : Stage) (place : Look) (p : TriplePattern) → s ≡ stage.Triple place p → Keeps v s
  triple_keeps s place p is = subst (Keeps v) (sym is) (record {
    alike = λ width quads active m b.
        subst (AllByRecursion (Alike v m)) (sym (gives_triple width quads active m place p)) (scanned_each (Alike v m) (λ t. bound_triple p t m) (λ t q k. triple_alike p t m q k b) (looked quads active place m));
  })

  pub path_keeps : (s : Stage) (place : Look) (p : PathPattern) → s ≡ stage.Path place p → Keeps v s
  path_keeps s place p is = subst (Keeps v) (sym is) (record {
    alike = λ width quads active m b.
        subst (AllByRecursion (Alike v m)) (sym (gives_path width quads active m place p)) (scanned_each (Alike v m) (λ x. bound_ends p x m) (λ x q k. path_alike p x m q k b) (path_pairs p (looked quads active place m)));
  })

  pub exists_keeps : (s : Stage) (name : Term) → s ≡ stage.Exists name → Keeps v s
  exists_keeps s name is = subst (Keeps v) (sym is) (record {
    alike = λ width quads active m b. subst (AllByRecursion (Alike v m)) (sym (gives_exists width quads active m name)) (at m (list_any (same_term name) (names_of quads)));
  })
    where
      at : (m : Solution) (b : Bool) → AllByRecursion (Alike v m) (if b then m ∷ [] else [])
      at m true = (refl, tt)
      at m false = tt

  pub names_keep : (s : Stage) (r : ℕ) → s ≡ stage.Names r → not (r == v) ≡ true → Keeps v s
  names_keep s r is h = left_keeps s (names_leave v s r is (differs r v h))

  pub name_keeps : (s : Stage) (w r : ℕ) → s ≡ stage.Name w r → Keeps v s
  name_keeps s w r is = subst (Keeps v) (sym is) (record {
    alike = λ width quads active m b. subst (AllByRecursion (Alike v m)) (sym (gives_name width quads active m w r)) (merges_alike (binding width (w ∷ []) (term_at m r ∷ []) ∷ []) m b);
  })

  pub filter_keeps : (s : Stage) (e : Expr) → s ≡ stage.Filter e → Keeps v s
  filter_keeps s e is = subst (Keeps v) (sym is) (record {
    alike = λ width quads active m b. subst (AllByRecursion (Alike v m)) (sym (gives_filter width quads active m e)) (kept_alike (holds (take width m) e) m);
  })

  pub bind_keeps : (s : Stage) (w : ℕ) (e : Expr) → s ≡ stage.Bind w e → not (w == v) ≡ true → Keeps v s
  bind_keeps s w e is h = left_keeps s (bind_leaves v s w e is (differs w v h))

  pub values_keep : (s : Stage) (table : Table) → s ≡ stage.Values table → Keeps v s
  values_keep s table is = subst (Keeps v) (sym is) (record {
    alike = λ width quads active m b. subst (AllByRecursion (Alike v m)) (sym (gives_values width quads active m table)) (merges_alike (rows_of width table) m b);
  })

  keep_all : (width : ℕ) (quads : List Statement) (active : Graph) (ss : List Stage) → AllByRecursion (Keeps v) ss → (m : Solution) → Bound v m → AllByRecursion (Alike v m) (through width quads active ss m)
  keep_all width quads active [] h m b = (refl, tt)
  keep_all width quads active (s ∷ ss) h m b =
      all_flat (Alike v m) (Alike v m) (through width quads active ss)
      (λ q a. on q (through width quads active ss q) a (keep_all width quads active ss h.1 q (still_bound m q a b))) (gives width quads active s m) (h.0.alike width quads active m b)
    where
      on : (q : Solution) (xs : List Solution) → Alike v m q → AllByRecursion (Alike v q) xs → AllByRecursion (Alike v m) xs
      on q [] a k = tt
      on q (x ∷ xs) a k = (alike_trans m q x a k.0, on q xs a k.1)

  pub union_keeps : (s : Stage) (branches slice : List Group) → s ≡ stage.Union branches → slice ≡ branches → AllByRecursion (λ (g : Group). AllByRecursion (Keeps v) g.stages) slice → Keeps v s
  union_keeps s branches slice is e h = subst (Keeps v) (sym is) (record {
    alike = λ width quads active m b.
        subst (AllByRecursion (Alike v m)) (sym (gives_union width quads active m branches)) (at width quads active m b branches (subst (AllByRecursion (λ (g : Group). AllByRecursion (Keeps v) g.stages)) e h));
  })
    where
      at : (width : ℕ) (quads : List Statement) (active : Graph) (m : Solution) → Bound v m → (gs : List Group) → AllByRecursion (λ (g : Group). AllByRecursion (Keeps v) g.stages) gs
          → AllByRecursion (Alike v m) (flat_map (λ (g : Group). through width quads active g.stages m) gs)
      at width quads active m b [] k = tt
      at width quads active m b (g ∷ gs) k = all_append (Alike v m) (through width quads active g.stages m) _ (keep_all width quads active g.stages k.0 m b) (at width quads active m b gs k.1)

  pub optional_keeps : (s : Stage) (r : Option ℕ) (g : Group) (conditions : List Expr) → s ≡ stage.Optional r g conditions → Keeps v s
  optional_keeps s r g conditions is = subst (Keeps v) (sym is) (record {
    alike = λ width quads active m b.
        subst (AllByRecursion (Alike v m)) (sym (gives_optional width quads active m r g conditions))
        (alone_alike m _ (all_filter (Alike v m) (λ q. all_hold conditions (take width q)) _ (merges_alike (aside width r (through width quads active g.stages) m) m b)));
  })

  pub fed_keeps : (s : Stage) (g : Group) (conditions : List Expr) → s ≡ stage.Fed g conditions → Keeps v s
  fed_keeps s g conditions is = subst (Keeps v) (sym is) (record {
    alike = λ width quads active m b.
        subst (AllByRecursion (Alike v m)) (sym (gives_fed width quads active m g conditions))
        (alone_alike m _ (all_filter (Alike v m) (λ q. all_hold conditions (take width q)) _ (merges_alike (fed_rows width (through width quads active g.stages) m) m b)));
  })

  pub minus_keeps : (s : Stage) (r : Option ℕ) (g : Group) → s ≡ stage.Minus r g → Keeps v s
  minus_keeps s r g is = subst (Keeps v) (sym is) (record {
    alike = λ width quads active m b.
        subst (AllByRecursion (Alike v m)) (sym (gives_minus width quads active m r g)) (kept_alike (not (list_any (excludes (take width m)) (aside width r (through width quads active g.stages) m))) m);
  })

  pub apart_keeps : (s : Stage) (r : Option ℕ) (g : Group) → s ≡ stage.Apart r g → Keeps v s
  apart_keeps s r g is = subst (Keeps v) (sym is) (record {
    alike = λ width quads active m b. subst (AllByRecursion (Alike v m)) (sym (gives_apart width quads active m r g)) (merges_alike (aside width r (through width quads active g.stages) m) m b);
  })

-- one more
pub all_more : {X : Type 0} (P : X → Type 0) (xs : List X) (i : ℕ) (d x : X) → i < length xs → x ≡ get_or xs i d → AllByRecursion P (take i xs) → P x → AllByRecursion P (take (i + 1) xs)
all_more P xs i d x lt is h k = subst (AllByRecursion P) (sym (take_more xs i d lt ∙ ap (λ y. take i xs ++ y ∷ []) (sym is))) (all_append P (take i xs) (x ∷ []) h (k, tt))

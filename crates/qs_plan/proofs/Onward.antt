-- Stages neither shorten a row nor unbind a variable: by induction on the stage.
use Rattle.std.proofs.Common.{◌≡◌, inl, inr, ℕ, zero, suc, ◌+◌, ◌≤◌, Bool, true, false, not, if◌then◌else◌, List, [], ◌∷◌, ◌++◌, map, take, drop, length, Option, Some, None, IsSome, slice_set, refl, sym, ◌∙◌, subst, arith}
use Rattle.std.specs.List.{AllByRecursion, filter, flat_map, list_any}
use Rattle.std.proofs.lemmas.List.{length-set, take-append-drop}
use Rattle.qs_terms.specs.Dataset.{Triple, names_of}
use Rattle.qs_terms.specs.Statement.{Statement}
use Rattle.qs_terms.specs.Term.{same_term}
use Rattle.qs_terms.specs.declared.term.Term.{Term}
use Rattle.qs_paths_meaning.specs.Pair.{Pair}
use Rattle.qs_expr_meaning.specs.declared.expr.Expr.{Expr}
use Rattle.qs_expr_meaning.specs.Meaning.{meaning, holds}
use Rattle.qs_algebra_solutions.specs.Solution.{Solution, term_at, binding, compatible, merge}
use Rattle.qs_algebra_solutions.specs.inner.Solution.{first_bound}
use Rattle.qs_algebra_solutions.specs.Operators.{merges, or_alone, excludes}
use Rattle.qs_algebra_patterns.specs.Basic.{Graph}
use Rattle.qs_algebra_patterns.specs.Eval.{all_hold}
use Rattle.qs_algebra_patterns.specs.inner.Eval.{bound_to, rows_of}
use Rattle.qs_algebra_patterns.specs.declared.pattern.Slot.{Slot}
use Rattle.qs_algebra_patterns.specs.declared.pattern.Slot.TheVariants as slot
use Rattle.qs_algebra_patterns.specs.declared.pattern.PathPattern.{PathPattern}
use Rattle.qs_algebra_patterns.specs.declared.pattern.TriplePattern.{TriplePattern}
use Rattle.qs_plan_meaning.specs.declared.stage.Group.{Group, map-Group, roll-Group}
use Rattle.qs_plan_meaning.specs.declared.stage.Stage.{Stage, map-Stage, roll-Stage, ind-Stage}
use Rattle.qs_plan_meaning.specs.declared.stage.Stage.TheOpen as level
use Rattle.qs_plan_meaning.specs.declared.stage.Stage.TheVariants.{rolls-Triple, rolls-Path, rolls-Exists, rolls-Names, rolls-Name, rolls-Filter, rolls-Bind, rolls-Values, rolls-Union, rolls-Optional, rolls-Fed, rolls-Minus, rolls-Apart}
use Rattle.qs_plan_meaning.specs.inner.Scans.{bound_slot, bound_end, then_bound, bound_triple, bound_ends, path_pairs}
use Rattle.qs_plan_meaning.specs.inner.Stages.{looked, kept_if, aside, fed_rows, gives, through}
use Rattle.qs_plan.specs.inner.Certain.{Bound, Alike}
use Rattle.qs_plan.proofs.Commutes.{SetBy, slot_sets, end_sets, scanned_each}
use Rattle.qs_plan.proofs.Levels.{gives_triple, gives_path, gives_exists, gives_names, gives_name, gives_filter, gives_bind, gives_values, gives_union, gives_optional, gives_fed, gives_minus, gives_apart}
use Rattle.qs_plan.proofs.Widths.{all_of, all_append, all_filter, all_mapped, all_flat, merge_at}

-- none is no term
pub no_term : (x : Option Term) → x ≡ None → IsSome x → ⊥
no_term None e h = let f : false ≡ true = h in cc
no_term (Some t) e h = cc

-- a row that is no shorter, and binds what the other binds
pub record Onward (m q : Solution) : Type 0 where
  pub wide : length m ≤ length q
  pub bound : (v : ℕ) → Bound v m → Bound v q

pub onward_refl : (m : Solution) → Onward m m
onward_refl m = record { wide = omega arith; bound = λ v h. h }

pub onward_trans : (m q r : Solution) → Onward m q → Onward q r → Onward m r
onward_trans m q r a b = record { wide = omega (arith, a.wide, b.wide); bound = λ v h. b.bound v (a.bound v h) }

-- ---- cells

pub set_bound : (a : Solution) (w v : ℕ) (t : Term) → Bound v a → Bound v (slice_set a w (Some t))
set_bound [] w v t h = h
set_bound (x ∷ a) zero zero t h = refl
set_bound (x ∷ a) zero (suc v) t h = h
set_bound (x ∷ a) (suc w) zero t h = h
set_bound (x ∷ a) (suc w) (suc v) t h = set_bound a w v t h

set_onward : (m : Solution) (w : ℕ) (t : Term) → Onward m (slice_set m w (Some t))
set_onward m w t = record { wide = omega (arith, length-set m w (Some t)); bound = λ v h. set_bound m w v t h }

first_onward : (x : Option Term) (a b : Solution) → Onward a b → Onward (x ∷ a) (x ∷ b)
first_onward x a b o = record { wide = omega (arith, o.wide); bound = cell }
  where
    cell : (v : ℕ) → Bound v (x ∷ a) → Bound v (x ∷ b)
    cell zero h = h
    cell (suc v) h = o.bound v h

front_onward : (a b : Solution) (w : ℕ) (t : Term) → Onward (a ++ b) (slice_set a w (Some t) ++ b)
front_onward [] b w t = onward_refl b
front_onward (x ∷ a) b zero t = set_onward ((x ∷ a) ++ b) zero t
front_onward (x ∷ a) b (suc w) t = first_onward x (a ++ b) (slice_set a w (Some t) ++ b) (front_onward a b w t)

by_set : (s : Slot) (t : Term) (m q : Solution) → SetBy s t m q → Onward m q
by_set (slot.Term c) t m q e = subst (Onward m) (sym e) (onward_refl m)
by_set (slot.Variable v) t m q (inl e) = subst (Onward m) (sym e) (onward_refl m)
by_set (slot.Variable v) t m q (inr e) = subst (Onward m) (sym e.is) (set_onward m v t)

-- what a triple and a path make of a row, variable by variable
pub record TripleWay (p : TriplePattern) (t : Triple) (m q : Solution) : Type 0 where
  pub x : Solution
  pub y : Solution
  pub first : bound_slot p.subject t.subject m ≡ Some x
  pub second : bound_slot p.predicate t.predicate x ≡ Some y
  pub third : bound_slot p.object t.object y ≡ Some q

pub triple_way : (p : TriplePattern) (t : Triple) (m q : Solution) → bound_triple p t m ≡ Some q → TripleWay p t m q
triple_way p t m q h = at (bound_slot p.subject t.subject m) refl h
  where
    last : (x : Solution) → bound_slot p.subject t.subject m ≡ Some x → (o : Option Solution) → bound_slot p.predicate t.predicate x ≡ o → then_bound o (λ y. bound_slot p.object t.object y) ≡ Some q → TripleWay p t m q
    last x s None e k = let n : None ≡ Some q = k in cc
    last x s (Some y) e k = record { x = x; y = y; first = s; second = e; third = k }

    at : (o : Option Solution) → bound_slot p.subject t.subject m ≡ o → then_bound o (λ x. then_bound (bound_slot p.predicate t.predicate x) (λ y. bound_slot p.object t.object y)) ≡ Some q → TripleWay p t m q
    at None e k = let n : None ≡ Some q = k in cc
    at (Some x) e k = last x e (bound_slot p.predicate t.predicate x) refl k

pub record PathWay (p : PathPattern) (e : Pair) (m q : Solution) : Type 0 where
  pub x : Solution
  pub first : bound_end p.subject e.left m ≡ Some x
  pub second : bound_end p.object e.right x ≡ Some q

pub path_way : (p : PathPattern) (e : Pair) (m q : Solution) → bound_ends p e m ≡ Some q → PathWay p e m q
path_way p e m q h = at (bound_end p.subject e.left m) refl h
  where
    at : (o : Option Solution) → bound_end p.subject e.left m ≡ o → then_bound o (λ x. bound_end p.object e.right x) ≡ Some q → PathWay p e m q
    at None f k = let n : None ≡ Some q = k in cc
    at (Some x) f k = record { x = x; first = f; second = k }

pub slot_onward : (s : Slot) (t : Term) (m q : Solution) → bound_slot s t m ≡ Some q → Onward m q
slot_onward s t m q h = by_set s t m q (slot_sets s t m q h)

pub end_onward : (s : Slot) (t : Term) (m q : Solution) → bound_end s t m ≡ Some q → Onward m q
end_onward s t m q h = by_set s t m q (end_sets s t m q h)

triple_onward : (p : TriplePattern) (t : Triple) (m q : Solution) → bound_triple p t m ≡ Some q → Onward m q
triple_onward p t m q h =
    let w = triple_way p t m q h in
    onward_trans m w.x q (slot_onward p.subject t.subject m w.x w.first) (onward_trans w.x w.y q (slot_onward p.predicate t.predicate w.x w.y w.second) (slot_onward p.object t.object w.y q w.third))

ends_onward : (p : PathPattern) (e : Pair) (m q : Solution) → bound_ends p e m ≡ Some q → Onward m q
ends_onward p e m q h =
    let w = path_way p e m q h in
    onward_trans m w.x q (end_onward p.subject e.left m w.x w.first) (end_onward p.object e.right w.x q w.second)

-- ---- merges

merge_long : (a b : Solution) → length a ≤ length (merge a b)
merge_long [] b = omega arith
merge_long (x ∷ a) [] = omega arith
merge_long (x ∷ a) (y ∷ b) = omega (arith, merge_long a b)

first_is : (x y : Option Term) → IsSome x → first_bound x y ≡ x
first_is None y h = let f : false ≡ true = h in cc
first_is (Some x) y h = refl

-- a merge keeps what is bound
pub merge_alike : (m x : Solution) (v : ℕ) → Bound v m → Alike v m (merge m x)
merge_alike m x v h = merge_at m x v ∙ first_is (term_at m v) (term_at x v) h

pub merge_onward : (m x : Solution) → Onward m (merge m x)
merge_onward m x = record { wide = merge_long m x; bound = λ v h. subst IsSome (sym (merge_alike m x v h)) h }

pub merges_onward : (xs : List Solution) (m : Solution) → AllByRecursion (Onward m) (merges xs m)
merges_onward xs m = all_mapped (λ x. Unit {0}) (Onward m) (merge m) (λ x u. merge_onward m x) (filter (compatible m) xs) (all_of (λ x. Unit {0}) (λ x. tt) (filter (compatible m) xs))

pub alone_onward : (m : Solution) (xs : List Solution) → AllByRecursion (Onward m) xs → AllByRecursion (Onward m) (or_alone m xs)
alone_onward m [] h = (onward_refl m, tt)
alone_onward m (x ∷ xs) h = h

pub kept_onward : (b : Bool) (m : Solution) → AllByRecursion (Onward m) (kept_if b m)
kept_onward true m = (onward_refl m, tt)
kept_onward false m = tt

-- ---- stages

module _ (width : ℕ) (quads : List Statement) (active : Graph) where
  abbrev OnwardStage : Stage → Type 0
  OnwardStage s = (m : Solution) → AllByRecursion (Onward m) (gives width quads active s m)

  abbrev OnwardGroup : Group → Type 0
  OnwardGroup g = (m : Solution) → AllByRecursion (Onward m) (through width quads active g.stages m)

  all_onward : (es : List ((s : Stage) × OnwardStage s)) (m : Solution) → AllByRecursion (Onward m) (through width quads active (map (λ e. e.0) es) m)
  all_onward [] m = (onward_refl m, tt)
  all_onward (e ∷ es) m =
      all_flat (Onward m) (Onward m) (through width quads active (map (λ e. e.0) es))
      (λ q a. all_mapped_on q (through width quads active (map (λ e. e.0) es) q) a (all_onward es q)) (gives width quads active e.0 m) (e.1 m)
    where
      all_mapped_on : (q : Solution) (xs : List Solution) → Onward m q → AllByRecursion (Onward q) xs → AllByRecursion (Onward m) xs
      all_mapped_on q [] a h = tt
      all_mapped_on q (x ∷ xs) a h = (onward_trans m q x a h.0, all_mapped_on q xs a h.1)

  union_onward : (es : List ((g : Group) × OnwardGroup g)) (m : Solution) → AllByRecursion (Onward m) (flat_map (λ (b : Group). through width quads active b.stages m) (map (λ e. e.0) es))
  union_onward [] m = tt
  union_onward (e ∷ es) m = all_append (Onward m) (through width quads active e.0.stages m) _ (e.1 m) (union_onward es m)

  bind_onward : (v : ℕ) (e : Expr) (m : Solution) → Onward m (bound_to (take width m) v (meaning (take width m) e) ++ drop width m)
  bind_onward v e m = subst (λ (l : Solution). Onward l (bound_to (take width m) v (meaning (take width m) e) ++ drop width m)) (take-append-drop width m) (at (take width m) (drop width m) (meaning (take width m) e))
    where
      at : (a b : Solution) (o : Option Term) → Onward (a ++ b) (bound_to a v o ++ b)
      at a b None = onward_refl (a ++ b)
      at a b (Some t) = front_onward a b v t

  exists_onward : (m : Solution) (b : Bool) → AllByRecursion (Onward m) (if b then m ∷ [] else [])
  exists_onward m true = (onward_refl m, tt)
  exists_onward m false = tt

  names_onward : (m : Solution) (r : ℕ) (ns : List Term) → AllByRecursion (Onward m) (map (λ n. slice_set m r (Some n)) ns)
  names_onward m r [] = tt
  names_onward m r (n ∷ ns) = (set_onward m r n, names_onward m r ns)

  onward_level : (y : level.Stage-F ((s : Stage) × OnwardStage s) ((g : Group) × OnwardGroup g)) → OnwardStage (roll-Stage (map-Stage ((s : Stage) × OnwardStage s) ((g : Group) × OnwardGroup g) Stage Group (λ e. e.0) (λ e. e.0) y))
  onward_level (level.Triple place p) = subst OnwardStage (sym (rolls-Triple place p)) (λ m.
      subst (AllByRecursion (Onward m)) (sym (gives_triple width quads active m place p)) (scanned_each (Onward m) (λ t. bound_triple p t m) (λ t q k. triple_onward p t m q k) (looked quads active place m)))
  onward_level (level.Path place p) = subst OnwardStage (sym (rolls-Path place p)) (λ m.
      subst (AllByRecursion (Onward m)) (sym (gives_path width quads active m place p)) (scanned_each (Onward m) (λ x. bound_ends p x m) (λ x q k. ends_onward p x m q k) (path_pairs p (looked quads active place m))))
  onward_level (level.Exists name) = subst OnwardStage (sym (rolls-Exists name)) (λ m. subst (AllByRecursion (Onward m)) (sym (gives_exists width quads active m name)) (exists_onward m (list_any (same_term name) (names_of quads))))
  onward_level (level.Names r) = subst OnwardStage (sym (rolls-Names r)) (λ m. subst (AllByRecursion (Onward m)) (sym (gives_names width quads active m r)) (names_onward m r (names_of quads)))
  onward_level (level.Name v r) = subst OnwardStage (sym (rolls-Name v r)) (λ m. subst (AllByRecursion (Onward m)) (sym (gives_name width quads active m v r)) (merges_onward (binding width (v ∷ []) (term_at m r ∷ []) ∷ []) m))
  onward_level (level.Filter e) = subst OnwardStage (sym (rolls-Filter e)) (λ m. subst (AllByRecursion (Onward m)) (sym (gives_filter width quads active m e)) (kept_onward (holds (take width m) e) m))
  onward_level (level.Bind v e) = subst OnwardStage (sym (rolls-Bind v e)) (λ m. subst (AllByRecursion (Onward m)) (sym (gives_bind width quads active m v e)) (bind_onward v e m, tt))
  onward_level (level.Values table) = subst OnwardStage (sym (rolls-Values table)) (λ m. subst (AllByRecursion (Onward m)) (sym (gives_values width quads active m table)) (merges_onward (rows_of width table) m))
  onward_level (level.Union es) = subst OnwardStage (sym (rolls-Union (map (λ e. e.0) es))) (λ m. subst (AllByRecursion (Onward m)) (sym (gives_union width quads active m (map (λ e. e.0) es))) (union_onward es m))
  onward_level (level.Optional r g conditions) = subst OnwardStage (sym (rolls-Optional r g.0 conditions)) (λ m.
      subst (AllByRecursion (Onward m)) (sym (gives_optional width quads active m r g.0 conditions))
      (alone_onward m _ (all_filter (Onward m) (λ n. all_hold conditions (take width n)) _ (merges_onward (aside width r (through width quads active g.0.stages) m) m))))
  onward_level (level.Fed g conditions) = subst OnwardStage (sym (rolls-Fed g.0 conditions)) (λ m.
      subst (AllByRecursion (Onward m)) (sym (gives_fed width quads active m g.0 conditions))
      (alone_onward m _ (all_filter (Onward m) (λ n. all_hold conditions (take width n)) _ (merges_onward (fed_rows width (through width quads active g.0.stages) m) m))))
  onward_level (level.Minus r g) = subst OnwardStage (sym (rolls-Minus r g.0)) (λ m.
      subst (AllByRecursion (Onward m)) (sym (gives_minus width quads active m r g.0)) (kept_onward (not (list_any (excludes (take width m)) (aside width r (through width quads active g.0.stages) m))) m))
  onward_level (level.Apart r g) = subst OnwardStage (sym (rolls-Apart r g.0)) (λ m. subst (AllByRecursion (Onward m)) (sym (gives_apart width quads active m r g.0)) (merges_onward (aside width r (through width quads active g.0.stages) m) m))

  onward_group : (y : level.Group-F ((s : Stage) × OnwardStage s) ((g : Group) × OnwardGroup g)) → OnwardGroup (roll-Group (map-Group ((s : Stage) × OnwardStage s) ((g : Group) × OnwardGroup g) Stage Group (λ e. e.0) (λ e. e.0) y))
  onward_group y = all_onward y.stages

  pub stage_onward : (s : Stage) → OnwardStage s
  stage_onward = ind-Stage OnwardStage OnwardGroup (λ x y is. subst (λ z. OnwardStage (roll-Stage z)) is (onward_level y)) (λ x y is. subst (λ z. OnwardGroup (roll-Group z)) is (onward_group y))

  pub stages_onward : (ss : List Stage) (m : Solution) → AllByRecursion (Onward m) (through width quads active ss m)
  stages_onward [] m = (onward_refl m, tt)
  stages_onward (s ∷ ss) m =
      all_flat (Onward m) (Onward m) (through width quads active ss) (λ q a. from q (through width quads active ss q) a (stages_onward ss q)) (gives width quads active s m) (stage_onward s m)
    where
      from : (q : Solution) (xs : List Solution) → Onward m q → AllByRecursion (Onward q) xs → AllByRecursion (Onward m) xs
      from q [] a h = tt
      from q (x ∷ xs) a h = (onward_trans m q x a h.0, from q xs a h.1)

-- Which stages bind a variable in each row that they make.
use Rattle.std.proofs.Common.{◌≡◌, inl, inr, ℕ, zero, suc, ◌+◌, ◌≤◌, ◌<◌, ◌==◌, Bool, true, false, ◌||◌, if◌then◌else◌, List, [], ◌∷◌, ◌++◌, map, take, drop, length, get_or, Option, Some, None, IsSome, slice_set, refl, sym, ◌∙◌, ap, subst, arith}
use Rattle.std.specs.List.{AllByRecursion, filter, flat_map, list_any}
use Rattle.std.proofs.lemmas.Bool.Decides.{eqb_tells}
use Rattle.std.proofs.lemmas.List.{get_or-set_other, get_or-set_same, get_or-take, length-set, take_more, take_all, take-append-drop}
use Rattle.qs_terms.specs.Dataset.{Triple, names_of}
use Rattle.qs_terms.specs.Statement.{Statement}
use Rattle.qs_terms.specs.Term.{same_term}
use Rattle.qs_terms.specs.declared.term.Term.{Term}
use Rattle.qs_paths_meaning.specs.Pair.{Pair}
use Rattle.qs_algebra_solutions.specs.Solution.{Solution, term_at, unbound, bind_all, binding, compatible, merge}
use Rattle.qs_algebra_solutions.specs.inner.Solution.{first_bound}
use Rattle.qs_algebra_solutions.specs.Operators.{merges}
use Rattle.qs_algebra_patterns.specs.Basic.{Graph}
use Rattle.qs_algebra_patterns.specs.inner.Eval.{rows_of}
use Rattle.qs_algebra_patterns.specs.declared.pattern.Slot.{Slot}
use Rattle.qs_algebra_patterns.specs.declared.pattern.Slot.TheVariants as slot
use Rattle.qs_algebra_patterns.specs.declared.table.Table.{Table}
use Rattle.qs_algebra_patterns.specs.declared.pattern.PathPattern.{PathPattern}
use Rattle.qs_algebra_patterns.specs.declared.pattern.TriplePattern.{TriplePattern}
use Rattle.qs_plan.specs.declared.certain.Size.{Size}
use Rattle.qs_plan_meaning.specs.declared.stage.Group.{Group}
use Rattle.qs_plan_meaning.specs.declared.stage.Look.{Look}
use Rattle.qs_plan_meaning.specs.declared.stage.Stage.{Stage}
use Rattle.qs_plan_meaning.specs.declared.stage.Stage.TheVariants as stage
use Rattle.qs_plan_meaning.specs.inner.Scans.{bound_at, bound_slot, bound_end, bound_triple, bound_ends, path_pairs}
use Rattle.qs_plan_meaning.specs.inner.Stages.{looked, only, aside, through}
use Rattle.qs_plan.specs.inner.Certain.{Bound, Begun, Gets, Binds, Holds, Ends, Filled}
use Rattle.qs_plan.proofs.Commutes.{scanned_each}
use Rattle.qs_plan.proofs.Levels.{gives_triple, gives_path, gives_names, gives_name, gives_values, gives_union, gives_apart, through_append, through_one}
use Rattle.qs_plan.proofs.Onward.{Onward, no_term, set_bound, triple_way, path_way, slot_onward, end_onward, stages_onward}
use Rattle.qs_plan.proofs.Widths.{all_append, all_filter, all_mapped, all_flat, length_unbound, merge_at}

pub same_number : (w v : ℕ) → (w == v) ≡ true → w ≡ v
same_number w v h = elim (eqb_tells w v) as (λ x. w ≡ v) [ inl p ↦ p.1 | inr p ↦ let f : false ≡ true = sym p.0 ∙ h in cc ]

other_number : (w v : ℕ) → (w == v) ≡ false → v ≡ w → ⊥
other_number w v h e = elim (eqb_tells w v) as (λ x. ⊥) [ inl p ↦ (let f : true ≡ false = sym p.0 ∙ h in cc) | inr p ↦ p.1 (sym e) ]

module _ (v : ℕ) where
  bound_on : (m q : Solution) → Onward m q → Bound v m → Bound v q
  bound_on m q o h = o.bound v h

  all_bound_on : (m : Solution) (xs : List Solution) → Bound v m → AllByRecursion (Onward m) xs → AllByRecursion (Bound v) xs
  all_bound_on m [] h k = tt
  all_bound_on m (x ∷ xs) h k = (k.0.bound v h, all_bound_on m xs h k.1)

  -- ---- scans

  at_gets : (t : Term) (m q : Solution) (c : Option Term) → v < length m → term_at m v ≡ c → bound_at c v t m ≡ Some q → Bound v q
  at_gets t m q None lt e h =
      let k : q ≡ slice_set m v (Some t) = cc in
      let g : term_at q v ≡ Some t = ap (λ l. term_at l v) k ∙ get_or-set_same m v (Some t) None lt in
      subst IsSome (sym g) refl
  at_gets t m q (Some x) lt e h = at (same_term x t) h
    where
      at : (c : Bool) → (if c then Some m else None) ≡ Some q → Bound v q
      at true k = let f : q ≡ m = cc in subst (Bound v) (sym f) (subst IsSome (sym e) refl)
      at false k = let f : None ≡ Some q = k in cc

  slot_gets : (s : Slot) (t : Term) (m q : Solution) → s ≡ slot.Variable v → v < length m → bound_slot s t m ≡ Some q → Bound v q
  slot_gets s t m q is lt h = at_gets t m q (term_at m v) lt refl (subst (λ (x : Slot). bound_slot x t m ≡ Some q) is h)

  end_gets : (s : Slot) (t : Term) (m q : Solution) → s ≡ slot.Variable v → v < length m → bound_end s t m ≡ Some q → Bound v q
  end_gets s t m q is lt h = at_gets t m q (term_at m v) lt refl (subst (λ (x : Slot). bound_end x t m ≡ Some q) is h)

  triple_bound : (p : TriplePattern) (t : Triple) (m q : Solution) → Holds v p → v < length m → bound_triple p t m ≡ Some q → Bound v q
  triple_bound p t m q h lt k = at h
    where
      at : Holds v p → Bound v q
      at (inl e) =
          let w = triple_way p t m q k in
          bound_on w.y q (slot_onward p.object t.object w.y q w.third) (bound_on w.x w.y (slot_onward p.predicate t.predicate w.x w.y w.second) (slot_gets p.subject t.subject m w.x e lt w.first))
      at (inr (inl e)) =
          let w = triple_way p t m q k in
          let a = slot_onward p.subject t.subject m w.x w.first in
          bound_on w.y q (slot_onward p.object t.object w.y q w.third) (slot_gets p.predicate t.predicate w.x w.y e (omega (arith, lt, a.wide)) w.second)
      at (inr (inr e)) =
          let w = triple_way p t m q k in
          let a = slot_onward p.subject t.subject m w.x w.first in
          let b = slot_onward p.predicate t.predicate w.x w.y w.second in
          slot_gets p.object t.object w.y q e (omega (arith, lt, a.wide, b.wide)) w.third

  path_bound : (p : PathPattern) (x : Pair) (m q : Solution) → Ends v p → v < length m → bound_ends p x m ≡ Some q → Bound v q
  path_bound p x m q h lt k = at h
    where
      at : Ends v p → Bound v q
      at (inl e) =
          let w = path_way p x m q k in
          bound_on w.x q (end_onward p.object x.right w.x q w.second) (end_gets p.subject x.left m w.x e lt w.first)
      at (inr e) =
          let w = path_way p x m q k in
          let a = end_onward p.subject x.left m w.x w.first in
          end_gets p.object x.right w.x q e (omega (arith, lt, a.wide)) w.second

  -- ---- tables

  tail_filled : (w : ℕ) (ws : List ℕ) (t : Option Term) (ts : List (Option Term)) → Filled v (w ∷ ws) (t ∷ ts) (length (w ∷ ws)) → Filled v ws ts (length ws)
  tail_filled w ws t ts h = λ i a b e. h (suc i) (omega (arith, a)) (omega (arith, b)) e

  still_filled : (a : Solution) (ws : List ℕ) (ts : List (Option Term)) → Bound v a → Filled v ws ts (length ws) → Bound v (bind_all a ws ts)
  still_filled a [] ts h f = h
  still_filled a (w ∷ ws) [] h f = h
  still_filled a (w ∷ ws) (Some t ∷ ts) h f = still_filled (slice_set a w (Some t)) ws ts (set_bound a w v t h) (tail_filled w ws (Some t) ts f)
  still_filled a (w ∷ ws) (None ∷ ts) h f = at (w == v) refl (λ b. still_filled (slice_set a w None) ws ts b (tail_filled w ws None ts f))
    where
      at : (b : Bool) → (w == v) ≡ b → (Bound v (slice_set a w None) → Bound v (bind_all (slice_set a w None) ws ts)) → Bound v (bind_all (slice_set a w None) ws ts)
      at true e next = absurd (no_term None refl (f 0 (omega arith) (omega arith) (same_number w v e)))
      at false e next = next (subst IsSome (sym (get_or-set_other a w v None None (other_number w v e))) h)

  none_filled : (ws : List ℕ) → list_any (λ w. w == v) ws ≡ true → Filled v ws [] (length ws) → ⊥
  none_filled [] h f = let n : false ≡ true = h in cc
  none_filled (w ∷ ws) h f = at (w == v) refl h (λ k. none_filled ws k (λ i a b d. f (suc i) (omega (arith, a)) (omega (arith, b)) d))
    where
      at : (b : Bool) → (w == v) ≡ b → (b || list_any (λ w. w == v) ws) ≡ true → (list_any (λ w. w == v) ws ≡ true → ⊥) → ⊥
      at true e k next = no_term None refl (f 0 (omega arith) (omega arith) (same_number w v e))
      at false e k next = next k

  bind_gets : (a : Solution) (ws : List ℕ) (ts : List (Option Term)) → v < length a → list_any (λ w. w == v) ws ≡ true → Filled v ws ts (length ws) → Bound v (bind_all a ws ts)
  bind_gets a [] ts lt h f = let n : false ≡ true = h in cc
  bind_gets a (w ∷ ws) [] lt h f = absurd (none_filled (w ∷ ws) h f)
  bind_gets a (w ∷ ws) (t ∷ ts) lt h f = at (w == v) refl h (λ k. bind_gets (slice_set a w t) ws ts (omega (arith, lt, length-set a w t)) k (tail_filled w ws t ts f))
    where
      set : (t : Option Term) → IsSome t → w ≡ v → Bound v (slice_set a w t)
      set t s e = subst IsSome (sym (ap (λ k. term_at (slice_set a k t) v) e ∙ get_or-set_same a v t None lt)) s

      at : (b : Bool) → (w == v) ≡ b → (b || list_any (λ w. w == v) ws) ≡ true → (list_any (λ w. w == v) ws ≡ true → Bound v (bind_all (slice_set a w t) ws ts)) → Bound v (bind_all (slice_set a w t) ws ts)
      at true e k next = still_filled (slice_set a w t) ws ts (set t (f 0 (omega arith) (omega arith) (same_number w v e)) (same_number w v e)) (tail_filled w ws t ts f)
      at false e k next = next k

  pub rows_filled : (width : ℕ) (columns : List ℕ) (rows : List (List (Option Term))) → v < width → list_any (λ w. w == v) columns ≡ true → AllByRecursion (λ row. Filled v columns row (length columns)) rows → AllByRecursion (Bound v) (map (binding width columns) rows)
  rows_filled width columns [] lt h f = tt
  rows_filled width columns (row ∷ rows) lt h f = (bind_gets (unbound width) columns row (omega (arith, lt, length_unbound width)) h f.0, rows_filled width columns rows lt h f.1)

  pub table_filled : (width : ℕ) (table : Table) (columns : List ℕ) (rows : List (List (Option Term))) (i : ℕ) → v < width → list_any (λ w. w == v) table.variables ≡ true → columns ≡ table.variables → rows ≡ table.rows → length rows ≤ i
      → AllByRecursion (λ row. Filled v columns row (length columns)) (take i rows) → AllByRecursion (Bound v) (rows_of width table)
  table_filled width table columns rows i lt h c r le f =
      subst (λ (rs : List (List (Option Term))). AllByRecursion (Bound v) (map (binding width table.variables) rs)) r
      (rows_filled width table.variables rows lt h
      (subst (λ (cs : List ℕ). AllByRecursion (λ row. Filled v cs row (length cs)) rows) c (subst (AllByRecursion (λ row. Filled v columns row (length columns))) (take_all i rows le) f)))

  -- ---- merges with rows that bind it

  first_some : (x y : Option Term) → IsSome y → IsSome (first_bound x y)
  first_some None y h = h
  first_some (Some x) y h = refl

  merges_get : (xs : List Solution) (m : Solution) → AllByRecursion (Bound v) xs → AllByRecursion (Bound v) (merges xs m)
  merges_get xs m h = all_mapped (Bound v) (Bound v) (merge m) (λ x b. subst IsSome (sym (merge_at m x v)) (first_some (term_at m v) (term_at x v) b)) (filter (compatible m) xs) (all_filter (Bound v) (compatible m) xs h)

  -- ---- stages

  module _ (size : Size) where
    pub triple_gets : (s : Stage) (place : Look) (p : TriplePattern) → s ≡ stage.Triple place p → v < size.cells → Holds v p → Gets size v s
    triple_gets s place p is lt h = subst (Gets size v) (sym is) (record {
      bound = λ quads active m w.
          subst (AllByRecursion (Bound v)) (sym (gives_triple size.width quads active m place p))
          (scanned_each (Bound v) (λ t. bound_triple p t m) (λ t q k. triple_bound p t m q h (omega (arith, lt, w)) k) (looked quads active place m));
    })

    pub path_gets : (s : Stage) (place : Look) (p : PathPattern) → s ≡ stage.Path place p → v < size.cells → Ends v p → Gets size v s
    path_gets s place p is lt h = subst (Gets size v) (sym is) (record {
      bound = λ quads active m w.
          subst (AllByRecursion (Bound v)) (sym (gives_path size.width quads active m place p))
          (scanned_each (Bound v) (λ x. bound_ends p x m) (λ x q k. path_bound p x m q h (omega (arith, lt, w)) k) (path_pairs p (looked quads active place m)));
    })

    pub names_get : (s : Stage) (r : ℕ) → s ≡ stage.Names r → v < size.cells → r ≡ v → Gets size v s
    names_get s r is lt h = subst (Gets size v) (sym is) (record {
      bound = λ quads active m w. subst (AllByRecursion (Bound v)) (sym (gives_names size.width quads active m r)) (at m (omega (arith, lt, w)) (names_of quads));
    })
      where
        at : (m : Solution) → v < length m → (ns : List Term) → AllByRecursion (Bound v) (map (λ n. slice_set m r (Some n)) ns)
        at m k [] = tt
        at m k (n ∷ ns) = (subst IsSome (sym (ap (λ i. term_at (slice_set m i (Some n)) v) h ∙ get_or-set_same m v (Some n) None k)) refl, at m k ns)

    pub values_get : (s : Stage) (table filled : Table) → s ≡ stage.Values table → filled ≡ table → AllByRecursion (Bound v) (rows_of size.width filled) → Gets size v s
    values_get s table filled is e h = subst (Gets size v) (sym is) (record {
      bound = λ quads active m w. subst (AllByRecursion (Bound v)) (sym (gives_values size.width quads active m table)) (merges_get (rows_of size.width table) m (subst (λ (x : Table). AllByRecursion (Bound v) (rows_of size.width x)) e h));
    })

    only_wide : (r : Option ℕ) (m : Solution) → length (only r m) ≡ length m
    only_wide None m = length_unbound (length m)
    only_wide (Some r) m = length-set (unbound (length m)) r (term_at m r) ∙ length_unbound (length m)

    begun_none : (m : Solution) → size.cells ≤ length m → Begun size [] m
    begun_none m w = record { wide = w; binds = tt }

    pub union_gets : (s : Stage) (branches slice : List Group) → s ≡ stage.Union branches → slice ≡ branches → AllByRecursion (λ (g : Group). Binds size [] v g.stages) slice → Gets size v s
    union_gets s branches slice is e h = subst (Gets size v) (sym is) (record {
      bound = λ quads active m w.
          subst (AllByRecursion (Bound v)) (sym (gives_union size.width quads active m branches)) (at quads active m w branches (subst (AllByRecursion (λ (g : Group). Binds size [] v g.stages)) e h));
    })
      where
        at : (quads : List Statement) (active : Graph) (m : Solution) → size.cells ≤ length m → (gs : List Group) → AllByRecursion (λ (g : Group). Binds size [] v g.stages) gs → AllByRecursion (Bound v) (flat_map (λ (g : Group). through size.width quads active g.stages m) gs)
        at quads active m w [] k = tt
        at quads active m w (g ∷ gs) k = all_append (Bound v) (through size.width quads active g.stages m) _ (k.0.bound quads active m (begun_none m w)) (at quads active m w gs k.1)

    pub apart_gets : (s : Stage) (r : Option ℕ) (g : Group) (slice : List Stage) → s ≡ stage.Apart r g → slice ≡ g.stages → v < size.width → Binds size [] v slice → Gets size v s
    apart_gets s r g slice is e lt h = subst (Gets size v) (sym is) (record {
      bound = λ quads active m w.
          subst (AllByRecursion (Bound v)) (sym (gives_apart size.width quads active m r g))
          (merges_get (aside size.width r (through size.width quads active g.stages) m) m
          (all_mapped (Bound v) (Bound v) (take size.width) (λ q b. subst IsSome (sym (get_or-take size.width q v None lt)) b) (through size.width quads active g.stages (only r m))
          ((subst (Binds size [] v) e h).bound quads active (only r m) (begun_none (only r m) (omega (arith, w, only_wide r m))))));
    })

    -- ---- stages one after another

    among : (ws : List ℕ) (m : Solution) → list_any (λ w. w == v) ws ≡ true → AllByRecursion (λ w. Bound w m) ws → Bound v m
    among [] m h b = let n : false ≡ true = h in cc
    among (w ∷ ws) m h b = at (w == v) refl h (λ k. among ws m k b.1)
      where
        at : (c : Bool) → (w == v) ≡ c → (c || list_any (λ w. w == v) ws) ≡ true → (list_any (λ w. w == v) ws ≡ true → Bound v m) → Bound v m
        at true e k next = subst (λ u. Bound u m) (same_number w v e) b.0
        at false e k next = next k

    pub given_binds : (given : List ℕ) (ss : List Stage) → list_any (λ w. w == v) given ≡ true → Binds size given v ss
    given_binds given ss h = record { bound = λ quads active m b. all_bound_on m (through size.width quads active ss m) (among given m h b.binds) (stages_onward size.width quads active ss m) }

    -- what is bound stays bound
    pub binds_on : (given : List ℕ) (ss ts : List Stage) → Binds size given v ss → Binds size given v (ss ++ ts)
    binds_on given ss ts h = record {
      bound = λ quads active m b.
          subst (AllByRecursion (Bound v)) (sym (through_append size.width quads active ss ts m))
          (all_flat (Bound v) (Bound v) (through size.width quads active ts) (λ q k. all_bound_on q _ k (stages_onward size.width quads active ts q)) (through size.width quads active ss m) (h.bound quads active m b));
    }

    -- a stage that binds it, after others
    pub gets_after : (given : List ℕ) (ss : List Stage) (s : Stage) → Gets size v s → Binds size given v (ss ++ s ∷ [])
    gets_after given ss s h = record {
      bound = λ quads active m b.
          subst (AllByRecursion (Bound v)) (sym (through_append size.width quads active ss (s ∷ []) m))
          (all_flat (Onward m) (Bound v) (through size.width quads active (s ∷ []))
          (λ q o. subst (AllByRecursion (Bound v)) (sym (through_one size.width quads active s q)) (h.bound quads active q (omega (arith, b.wide, o.wide)))) (through size.width quads active ss m) (stages_onward size.width quads active ss m));
    }

    pub given_none : (given : List ℕ) (ss : List Stage) → Binds size [] v ss → Binds size given v ss
    given_none given ss h = record { bound = λ quads active m b. h.bound quads active m (begun_none m b.wide) }

    pub binds_to : (given : List ℕ) (ss : List Stage) (i j : ℕ) → i ≤ j → Binds size given v (take i ss) → Binds size given v (take j ss)
    binds_to given ss i j le h = subst (Binds size given v) (ap (λ l. l ++ drop i (take j ss)) (sym (take_less ss i j le)) ∙ take-append-drop i (take j ss)) (binds_on given (take i ss) (drop i (take j ss)) h)
      where
        take_less : (ss : List Stage) (i j : ℕ) → i ≤ j → take i (take j ss) ≡ take i ss
        take_less ss zero j le = refl
        take_less ss (suc i) zero le = absurd (omega (arith, le))
        take_less [] (suc i) (suc j) le = refl
        take_less (s ∷ ss) (suc i) (suc j) le = ap (λ l. s ∷ l) (take_less ss i j (omega (arith, le)))

    pub binds_all : (given : List ℕ) (ss : List Stage) (i : ℕ) → Binds size given v (take i ss) → Binds size given v ss
    binds_all given ss i h = subst (Binds size given v) (take-append-drop i ss) (binds_on given (take i ss) (drop i ss) h)

    -- the stage at a place
    pub gets_at : (given : List ℕ) (ss : List Stage) (i : ℕ) (s : Stage) → i < length ss → s ≡ get_or ss i s → Gets size v s → Binds size given v (take (i + 1) ss)
    gets_at given ss i s lt is h = subst (Binds size given v) (sym (take_more ss i s lt ∙ ap (λ x. take i ss ++ x ∷ []) (sym is))) (gets_after given (take i ss) s h)

    -- the name in a register that holds one
    pub name_at : (ss : List Stage) (i w r : ℕ) (s : Stage) → i < length ss → s ≡ get_or ss i s → s ≡ stage.Name w r → w ≡ v → v < size.width → Binds size [] r (take i ss) → Binds size [] v (take (i + 1) ss)
    name_at ss i w r s lt is kind eq wide named =
        subst (Binds size [] v) (sym (take_more ss i s lt ∙ ap (λ x. take i ss ++ x ∷ []) (sym is ∙ kind))) (record {
          bound = λ quads active m b.
              subst (AllByRecursion (Bound v)) (sym (through_append size.width quads active (take i ss) (stage.Name w r ∷ []) m))
              (all_flat (Bound r) (Bound v) (through size.width quads active (stage.Name w r ∷ []))
              (λ q k. subst (AllByRecursion (Bound v)) (sym (through_one size.width quads active (stage.Name w r) q ∙ gives_name size.width quads active q w r)) (merges_get (binding size.width (w ∷ []) (term_at q r ∷ []) ∷ []) q (set q k, tt)))
              (through size.width quads active (take i ss) m) (named.bound quads active m b));
        })
      where
        set : (q : Solution) → Bound r q → Bound v (binding size.width (w ∷ []) (term_at q r ∷ []))
        set q k = subst IsSome (sym (ap (λ u. term_at (slice_set (unbound size.width) u (term_at q r)) v) eq ∙ get_or-set_same (unbound size.width) v (term_at q r) None (omega (arith, wide, length_unbound size.width)))) k

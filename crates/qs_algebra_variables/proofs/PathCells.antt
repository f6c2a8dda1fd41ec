-- Which variables the solutions of paths bind, and which are bound after them.
use Rattle.std.proofs.Common.{◌≡◌, ℕ, zero, suc, ◌<◌, Bool, true, false, ◌||◌, List, [], ◌∷◌, Some, IsSome, length, slice_set, refl, sym, subst, ◌∙◌, arith}
use Rattle.std.specs.List.{AllByRecursion, filter}
use Rattle.qs_terms.specs.declared.term.Term.{Term}
use Rattle.qs_paths_meaning.specs.Pair.{Pair}
use Rattle.qs_paths_meaning.specs.Pairs.{pairs}
use Rattle.qs_algebra_solutions.specs.Operators.{join}
use Rattle.qs_algebra_solutions.specs.Solution.{Solution, term_at, unbound}
use Rattle.qs_algebra_patterns.specs.declared.pattern.Slot.{Slot}
use Rattle.qs_algebra_patterns.specs.declared.pattern.Slot.TheVariants as slot
use Rattle.qs_algebra_patterns.specs.declared.pattern.PathPattern.{PathPattern}
use Rattle.qs_algebra_patterns.specs.Basic.{Graph, is_variable, end_of, fits, with_term, ends_bound, path_solutions, with_paths}
use Rattle.qs_algebra_patterns.specs.inner.Basic.{is_end}
use Rattle.qs_algebra_variables.proofs.BoundCells.{Bound, Unbound, unbound_at, each_of, each_map, join_left, join_right, join_neither}
use Rattle.qs_algebra_variables.proofs.SetCells.{set_other, other_number, same_number, still_set, set_length, unbound_length}

set_here : (a : Solution) (v : ℕ) (t : Term) → v < length a → IsSome (term_at (slice_set a v (Some t)) v)
set_here [] v t lt = absurd (omega (arith, lt))
set_here (c ∷ a) zero t lt = refl
set_here (c ∷ a) (suc v) t lt = set_here a v t (omega (arith, lt))

either_false : (a b : Bool) → (a || b) ≡ false → (a ≡ false) × (b ≡ false)
either_false true b h = let f : true ≡ false = h in cc
either_false false b h = (refl, h)

with_length : (s : Slot) (t : Term) (a : Solution) → length (with_term s t a) ≡ length a
with_length (slot.Term c) t a = refl
with_length (slot.Variable w) t a = set_length a w (Some t)

module _ (v : ℕ) where
  slot_binds : (s : Slot) (t : Term) (a : Solution) → is_variable s v ≡ true → v < length a → Bound v (with_term s t a)
  slot_binds (slot.Term c) t a h lt = let f : false ≡ true = h in cc
  slot_binds (slot.Variable w) t a h lt = subst (λ (k : ℕ). Bound v (slice_set a k (Some t))) (sym (same_number w v h)) (set_here a v t lt)

  slot_keeps : (s : Slot) (t : Term) (a : Solution) → Bound v a → Bound v (with_term s t a)
  slot_keeps (slot.Term c) t a h = h
  slot_keeps (slot.Variable w) t a h = still_set a w v t h

  slot_leaves : (s : Slot) (t : Term) (a : Solution) → is_variable s v ≡ false → Unbound v a → Unbound v (with_term s t a)
  slot_leaves (slot.Term c) t a o h = h
  slot_leaves (slot.Variable w) t a o h = set_other a w v (Some t) (other_number w v o) ∙ h

  module _ (n : ℕ) (graph : Graph) where
    ends_bind : (p : PathPattern) (e : Pair) → v < n → (b : Bool) → is_variable p.subject v ≡ b → (b ≡ false → is_variable p.object v ≡ true) → Bound v (ends_bound n p e)
    ends_bind p e lt true is k = slot_keeps p.object e.right (with_term p.subject e.left (unbound n)) (slot_binds p.subject e.left (unbound n) is (omega (arith, lt, unbound_length n)))
    ends_bind p e lt false is k = slot_binds p.object e.right (with_term p.subject e.left (unbound n)) (k refl) (omega (arith, lt, with_length p.subject e.left (unbound n), unbound_length n))

    ends_leave : (p : PathPattern) (e : Pair) → is_variable p.subject v ≡ false → is_variable p.object v ≡ false → Unbound v (ends_bound n p e)
    ends_leave p e s o = slot_leaves p.object e.right (with_term p.subject e.left (unbound n)) o (slot_leaves p.subject e.left (unbound n) s (unbound_at n v))

    each_pair : (p : PathPattern) (Q : Solution → Type 0) → ((e : Pair) → Q (ends_bound n p e)) → AllByRecursion Q (path_solutions n graph p)
    each_pair p Q h =
        let es = filter (fits p) (pairs graph p.path (end_of p.subject) (end_of p.object)) in
        each_map (λ (e : Pair). e ≡ e) Q (ends_bound n p) (λ e k. h e) es (each_of (λ (e : Pair). e ≡ e) (λ e. refl) es)

    -- what is bound stays so
    pub still_bound : (ps : List PathPattern) (left : List Solution) → AllByRecursion (Bound v) left → AllByRecursion (Bound v) (with_paths n graph ps left)
    still_bound [] left h = h
    still_bound (p ∷ ps) left h = still_bound ps _ (join_left v left (path_solutions n graph p) h)

    -- a variable at an end is bound
    pub paths_bind : (ps : List PathPattern) (left : List Solution) → v < n → is_end ps v ≡ true → AllByRecursion (Bound v) (with_paths n graph ps left)
    paths_bind [] left lt h = let f : false ≡ true = h in cc
    paths_bind (p ∷ ps) left lt h = by (is_variable p.subject v) (is_variable p.object v) refl refl (λ k. paths_bind ps (join left (path_solutions n graph p)) lt k) h
      where
        bound : (b : Bool) → is_variable p.subject v ≡ b → (b ≡ false → is_variable p.object v ≡ true) → AllByRecursion (Bound v) (with_paths n graph (p ∷ ps) left)
        bound b is k = still_bound ps _ (join_right v left (path_solutions n graph p) (each_pair p (Bound v) (λ e. ends_bind p e lt b is k)))

        by : (a b : Bool) → is_variable p.subject v ≡ a → is_variable p.object v ≡ b → (is_end ps v ≡ true → AllByRecursion (Bound v) (with_paths n graph (p ∷ ps) left)) → (a || (b || is_end ps v)) ≡ true
            → AllByRecursion (Bound v) (with_paths n graph (p ∷ ps) left)
        by true b s o rest k = bound true s (λ e. let f : true ≡ false = e in cc)
        by false true s o rest k = bound false s (λ e. o)
        by false false s o rest k = rest k

    -- another variable is left as it is
    pub paths_leave : (ps : List PathPattern) (left : List Solution) → is_end ps v ≡ false → AllByRecursion (Unbound v) left → AllByRecursion (Unbound v) (with_paths n graph ps left)
    paths_leave [] left h k = k
    paths_leave (p ∷ ps) left h k =
        let s = either_false (is_variable p.subject v) (is_variable p.object v || is_end ps v) h in
        let o = either_false (is_variable p.object v) (is_end ps v) s.1 in
        paths_leave ps _ o.1 (join_neither v left (path_solutions n graph p) k (each_pair p (Unbound v) (λ e. ends_leave p e s.0 o.0)))

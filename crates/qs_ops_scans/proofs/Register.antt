-- A triple pattern that misses a register makes the same of a solution whatever the register holds.
use Rattle.std.proofs.Common.{◌≡◌, ◌≢◌, ℕ, zero, suc, Bool, true, false, not, ◌==◌, ◌&&◌, Option, Some, None, if◌then◌else◌, List, [], ◌∷◌, slice_set, refl, ◌∙◌, ap}
use Rattle.std.specs.Option.{option_map}
use Rattle.std.proofs.lemmas.Bool.{and_parts}
use Rattle.std.proofs.lemmas.Bool.Decides.{Decides-eqb}
use Rattle.std.proofs.lemmas.List.{get_or-set_other}
use Rattle.qs_terms.specs.declared.term.Term.{Term}
use Rattle.qs_terms.specs.Dataset.{Triple}
use Rattle.qs_terms.specs.Term.{same_term}
use Rattle.qs_algebra_solutions.specs.Solution.{Solution, term_at}
use Rattle.qs_algebra_patterns.specs.declared.pattern.Slot.{Slot}
use Rattle.qs_algebra_patterns.specs.declared.pattern.Slot.TheVariants as slot
use Rattle.qs_algebra_patterns.specs.declared.pattern.TriplePattern.{TriplePattern}
use Rattle.qs_plan_meaning.specs.inner.Scans.{bound_at, bound_slot, then_bound, bound_triple}
use Rattle.qs_ops_scans.specs.inner.Each.{misses, place_misses}
use Rattle.qs_ops_scans.specs.inner.Prepared.{place_of, prepared_triple}

-- writes to two places
two_set : {X : Type 0} (m : List X) (r v : ℕ) (x y : X) → v ≢ r → slice_set (slice_set m r x) v y ≡ slice_set (slice_set m v y) r x
two_set [] r v x y ne = refl
two_set (z ∷ m) zero zero x y ne = absurd (ne refl)
two_set (z ∷ m) zero (suc v) x y ne = refl
two_set (z ∷ m) (suc r) zero x y ne = refl
two_set (z ∷ m) (suc r) (suc v) x y ne = ap (λ l. z ∷ l) (two_set m r v x y (λ e. ne (ap suc e)))

pub apart : (v r : ℕ) → not (v == r) ≡ true → v ≢ r
apart v r h e = let f : false ≡ true = rw ((Decides-eqb v r).1 e) at h in absurd (cc)

module _ (r : ℕ) (x : Option Term) where
  -- with the register holding x
  abbrev held : Solution → Solution
  held a = slice_set a r x

  test_held : (b : Bool) (m : Solution) → (if b then Some (held m) else None) ≡ option_map held (if b then Some m else None)
  test_held true m = refl
  test_held false m = refl

  bound_held : (o : Option Term) (v : ℕ) (t : Term) (m : Solution) → v ≢ r → bound_at o v t (held m) ≡ option_map held (bound_at o v t m)
  bound_held None v t m ne = ap Some (two_set m r v x (Some t) ne)
  bound_held (Some y) v t m ne = test_held (same_term y t) m

  slot_held : (known : List Term) (s : Slot) (t : Term) (m : Solution) → place_misses r (place_of known s) ≡ true → bound_slot s t (held m) ≡ option_map held (bound_slot s t m)
  slot_held known (slot.Term c) t m h = test_held (same_term c t) m
  slot_held known (slot.Variable v) t m h =
      ap (λ o. bound_at o v t (held m)) (get_or-set_other m r v x None (apart v r h)) ∙ bound_held (term_at m v) v t m (apart v r h)

  then_held : (o q : Option Solution) (f : Solution → Option Solution) → o ≡ option_map held q → ((a : Solution) → f (held a) ≡ option_map held (f a)) → then_bound o f ≡ option_map held (then_bound q f)
  then_held o None f e h = ap (λ z. then_bound z f) e
  then_held o (Some a) f e h = ap (λ z. then_bound z f) e ∙ h a

  pub triple_held : (known : List Term) (p : TriplePattern) (t : Triple) (m : Solution) → misses r (prepared_triple known p) ≡ true → bound_triple p t (slice_set m r x) ≡ option_map (λ a. slice_set a r x) (bound_triple p t m)
  triple_held known p t m h =
      let a = and_parts (place_misses r (place_of known p.subject)) (place_misses r (place_of known p.predicate) && place_misses r (place_of known p.object)) h in
      let b = and_parts (place_misses r (place_of known p.predicate)) (place_misses r (place_of known p.object)) a.1 in
      then_held (bound_slot p.subject t.subject (held m)) (bound_slot p.subject t.subject m) (λ c. then_bound (bound_slot p.predicate t.predicate c) (λ d. bound_slot p.object t.object d))
      (slot_held known p.subject t.subject m a.0)
      (λ c. then_held (bound_slot p.predicate t.predicate (held c)) (bound_slot p.predicate t.predicate c) (λ d. bound_slot p.object t.object d)
      (slot_held known p.predicate t.predicate c b.0)
      (λ d. slot_held known p.object t.object d b.1))

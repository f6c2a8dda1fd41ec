-- Which variables a row that binds some variables binds.
use Rattle.std.proofs.Common.{◌≡◌, ℕ, zero, suc, ◌<◌, ◌≤◌, Bool, true, false, ◌||◌, ◌==◌, List, [], ◌∷◌, length, Option, Some, None, IsSome, slice_set, refl, sym, ap, ◌∙◌, arith, inl, inr}
use Rattle.std.specs.List.{list_any}
use Rattle.std.proofs.lemmas.Bool.Decides.{eqb_tells}
use Rattle.qs_terms.specs.declared.term.Term.{Term}
use Rattle.qs_algebra_solutions.specs.Solution.{Solution, term_at, unbound, bind_all, binding}
use Rattle.qs_algebra_patterns.specs.inner.Eval.{bound_to}
use Rattle.qs_algebra_variables.proofs.BoundCells.{Bound, Unbound, unbound_at}

-- the variable that is set
set_at : (n v : ℕ) (t : Option Term) → v < n → term_at (slice_set (unbound n) v t) v ≡ t
set_at zero v t h = absurd (omega (arith, h))
set_at (suc n) zero t h = refl
set_at (suc n) (suc v) t h = set_at n v t (omega (arith, h))

-- another one
pub set_other : (a : Solution) (w v : ℕ) (t : Option Term) → (w ≡ v → ⊥) → term_at (slice_set a w t) v ≡ term_at a v
set_other [] w v t h = refl
set_other (x ∷ a) zero zero t h = absurd (h refl)
set_other (x ∷ a) zero (suc v) t h = refl
set_other (x ∷ a) (suc w) zero t h = refl
set_other (x ∷ a) (suc w) (suc v) t h = set_other a w v t (λ e. h (ap suc e))

-- one past the last
set_past : (a : Solution) (w v : ℕ) (t : Option Term) → length a ≤ v → term_at (slice_set a w t) v ≡ term_at a v
set_past [] w v t h = refl
set_past (x ∷ a) zero zero t h = absurd (omega (arith, h))
set_past (x ∷ a) zero (suc v) t h = refl
set_past (x ∷ a) (suc w) zero t h = absurd (omega (arith, h))
set_past (x ∷ a) (suc w) (suc v) t h = set_past a w v t (omega (arith, h))

pub set_length : (a : Solution) (w : ℕ) (t : Option Term) → length (slice_set a w t) ≡ length a
set_length [] w t = refl
set_length (x ∷ a) zero t = refl
set_length (x ∷ a) (suc w) t = ap suc (set_length a w t)

pub unbound_length : (n : ℕ) → length (unbound n) ≡ n
unbound_length zero = refl
unbound_length (suc n) = ap suc (unbound_length n)

pub same_number : (w v : ℕ) → (w == v) ≡ true → w ≡ v
same_number w v h = elim (eqb_tells w v) as (λ x. w ≡ v) [ inl p ↦ p.1 | inr p ↦ let f : false ≡ true = sym p.0 ∙ h in cc ]

pub other_number : (w v : ℕ) → (w == v) ≡ false → w ≡ v → ⊥
other_number w v h e = elim (eqb_tells w v) as (λ x. ⊥) [ inl p ↦ (let f : true ≡ false = sym p.0 ∙ h in cc) | inr p ↦ p.1 e ]

pub named_bound : (n w v : ℕ) (t : Term) → v < n → (w == v) ≡ true → term_at (binding n (w ∷ []) (Some t ∷ [])) v ≡ Some t
named_bound n w v t lt h = ap (λ k. term_at (slice_set (unbound n) k (Some t)) v) (same_number w v h) ∙ set_at n v (Some t) lt

pub named_other : (n w v : ℕ) (t : Term) → (w == v) ≡ false → term_at (binding n (w ∷ []) (Some t ∷ [])) v ≡ None
named_other n w v t h = set_other (unbound n) w v (Some t) (other_number w v h) ∙ unbound_at n v

pub named_past : (n w v : ℕ) (t : Term) → n ≤ v → term_at (binding n (w ∷ []) (Some t ∷ [])) v ≡ None
named_past n w v t h = set_past (unbound n) w v (Some t) (omega (arith, unbound_length n)) ∙ unbound_at n v

pub still_set : (a : Solution) (w v : ℕ) (t : Term) → IsSome (term_at a v) → IsSome (term_at (slice_set a w (Some t)) v)
still_set [] w v t h = h
still_set (x ∷ a) zero zero t h = refl
still_set (x ∷ a) zero (suc v) t h = h
still_set (x ∷ a) (suc w) zero t h = h
still_set (x ∷ a) (suc w) (suc v) t h = still_set a w v t h

-- a solution that is extended keeps what is bound
pub bound_keeps : (a : Solution) (w v : ℕ) (t : Option Term) → Bound v a → Bound v (bound_to a w t)
bound_keeps a w v None h = h
bound_keeps a w v (Some t) h = still_set a w v t h

-- and leaves each other variable
pub unbound_keeps : (a : Solution) (w v : ℕ) (t : Option Term) → (w == v) ≡ false → Unbound v a → Unbound v (bound_to a w t)
unbound_keeps a w v None o h = h
unbound_keeps a w v (Some t) o h = set_other a w v (Some t) (other_number w v o) ∙ h

or_parts : (a b : Bool) → (a || b) ≡ false → (a ≡ false) × (b ≡ false)
or_parts true b h = let f : true ≡ false = h in cc
or_parts false b h = (refl, h)

all_other : (a : Solution) (vs : List ℕ) (terms : List (Option Term)) (v : ℕ) → list_any (λ w. w == v) vs ≡ false → term_at (bind_all a vs terms) v ≡ term_at a v
all_other a [] terms v h = refl
all_other a (w ∷ vs) [] v h = refl
all_other a (w ∷ vs) (t ∷ terms) v h =
    let k = or_parts (w == v) (list_any (λ w. w == v) vs) h in
    all_other (slice_set a w t) vs terms v k.1 ∙ set_other a w v t (other_number w v k.0)

all_past : (a : Solution) (vs : List ℕ) (terms : List (Option Term)) (v : ℕ) → length a ≤ v → term_at (bind_all a vs terms) v ≡ term_at a v
all_past a [] terms v h = refl
all_past a (w ∷ vs) [] v h = refl
all_past a (w ∷ vs) (t ∷ terms) v h = all_past (slice_set a w t) vs terms v (omega (arith, h, set_length a w t)) ∙ set_past a w v t h

pub row_other : (n v : ℕ) (vs : List ℕ) (terms : List (Option Term)) → list_any (λ w. w == v) vs ≡ false → term_at (binding n vs terms) v ≡ None
row_other n v vs terms h = all_other (unbound n) vs terms v h ∙ unbound_at n v

pub row_past : (n v : ℕ) (vs : List ℕ) (terms : List (Option Term)) → n ≤ v → term_at (binding n vs terms) v ≡ None
row_past n v vs terms h = all_past (unbound n) vs terms v (omega (arith, h, unbound_length n)) ∙ unbound_at n v

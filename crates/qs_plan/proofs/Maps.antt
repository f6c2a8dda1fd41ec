-- Each map from the variables of triple patterns to the terms of a graph is among all maps, once.
use Rattle.std.proofs.Common.{◌≡◌, ℕ, ◌+◌, Bool, true, false, cond, ◌&&◌, inl, inr, List, [], ◌∷◌, map, zero, suc, Option, Some, None, if◌then◌else◌, refl, sym, ◌∙◌, ap, arith}
use Rattle.std.specs.Bool.{Decides}
use Rattle.std.specs.List.{flat_map}
use Rattle.qs_terms.specs.declared.term.Term.{Term}
use Rattle.qs_terms.specs.Term.{same_term}
use Rattle.qs_terms.proofs.SameTerm.{same_term-Decides}
use Rattle.qs_terms.specs.Bag.{Distinct}
use Rattle.qs_terms.specs.inner.Bag.{times}
use Rattle.qs_algebra_solutions.specs.Solution.{Solution, same_solution}
use Rattle.qs_algebra_solutions.specs.inner.Solution.{same_cell}
use Rattle.qs_algebra_patterns.specs.Basic.{all_maps}
use Rattle.qs_terms.proofs.Counts.{total, Once, once_like, once_at, once_total, AnyOf, times-flat_map, cond_zero}
use Rattle.qs_algebra_solutions.proofs.Same.{same_cell-Decides}

-- the variable is one of those that are bound, and then to one of the terms, or it is not bound
abbrev pub FitsCell : List Term → Bool → Option Term → Type 0
FitsCell terms false c = c ≡ None
FitsCell terms true c = AnyOf (λ t. c ≡ Some t) terms

abbrev pub Fits : (ℕ → Bool) → List Term → ℕ → ℕ → Solution → Type 0
Fits bound terms v zero [] = Unit {0}
Fits bound terms v zero (c ∷ m) = ⊥
Fits bound terms v (suc n) [] = ⊥
Fits bound terms v (suc n) (c ∷ m) = FitsCell terms (bound v) c × Fits bound terms (v + 1) n m

times_short : (d : Option Term) (ms : List Solution) → times same_solution [] (map (λ m. d ∷ m) ms) ≡ 0
times_short d [] = refl
times_short d (m ∷ ms) = omega (arith, times_short d ms)

cell_step : (b : Bool) (e : Bool) (n k : ℕ) → k ≡ cond b n 0 → cond (b && e) 1 0 + k ≡ cond b (cond e 1 0 + n) 0
cell_step true e n k h = ap (λ x. cond e 1 0 + x) h
cell_step false e n k h = omega (arith, h)

times_cell : (c d : Option Term) (m : Solution) (ms : List Solution) → times same_solution (c ∷ m) (map (λ m. d ∷ m) ms) ≡ cond (same_cell c d) (times same_solution m ms) 0
times_cell c d m [] = cond_zero (same_cell c d)
times_cell c d m (x ∷ ms) = cell_step (same_cell c d) (same_solution m x) (times same_solution m ms) _ (times_cell c d m ms)

total_zero : {X : Type 0} (f : X → ℕ) → ((x : X) → f x ≡ 0) → (xs : List X) → total f xs ≡ 0
total_zero f h [] = refl
total_zero f h (x ∷ xs) = omega (arith, h x, total_zero f h xs)

-- P at c, where the test is exact
cell_once : (P : Type 0) (c d : Option Term) (n : ℕ) (b : Bool) → same_cell c d ≡ b → Once P n → Once ((c ≡ d) × P) (cond b n 0)
cell_once P c d n true q (inl p) = inl (((same_cell-Decides c d).0 q, p.0), p.1)
cell_once P c d n true q (inr p) = inr ((λ h. p.0 h.1), p.1)
cell_once P c d n false q w = inr ((λ h. let f : same_cell c d ≡ true = (same_cell-Decides c d).1 h.0 in cc), refl)

any_with : (P : Type 0) (c : Option Term) (terms : List Term) → AnyOf (λ t. (c ≡ Some t) × P) terms → AnyOf (λ t. c ≡ Some t) terms × P
any_with P c [] w = elim w [ ]
any_with P c (t ∷ ts) (inl p) = (inl p.0, p.1)
any_with P c (t ∷ ts) (inr w) = let x = any_with P c ts w in (inr x.0, x.1)

with_any : (P : Type 0) (c : Option Term) (terms : List Term) → AnyOf (λ t. c ≡ Some t) terms → P → AnyOf (λ t. (c ≡ Some t) × P) terms
with_any P c [] w p = elim w [ ]
with_any P c (t ∷ ts) (inl e) p = inl (e, p)
with_any P c (t ∷ ts) (inr w) p = inr (with_any P c ts w p)

term_exact : (a b : Term) → Decides (same_term a b) (a ≡ b)
term_exact = same_term-Decides

pub cell_maps : (terms : List Term) → Distinct same_term terms → (P : Type 0) (c : Option Term) (m : Solution) (ms : List Solution) (b : Bool) → Once P (times same_solution m ms)
    → Once (FitsCell terms b c × P) (times same_solution (c ∷ m) (if b then flat_map (λ t. map (λ m. Some t ∷ m) ms) terms else map (λ m. None ∷ m) ms))
cell_maps terms d P c m ms false w = once_at _ _ (times_cell c None m ms) (cell_once P c None (times same_solution m ms) (same_cell c None) refl w)
cell_maps terms d P c m ms true w =
    once_at _ _ (times-flat_map same_solution (λ t. map (λ m. Some t ∷ m) ms) (c ∷ m) terms)
    (once_like {P = AnyOf (λ t. (c ≡ Some t) × P) terms} {Q = AnyOf (λ t. c ≡ Some t) terms × P} _ (any_with P c terms) (λ q. with_any P c terms q.0 q.1)
    (once_total same_term term_exact (λ t. (c ≡ Some t) × P) (λ t. times same_solution (c ∷ m) (map (λ m. Some t ∷ m) ms))
    (λ t u p q. let e : Some t ≡ Some u = sym p.0 ∙ q.0 in cc)
    (λ t. once_at _ _ (times_cell c (Some t) m ms) (cell_once P c (Some t) (times same_solution m ms) (same_cell c (Some t)) refl w))
    terms d))

none_short : (b : Bool) (terms : List Term) (ms : List Solution) → times same_solution [] (if b then flat_map (λ t. map (λ m. Some t ∷ m) ms) terms else map (λ m. None ∷ m) ms) ≡ 0
none_short false terms ms = times_short None ms
none_short true terms ms =
    times-flat_map same_solution (λ t. map (λ m. Some t ∷ m) ms) [] terms ∙ total_zero (λ t. times same_solution [] (map (λ m. Some t ∷ m) ms)) (λ t. times_short (Some t) ms) terms

pub maps_once : (bound : ℕ → Bool) (terms : List Term) → Distinct same_term terms → (v n : ℕ) (m : Solution) → Once (Fits bound terms v n m) (times same_solution m (all_maps bound terms v n))
maps_once bound terms d v zero [] = inl (tt, refl)
maps_once bound terms d v zero (c ∷ m) = inr ((λ h. h), refl)
maps_once bound terms d v (suc n) [] = inr ((λ h. h), none_short (bound v) terms (all_maps bound terms (v + 1) n))
maps_once bound terms d v (suc n) (c ∷ m) =
    cell_maps terms d (Fits bound terms (v + 1) n m) c m (all_maps bound terms (v + 1) n) (bound v) (maps_once bound terms d (v + 1) n m)

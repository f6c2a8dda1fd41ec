-- A solution merged with the one that binds a variable alone.
use Rattle.std.proofs.Common.{◌≡◌, ℕ, zero, suc, ◌<◌, ◌≤◌, Bool, true, false, ◌&&◌, [], ◌∷◌, length, Option, Some, None, slice_set, if◌then◌else◌, refl, ◌∙◌, ap, arith}
use Rattle.qs_terms.specs.declared.term.Term.{Term}
use Rattle.qs_algebra_solutions.specs.Solution.{Solution, term_at, unbound, compatible_terms, compatible, merge}
use Rattle.qs_algebra_solutions.specs.inner.Solution.{first_bound}
use Rattle.qs_algebra_solutions.specs.Operators.{merges}

pub none_agrees : (x : Option Term) → compatible_terms x None ≡ true
none_agrees None = refl
none_agrees (Some x) = refl

pub none_first : (x : Option Term) → first_bound x None ≡ x
none_first None = refl
none_first (Some x) = refl

compatible_none : (y : Solution) (w : ℕ) → compatible y (unbound w) ≡ true
compatible_none [] w = refl
compatible_none (x ∷ y) zero = refl
compatible_none (x ∷ y) (suc w) = rw (none_agrees x) (compatible_none y w)

merge_none : (y : Solution) (w : ℕ) → w ≤ length y → merge y (unbound w) ≡ y
merge_none [] zero h = refl
merge_none [] (suc w) h = absurd (omega arith)
merge_none (x ∷ y) zero h = refl
merge_none (x ∷ y) (suc w) h =
    let a : first_bound x None ≡ x = none_first x in
    let b : merge y (unbound w) ≡ y = merge_none y w (omega arith) in cc

pub named_compatible : (y : Solution) (w v : ℕ) (x : Option Term) → v < w → w ≤ length y → compatible y (slice_set (unbound w) v x) ≡ compatible_terms (term_at y v) x
named_compatible y zero v x h k = absurd (omega arith)
named_compatible [] (suc w) v x h k = absurd (omega arith)
named_compatible (a ∷ y) (suc w) zero x h k = rw (compatible_none y w) (and_true (compatible_terms a x))
  where
    and_true : (b : Bool) → (b && true) ≡ b
    and_true true = refl
    and_true false = refl
named_compatible (a ∷ y) (suc w) (suc v) x h k = rw (none_agrees a) (named_compatible y w v x (omega arith) (omega arith))

pub named_merge : (y : Solution) (w v : ℕ) (x : Option Term) → v < w → w ≤ length y → merge y (slice_set (unbound w) v x) ≡ slice_set y v (first_bound (term_at y v) x)
named_merge y zero v x h k = absurd (omega arith)
named_merge [] (suc w) v x h k = absurd (omega arith)
named_merge (a ∷ y) (suc w) zero x h k = ap (λ (u : Solution). first_bound a x ∷ u) (merge_none y w (omega arith))
named_merge (a ∷ y) (suc w) (suc v) x h k =
    let b : first_bound a None ≡ a = none_first a in
    let c : merge y (slice_set (unbound w) v x) ≡ slice_set y v (first_bound (term_at y v) x) = named_merge y w v x (omega arith) (omega arith) in cc

-- the merges of a solution with one other
pub merges_one : (y b : Solution) (c : Bool) → compatible y b ≡ c → merges (b ∷ []) y ≡ (if c then merge y b ∷ [] else [])
merges_one y b true e = rw e refl
merges_one y b false e = rw e refl

-- the merges with the solution that binds the variable alone
pub merges_named : (y : Solution) (w v : ℕ) (x : Option Term) (c : Bool) → v < w → w ≤ length y → compatible_terms (term_at y v) x ≡ c
    → merges (slice_set (unbound w) v x ∷ []) y ≡ (if c then slice_set y v (first_bound (term_at y v) x) ∷ [] else [])
merges_named y w v x c h k e =
    merges_one y (slice_set (unbound w) v x) c (named_compatible y w v x h k ∙ e) ∙ ap (λ (u : Solution). if c then u ∷ [] else []) (named_merge y w v x h k)

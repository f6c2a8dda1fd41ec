-- An OPTIONAL, or a condition, inside a group that is fed: to merge a row into the solutions before it or into those after it is the same, where
-- the row changes nothing of what it sees.
use Rattle.std.proofs.Common.{◌≡◌, ◌==◌, ℕ, zero, suc, Bool, true, false, ◌&&◌, ◌||◌, cond, List, [], ◌∷◌, map, Option, Some, None, refl, sym, ◌∙◌, ap, subst, append-nil}
use Rattle.std.specs.List.{AllByRecursion, filter, flat_map, list_any}
use Rattle.qs_terms.specs.declared.term.Term.{Term}
use Rattle.qs_expr_meaning.specs.Meaning.{meaning, holds}
use Rattle.qs_expr_meaning.specs.declared.expr.Expr.{Expr}
use Rattle.qs_algebra_solutions.specs.Solution.{Solution, term_at, compatible_terms, compatible, merge}
use Rattle.qs_algebra_solutions.specs.inner.Solution.{first_bound}
use Rattle.qs_algebra_solutions.specs.Operators.{merges, or_alone}
use Rattle.qs_algebra_patterns.specs.Eval.{all_hold}
use Rattle.qs_algebra_patterns.specs.inner.Eval.{kept}
use Rattle.qs_plan.specs.inner.Reads.{Agree, Settles}
use Rattle.qs_plan.proofs.Commutes.{Commutes, to_compatible, merges_commute, merge_assoc, compatible_assoc}
use Rattle.qs_plan.proofs.Getting.{same_number}
use Rattle.qs_plan.proofs.Laying.{alone_after}
use Rattle.qs_plan.proofs.Widths.{all_filter, merge_at}

-- the solution binds none but these
abbrev pub BindsOnly : List ℕ → Solution → Type 0
BindsOnly vs y = (v : ℕ) → list_any (λ w. w == v) vs ≡ false → term_at y v ≡ None

agree_at : (vs : List ℕ) (m x : Solution) (v : ℕ) → list_any (λ w. w == v) vs ≡ true → Agree vs m x → term_at x v ≡ term_at m v
agree_at [] m x v h a = let g : false ≡ true = h in cc
agree_at (w ∷ vs) m x v h a = at (w == v) refl h (λ k. agree_at vs m x v k a.1)
  where
    at : (b : Bool) → (w == v) ≡ b → (b || list_any (λ u. u == v) vs) ≡ true → (list_any (λ u. u == v) vs ≡ true → term_at x v ≡ term_at m v) → term_at x v ≡ term_at m v
    at true e k rest = subst (λ (u : ℕ). term_at x u ≡ term_at m u) (same_number w v e) a.0
    at false e k rest = rest k

settled_hold : (us : List ℕ) (cs : List Expr) → AllByRecursion (Settles us) cs → (m x : Solution) → Agree us m x → all_hold cs x ≡ all_hold cs m
settled_hold us [] h m x a = refl
settled_hold us (c ∷ cs) h m x a = ap (λ b. b && all_hold cs x) one ∙ ap (λ b. holds m c && b) (settled_hold us cs h.1 m x a)
  where
    one : holds x c ≡ holds m c
    one = let k : meaning x c ≡ meaning m c = h.0.same m x a in cc

compatible_from : (a b : Solution) → ((v : ℕ) → compatible_terms (term_at a v) (term_at b v) ≡ true) → compatible a b ≡ true
compatible_from [] b h = refl
compatible_from (x ∷ a) [] h = refl
compatible_from (x ∷ a) (y ∷ b) h = both (compatible_terms x y) (compatible a b) (h 0) (compatible_from a b (λ v. h (suc v)))
  where
    both : (c d : Bool) → c ≡ true → d ≡ true → (c && d) ≡ true
    both true d e f = f
    both false d e f = e

compatible_at : (a b : Solution) (v : ℕ) → compatible a b ≡ true → compatible_terms (term_at a v) (term_at b v) ≡ true
compatible_at [] b v h = refl
compatible_at (x ∷ a) [] v h = none (term_at (x ∷ a) v)
  where
    none : (o : Option Term) → compatible_terms o None ≡ true
    none None = refl
    none (Some t) = refl
compatible_at (x ∷ a) (y ∷ b) zero h = first (compatible_terms x y) (compatible a b) h
  where
    first : (c d : Bool) → (c && d) ≡ true → c ≡ true
    first true d k = refl
    first false d k = k
compatible_at (x ∷ a) (y ∷ b) (suc v) h = compatible_at a b v (rest (compatible_terms x y) (compatible a b) h)
  where
    rest : (c d : Bool) → (c && d) ≡ true → d ≡ true
    rest true d k = k
    rest false d k = let f : false ≡ true = k in cc

-- at compatible solutions, and at others
from_compatible : (f : Solution → List Solution) (m n : Solution) → compatible m n ≡ true → f (merge m n) ≡ merges (f n) m → Commutes f m n
from_compatible f m n e h = simp e (append-nil (f (merge m n)) ∙ h)

from_apart : (f : Solution → List Solution) (m n : Solution) → compatible m n ≡ false → merges (f n) m ≡ [] → Commutes f m n
from_apart f m n e h = simp e (sym h)

none_right : (o : Option Term) → compatible_terms o None ≡ true
none_right None = refl
none_right (Some t) = refl

first_none : (o : Option Term) → first_bound o None ≡ None → o ≡ None
first_none None h = refl
first_none (Some t) h = h

-- ---- rows that go together

module _ (m : Solution) where
  abbrev Goes : Solution → Type 0
  Goes z = compatible m z ≡ true

  all_merged : (zs : List Solution) → AllByRecursion Goes zs → merges zs m ≡ map (merge m) zs
  all_merged [] h = refl
  all_merged (z ∷ zs) h = ap (λ b. map (merge m) (cond b (z ∷ filter (compatible m) zs) (filter (compatible m) zs))) h.0 ∙ ap (λ l. merge m z ∷ l) (all_merged zs h.1)

  none_merged : (zs : List Solution) → AllByRecursion (λ z. compatible m z ≡ false) zs → merges zs m ≡ []
  none_merged [] h = refl
  none_merged (z ∷ zs) h = ap (λ b. map (merge m) (cond b (z ∷ filter (compatible m) zs) (filter (compatible m) zs))) h.0 ∙ none_merged zs h.1

  alone_mapped : (n : Solution) (ws : List Solution) → or_alone (merge m n) (map (merge m) ws) ≡ map (merge m) (or_alone n ws)
  alone_mapped n [] = refl
  alone_mapped n (w ∷ ws) = refl

  module _ (n : Solution) where
    agree_more : (y : Solution) (us : List ℕ) → Agree us n (merge m n) → Agree us (merge n y) (merge m (merge n y))
    agree_more y [] a = tt
    agree_more y (v ∷ us) a = (
      ap (λ z. term_at z v) (sym (merge_assoc m n y)) ∙ (merge_at (merge m n) y v ∙ (ap (λ o. first_bound o (term_at y v)) a.0 ∙ sym (merge_at n y v))),
      agree_more y us a.1,
    )

    goes_more : (vs : List ℕ) (y : Solution) → compatible m n ≡ true → Agree vs n (merge m n) → BindsOnly vs y → Goes (merge n y)
    goes_more vs y c a b = compatible_from m (merge n y) (λ v. subst (λ (o : Option Term). compatible_terms (term_at m v) o ≡ true) (sym (merge_at n y v)) (at v (term_at n v) refl))
      where
        unbound_there : (v : ℕ) → term_at n v ≡ None → list_any (λ w. w == v) vs ≡ true → term_at m v ≡ None
        unbound_there v e h = first_none (term_at m v) (ap (first_bound (term_at m v)) (sym e) ∙ (sym (merge_at m n v) ∙ (agree_at vs n (merge m n) v h a ∙ e)))

        by : (v : ℕ) → term_at n v ≡ None → (b : Bool) → list_any (λ w. w == v) vs ≡ b → compatible_terms (term_at m v) (term_at y v) ≡ true
        by v e true h = ap (λ o. compatible_terms o (term_at y v)) (unbound_there v e h)
        by v e false h = ap (compatible_terms (term_at m v)) (b v h) ∙ none_right (term_at m v)

        at : (v : ℕ) (o : Option Term) → term_at n v ≡ o → compatible_terms (term_at m v) (first_bound o (term_at y v)) ≡ true
        at v None e = by v e (list_any (λ w. w == v) vs) refl
        at v (Some t) e = ap (compatible_terms (term_at m v)) (sym e) ∙ compatible_at m n v c

    module _ (cs : List Expr) (us : List ℕ) (settled : AllByRecursion (Settles us) cs) (ys : List Solution) where
      abbrev left : Solution → List Solution
      left x = or_alone x (filter (all_hold cs) (merges ys x))

      abbrev Fit : Solution → Type 0
      Fit z = Goes z × (all_hold cs (merge m z) ≡ all_hold cs z)

      fit_merges : (vs : List ℕ) → compatible m n ≡ true → Agree vs n (merge m n) → Agree us n (merge m n) → (xs : List Solution) → AllByRecursion (BindsOnly vs) xs → AllByRecursion Fit (merges xs n)
      fit_merges vs c a k [] h = tt
      fit_merges vs c a k (x ∷ xs) h = at (compatible n x) (fit_merges vs c a k xs h.1)
        where
          at : (b : Bool) → AllByRecursion Fit (merges xs n) → AllByRecursion Fit (map (merge n) (cond b (x ∷ filter (compatible n) xs) (filter (compatible n) xs)))
          at true i = ((goes_more vs x c a h.0, settled_hold us cs settled (merge n x) (merge m (merge n x)) (agree_more x us k)), i)
          at false i = i

      going : (zs : List Solution) → AllByRecursion Fit zs → AllByRecursion Goes zs
      going [] h = tt
      going (z ∷ zs) h = (h.0.0, going zs h.1)

      filter_mapped : (zs : List Solution) → AllByRecursion Fit zs → filter (all_hold cs) (map (merge m) zs) ≡ map (merge m) (filter (all_hold cs) zs)
      filter_mapped [] h = refl
      filter_mapped (z ∷ zs) h = at (all_hold cs z) refl (filter_mapped zs h.1)
        where
          at : (b : Bool) → all_hold cs z ≡ b → filter (all_hold cs) (map (merge m) zs) ≡ map (merge m) (filter (all_hold cs) zs)
              → cond (all_hold cs (merge m z)) (merge m z ∷ filter (all_hold cs) (map (merge m) zs)) (filter (all_hold cs) (map (merge m) zs)) ≡ map (merge m) (cond b (z ∷ filter (all_hold cs) zs) (filter (all_hold cs) zs))
          at true e i =
              let g : all_hold cs (merge m z) ≡ true = h.0.1 ∙ e in
              ap (λ b. cond b (merge m z ∷ filter (all_hold cs) (map (merge m) zs)) (filter (all_hold cs) (map (merge m) zs))) g ∙ ap (λ l. merge m z ∷ l) i
          at false e i =
              let g : all_hold cs (merge m z) ≡ false = h.0.1 ∙ e in
              ap (λ b. cond b (merge m z ∷ filter (all_hold cs) (map (merge m) zs)) (filter (all_hold cs) (map (merge m) zs))) g ∙ i

      left_together : (vs : List ℕ) → compatible m n ≡ true → Agree vs n (merge m n) → Agree us n (merge m n) → AllByRecursion (BindsOnly vs) ys → left (merge m n) ≡ merges (left n) m
      left_together vs c a k h =
          ap (λ zs. or_alone (merge m n) (filter (all_hold cs) zs)) (to_compatible (merges ys) m n c (merges_commute ys m n) ∙ all_merged (merges ys n) (going (merges ys n) fit))
          ∙ (ap (or_alone (merge m n)) (filter_mapped (merges ys n) fit)
          ∙ (alone_mapped n (filter (all_hold cs) (merges ys n))
          ∙ sym (all_merged (left n) (alone_after Goes n (filter (all_hold cs) (merges ys n)) c (all_filter Goes (all_hold cs) (merges ys n) (going (merges ys n) fit))))))
        where
          fit : AllByRecursion Fit (merges ys n)
          fit = fit_merges vs c a k ys h

      left_apart : compatible m n ≡ false → merges (left n) m ≡ []
      left_apart c =
          none_merged (left n) (alone_after Apart n (filter (all_hold cs) (merges ys n)) c (all_filter Apart (all_hold cs) (merges ys n) (each ys)))
        where
          Apart : Solution → Type 0
          Apart z = compatible m z ≡ false

          is_false : (b c d : Bool) → (false && b) ≡ (c && d) → c ≡ true → d ≡ false
          is_false b true true h f = let g : false ≡ true = h in cc
          is_false b true false h f = refl
          is_false b false d h f = let g : false ≡ true = f in cc

          each : (xs : List Solution) → AllByRecursion Apart (merges xs n)
          each [] = tt
          each (x ∷ xs) = at (compatible n x) refl (each xs)
            where
              at : (b : Bool) → compatible n x ≡ b → AllByRecursion Apart (merges xs n) → AllByRecursion Apart (map (merge n) (cond b (x ∷ filter (compatible n) xs) (filter (compatible n) xs)))
              at true f i =
                  (is_false (compatible (merge m n) x) (compatible n x) (compatible m (merge n x)) (ap (λ b. b && compatible (merge m n) x) (sym c) ∙ compatible_assoc m n x) f, i)
              at false f i = i

      pub left_commutes : (vs : List ℕ) → AllByRecursion (BindsOnly vs) ys → (compatible m n ≡ true → Agree vs n (merge m n) × Agree us n (merge m n)) → Commutes left m n
      left_commutes vs h a = at (compatible m n) refl
        where
          at : (b : Bool) → compatible m n ≡ b → Commutes left m n
          at true c = from_compatible left m n c (left_together vs c (a c).0 (a c).1 h)
          at false c = from_apart left m n c (left_apart c)

  -- ---- conditions

  pub kept_commutes : (cs : List Expr) (us : List ℕ) → AllByRecursion (Settles us) cs → (xs : List Solution) → AllByRecursion (λ x. compatible m x ≡ true → Agree us x (merge m x)) xs → kept cs (merges xs m) ≡ merges (kept cs xs) m
  kept_commutes cs us settled [] h = refl
  kept_commutes cs us settled (x ∷ xs) h = at (compatible m x) (all_hold cs x) refl refl (kept_commutes cs us settled xs h.1)
    where
      at : (b d : Bool) → compatible m x ≡ b → all_hold cs x ≡ d → kept cs (merges xs m) ≡ merges (kept cs xs) m
          → kept cs (map (merge m) (cond b (x ∷ filter (compatible m) xs) (filter (compatible m) xs))) ≡ merges (cond d (x ∷ kept cs xs) (kept cs xs)) m
      at true true e f i =
          let g : all_hold cs (merge m x) ≡ true = settled_hold us cs settled x (merge m x) (h.0 e) ∙ f in
          ap (λ b. cond b (merge m x ∷ kept cs (merges xs m)) (kept cs (merges xs m))) g
          ∙ (ap (λ l. merge m x ∷ l) i ∙ sym (ap (λ b. map (merge m) (cond b (x ∷ filter (compatible m) (kept cs xs)) (filter (compatible m) (kept cs xs)))) e))
      at true false e f i =
          let g : all_hold cs (merge m x) ≡ false = settled_hold us cs settled x (merge m x) (h.0 e) ∙ f in
          ap (λ b. cond b (merge m x ∷ kept cs (merges xs m)) (kept cs (merges xs m))) g ∙ i
      at false true e f i = i ∙ sym (ap (λ b. map (merge m) (cond b (x ∷ filter (compatible m) (kept cs xs)) (filter (compatible m) (kept cs xs)))) e)
      at false false e f i = i

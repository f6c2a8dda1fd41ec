-- One variable more of those that are bound.
use Rattle.std.proofs.Common.{◌≡◌, ℕ, zero, suc, ◌+◌, ◌<◌, ◌≤◌, List, [], ◌∷◌, length, drop, get_or, min, slice_set, Option, refl, sym, ap, ◌∙◌, arith}
use Rattle.std.proofs.lemmas.List.{drop_more}
use Rattle.qs_terms.specs.declared.term.Term.{Term}
use Rattle.qs_algebra_solutions.specs.Solution.{Solution, bind_all}

pub one_more : (a : Solution) (vs : List ℕ) (terms : List (Option Term)) (i v : ℕ) (t : Option Term) → i < min (length vs) (length terms) → v ≡ get_or vs i v → t ≡ get_or terms i t
    → bind_all a (drop i vs) (drop i terms) ≡ bind_all (slice_set a v t) (drop (i + 1) vs) (drop (i + 1) terms)
one_more a vs terms i v t lt e f =
    ap (λ l. bind_all a l (drop i terms)) (drop_more vs i v (omega (arith, lt)) ∙ ap (λ x. x ∷ drop (i + 1) vs) (sym e))
    ∙ ap (λ l. bind_all a (v ∷ drop (i + 1) vs) l) (drop_more terms i t (omega (arith, lt)) ∙ ap (λ x. x ∷ drop (i + 1) terms) (sym f))

no_terms : (a : Solution) (vs : List ℕ) → bind_all a vs [] ≡ a
no_terms a [] = refl
no_terms a (v ∷ vs) = refl

past : (a : Solution) (vs : List ℕ) (terms : List (Option Term)) (i : ℕ) → min (length vs) (length terms) ≤ i → bind_all a (drop i vs) (drop i terms) ≡ a
past a [] terms zero h = refl
past a [] terms (suc i) h = refl
past a (v ∷ vs) [] zero h = refl
past a (v ∷ vs) [] (suc i) h = no_terms a (drop i vs)
past a (v ∷ vs) (t ∷ terms) zero h = absurd (omega (arith, h))
past a (v ∷ vs) (t ∷ terms) (suc i) h = past a vs terms i (omega (arith, h))

pub none_left : (a : Solution) (vs : List ℕ) (terms : List (Option Term)) (i : ℕ) → min (length vs) (length terms) ≤ i → bind_all a (drop i vs) (drop i terms) ≡ a
none_left a vs terms i h = past a vs terms i h

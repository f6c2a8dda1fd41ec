-- The operators respect bags.
use Rattle.std.proofs.Common.{◌≡◌, Bool, cond, not, List, [], ◌∷◌, refl, sym, ◌∙◌, ap, subst, arith}
use Rattle.std.specs.List.{filter, flat_map, list_any}
use Rattle.std.proofs.lemmas.List.Sorted.{IsPermutation-map, length_permutation, IsPermutation-refl, IsPermutation-trans, list_any-IsPermutation}
use Rattle.qs_terms.specs.Bag.{SameBag}
use Rattle.qs_terms.specs.inner.Bag.{times}
use Rattle.qs_algebra_solutions.specs.Solution.{Solution, same_solution, compatible, merge}
use Rattle.qs_algebra_solutions.specs.Operators.{merges, join, or_alone, left_join, excludes, minus}
use Rattle.qs_terms.proofs.Counts.{times-flat_map, times-filter, times-same, total-same, total-ap, same_from_times}
use Rattle.qs_algebra_solutions.proofs.Same.{same_solution-Decides}

pub by_times : (xs ys : List Solution) → ((a : Solution) → times same_solution a xs ≡ times same_solution a ys) → SameBag xs ys
by_times = same_from_times same_solution same_solution-Decides

pub filter_same : (p : Solution → Bool) (xs ys : List Solution) → SameBag xs ys → SameBag (filter p xs) (filter p ys)
filter_same p xs ys h =
    by_times _ _ (λ a.
    times-filter same_solution same_solution-Decides p a xs
    ∙ (ap (λ n. cond (p a) n 0) (times-same same_solution a xs ys h) ∙ sym (times-filter same_solution same_solution-Decides p a ys)))

-- equal bags on the left, and equal bags from each
pub flat_map_same : {T : Type 0} (f g : T → List Solution) (xs ys : List T) → SameBag xs ys → ((t : T) → SameBag (f t) (g t)) → SameBag (flat_map f xs) (flat_map g ys)
flat_map_same f g xs ys h each =
    by_times _ _ (λ a.
    times-flat_map same_solution f a xs
    ∙ (total-ap (λ t. times same_solution a (f t)) (λ t. times same_solution a (g t)) (λ t. times-same same_solution a (f t) (g t) (each t)) xs
    ∙ (total-same (λ t. times same_solution a (g t)) xs ys h ∙ sym (times-flat_map same_solution g a ys))))

pub merges_same : (right right' : List Solution) (a : Solution) → SameBag right right' → SameBag (merges right a) (merges right' a)
merges_same right right' a h = IsPermutation-map (merge a) _ _ (filter_same (compatible a) right right' h)

pub join_same : (left left' right right' : List Solution) → SameBag left left' → SameBag right right' → SameBag (join left right) (join left' right')
join_same left left' right right' l r = flat_map_same (merges right) (merges right') left left' l (λ a. merges_same right right' a r)

pub filter_ap : (p q : Solution → Bool) → ((a : Solution) → p a ≡ q a) → (xs : List Solution) → filter p xs ≡ filter q xs
filter_ap p q h [] = refl
filter_ap p q h (x ∷ xs) = rw (h x) (ap (λ fs. cond (q x) (x ∷ fs) fs) (filter_ap p q h xs))

pub alone_same : (a : Solution) (xs ys : List Solution) → SameBag xs ys → SameBag (or_alone a xs) (or_alone a ys)
alone_same a [] [] h = IsPermutation-refl (a ∷ [])
alone_same a [] (y ∷ ys) h = absurd (omega (arith, length_permutation _ _ h))
alone_same a (x ∷ xs) [] h = absurd (omega (arith, length_permutation _ _ h))
alone_same a (x ∷ xs) (y ∷ ys) h = h

pub left_join_same : (holds : Solution → Bool) (left left' right right' : List Solution) → SameBag left left' → SameBag right right' → SameBag (left_join holds left right) (left_join holds left' right')
left_join_same holds left left' right right' l r =
    flat_map_same (λ a. or_alone a (filter holds (merges right a))) (λ a. or_alone a (filter holds (merges right' a))) left left' l (λ a. alone_same a _ _ (filter_same holds _ _ (merges_same right right' a r)))

pub minus_same : (left left' right right' : List Solution) → SameBag left left' → SameBag right right' → SameBag (minus left right) (minus left' right')
minus_same left left' right right' l r =
    IsPermutation-trans _ _ _ (filter_same (λ a. not (list_any (excludes a) right)) left left' l)
    (subst (λ (xs : List Solution). SameBag (minus left' right) xs)
    (filter_ap (λ a. not (list_any (excludes a) right)) (λ a. not (list_any (excludes a) right')) (λ a. ap not (list_any-IsPermutation (excludes a) right right' r)) left')
    (IsPermutation-refl (minus left' right)))

-- Lists as bags.
use Rattle.std.proofs.Common.{◌≡◌, List, [], ◌∷◌, subst, refl, sym, ◌∙◌, ap, arith}
use Rattle.std.proofs.lemmas.List.Sorted.{IsPermutation-refl, IsPermutation-trans, length_permutation}
use Rattle.std.proofs.Common.{Bool, cond}
use Rattle.std.proofs.lemmas.List.Sorted.{IsPermutation-map}
use Rattle.std.specs.List.{filter, flat_map}
use Rattle.qs_terms.specs.Bag.{SameBag}
use Rattle.qs_terms.specs.inner.Bag.{times}
use Rattle.qs_terms.proofs.Counts.{times-flat_map, times-filter, times-same, total-same, same_from_times}
use Rattle.qs_algebra_solutions.specs.Solution.{Solution, same_solution, compatible, merge}
use Rattle.qs_algebra_solutions.specs.Operators.{merges, or_alone}
use Rattle.qs_algebra_solutions.proofs.Same.{same_solution-Decides}

module _ {X : Type 0} where
  pub same : (xs ys : List X) → xs ≡ ys → SameBag xs ys
  same xs ys e = subst (λ (zs : List X). SameBag xs zs) e (IsPermutation-refl xs)

  -- one bag, between lists that are equal to others
  pub between : (xs xs' ys ys' : List X) → xs ≡ xs' → SameBag xs' ys' → ys ≡ ys' → SameBag xs ys
  between xs xs' ys ys' e h f = IsPermutation-trans xs xs' ys (same xs xs' e) (IsPermutation-trans xs' ys' ys h (same ys' ys (sym f)))

  pub chain : (xs ys zs : List X) → SameBag xs ys → SameBag ys zs → SameBag xs zs
  chain xs ys zs g h = IsPermutation-trans xs ys zs g h

  pub none_left : (xs : List X) → SameBag xs [] → xs ≡ []
  none_left [] h = refl
  none_left (x ∷ xs) h = absurd (omega (arith, length_permutation (x ∷ xs) [] h))

-- ---- what operators make of bags

by_times : (xs ys : List Solution) → ((a : Solution) → times same_solution a xs ≡ times same_solution a ys) → SameBag xs ys
by_times = same_from_times same_solution same_solution-Decides

pub filter_same : (p : Solution → Bool) (xs ys : List Solution) → SameBag xs ys → SameBag (filter p xs) (filter p ys)
filter_same p xs ys h =
    by_times _ _ (λ a.
    times-filter same_solution same_solution-Decides p a xs
    ∙ (ap (λ n. cond (p a) n 0) (times-same same_solution a xs ys h) ∙ sym (times-filter same_solution same_solution-Decides p a ys)))

pub flat_map_same : {T : Type 0} (f : T → List Solution) (xs ys : List T) → SameBag xs ys → SameBag (flat_map f xs) (flat_map f ys)
flat_map_same f xs ys h =
    by_times _ _ (λ a.
    times-flat_map same_solution f a xs
    ∙ (total-same (λ t. times same_solution a (f t)) xs ys h ∙ sym (times-flat_map same_solution f a ys)))

pub merges_same : (right right' : List Solution) (a : Solution) → SameBag right right' → SameBag (merges right a) (merges right' a)
merges_same right right' a h = IsPermutation-map (merge a) _ _ (filter_same (compatible a) right right' h)

pub alone_same : (a : Solution) (xs ys : List Solution) → SameBag xs ys → SameBag (or_alone a xs) (or_alone a ys)
alone_same a [] [] h = IsPermutation-refl (a ∷ [])
alone_same a [] (y ∷ ys) h = absurd (omega (arith, length_permutation _ _ h))
alone_same a (x ∷ xs) [] h = absurd (omega (arith, length_permutation _ _ h))
alone_same a (x ∷ xs) (y ∷ ys) h = h

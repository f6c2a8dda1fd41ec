-- Entries put in one after another, and the orders of a union.
use Rattle.std.proofs.Common.{◌≡◌, ◌⊎◌, ℕ, ◌+◌, ◌<◌, Bool, true, false, List, [], ◌∷◌, ◌++◌, map, length, get_or, take, drop, set, suc, zero, refl, ap, sym, ◌∙◌, subst, arith, inl, inr, ⊎_elim}
use Rattle.std.specs.List.{Contains}
use Rattle.std.specs.Bool.{OnTrue, OnFalse}
use Rattle.std.specs.List.Sorted.{IsPermutation}
use Rattle.std.proofs.lemmas.List.{take_more}
use Rattle.std.proofs.lemmas.List.Sorted.{Contains-permutation, IsPermutation-sym}
use Rattle.std.proofs.lemmas.List.Elements.{Contains-append_left, Contains-append_right, Contains-append_cases}
use Rattle.qs_index.specs.inner.Entries.{IsUnion}
use Rattle.qs_index.specs.inner.Entry.{IsAscending, with_entry, beginning}
use Rattle.qs_index.specs.inner.OrderOf.{IsOrderOf}
use Rattle.qs_index.specs.inner.Entry.{IsEntry}
use Rattle.qs_index.specs.inner.Permutation.{turned, restored}
use Rattle.qs_index.specs.declared.permutation.Permutation.{Permutation}
use Rattle.qs_index.specs.declared.permutation.Permutation.TheVariants.{Gspo}
use Rattle.qs_index.proofs.Distinct.{nothing_in_nil, map_has, member_of_map}
use Rattle.qs_index.proofs.Members.{head_or_tail, here, member_of_with, with_has_it, with_has_old}
use Rattle.qs_index.proofs.Turned.{turned_same}

pub IsUnion-nil : (xs : List (List ℕ)) → IsAscending xs → IsUnion xs [] xs
IsUnion-nil xs u = record {
  ascending = u;
  has_old = λ x c. c;
  has_added = λ x c. absurd (nothing_in_nil x c);
  only = λ x c. inl c;
}

-- one list after another
pub IsUnion-then : (xs a b ys zs : List (List ℕ)) → IsUnion xs a ys → IsUnion ys b zs → IsUnion xs (a ++ b) zs
IsUnion-then xs a b ys zs u v = record {
  ascending = v.ascending;
  has_old = λ x c. v.has_old x (u.has_old x c);
  has_added = λ x c. ⊎_elim (λ l. v.has_old x (u.has_added x l)) (λ r. v.has_added x r) (Contains-append_cases a b x c);
  only = λ x c. ⊎_elim (λ l. ⊎_elim (λ o. inl o) (λ f. inr (Contains-append_left a b x f)) (u.only x l)) (λ r. inr (Contains-append_right a b x r)) (v.only x c);
}

-- one more of the list was put in, or stood already
union_more : (xs front ys zs : List (List ℕ)) (e : List ℕ) → IsUnion xs front ys → IsAscending zs → ((y : List ℕ) → Contains ys y → Contains zs y) → Contains zs e → ((y : List ℕ) → Contains zs y → (e ≡ y) ⊎ Contains ys y) → IsUnion xs (front ++ e ∷ []) zs
union_more xs front ys zs e u a old it only = record {
  ascending = a;
  has_old = λ y c. old y (u.has_old y c);
  has_added = λ y c. ⊎_elim (λ f. old y (u.has_added y f)) (λ t. ⊎_elim (λ s. subst (Contains zs) s it) (λ n. absurd (nothing_in_nil y n)) (head_or_tail e [] y t)) (Contains-append_cases front (e ∷ []) y c);
  only = λ y c. ⊎_elim (λ s. inr (Contains-append_right front (e ∷ []) y (subst (Contains (e ∷ [])) s (here e [])))) (λ t. ⊎_elim (λ o. inl o) (λ f. inr (Contains-append_left front (e ∷ []) y f)) (u.only y t)) (only y c);
}

pub IsUnion-more : (xs all ys zs : List (List ℕ)) (i : ℕ) (e : List ℕ) (r : Bool) → i < length all → e ≡ get_or all i [] → IsUnion xs (take i all) ys → OnTrue r (zs ≡ with_entry e ys) → OnFalse r (zs ≡ ys) → OnFalse r (Contains ys e) → IsAscending zs → IsUnion xs (take (i + 1) all) zs
IsUnion-more xs all ys zs i e r h s u added kept stood a =
    subst (λ k. IsUnion xs k zs) (ap (λ k. take i all ++ k ∷ []) s ∙ sym (take_more all i [] h)) (by_test r added kept stood)
  where
    by_test : (r : Bool) → OnTrue r (zs ≡ with_entry e ys) → OnFalse r (zs ≡ ys) → OnFalse r (Contains ys e) → IsUnion xs (take i all ++ e ∷ []) zs
    by_test true added kept stood =
        union_more xs (take i all) ys zs e u a (λ y c. subst (λ k. Contains k y) (sym added) (with_has_old e y ys c)) (subst (λ k. Contains k e) (sym added) (with_has_it e ys)) (λ y c. member_of_with e y ys (subst (λ k. Contains k y) added c))
    by_test false added kept stood =
        union_more xs (take i all) ys zs e u a (λ y c. subst (λ k. Contains k y) (sym kept) c) (subst (λ k. Contains k e) (sym kept) stood) (λ y c. inr (subst (λ k. Contains k y) kept c))

-- a list whose entries are turned one after another, in place
pub mapped_more : (f : List ℕ → List ℕ) (xs : List (List ℕ)) (i : ℕ) → i < length xs → set (map f (take i xs) ++ drop i xs) i (f (get_or (map f (take i xs) ++ drop i xs) i [])) ≡ map f (take (suc i) xs) ++ drop (suc i) xs
mapped_more f [] i h = absurd (omega (arith, h))
mapped_more f (x ∷ xs) zero h = refl
mapped_more f (x ∷ xs) (suc i) h = ap (λ r. f x ∷ r) (mapped_more f xs i (omega (arith, h)))

-- the orders of a union
pub IsOrderOf-union : (permutation : Permutation) (xs ys added new_xs new_ys : List (List ℕ)) → IsOrderOf permutation xs ys → IsUnion xs added new_xs → IsUnion ys (map (turned permutation) added) new_ys → IsOrderOf permutation new_xs new_ys
IsOrderOf-union permutation xs ys added new_xs new_ys o u v = record {
  ascending = v.ascending;
  has = λ x c. ⊎_elim (λ l. v.has_old (turned permutation x) (o.has x l)) (λ r. v.has_added (turned permutation x) (map_has (turned permutation) x added r)) (u.only x c);
  only = λ x c. ⊎_elim (λ l. u.has_old x (o.only x l)) (λ r. let m = member_of_map (turned permutation) (turned permutation x) added r in u.has_added x (subst (Contains added) (turned_same permutation m.0 x m.2) m.1)) (v.only (turned permutation x) c);
}

-- the list that was put in, in another order
pub IsUnion-permutation : (xs us vs ys : List (List ℕ)) → IsPermutation us vs → IsUnion xs vs ys → IsUnion xs us ys
IsUnion-permutation xs us vs ys p u = record {
  ascending = u.ascending;
  has_old = u.has_old;
  has_added = λ x c. u.has_added x (Contains-permutation us vs x p c);
  only = λ x c. ⊎_elim (λ l. inl l) (λ r. inr (Contains-permutation vs us x (IsPermutation-sym us vs p) r)) (u.only x c);
}

pub turned_by_none : (xs : List (List ℕ)) → map (turned Gspo) xs ≡ xs
turned_by_none [] = refl
turned_by_none (x ∷ xs) = ap (λ r. x ∷ r) (turned_by_none xs)

pub entries_of_union : (xs added new : List (List ℕ)) → IsUnion xs added new → ((x : List ℕ) → Contains xs x → IsEntry x) → ((x : List ℕ) → Contains added x → IsEntry x) → (x : List ℕ) → Contains new x → IsEntry x
entries_of_union xs added new u old more x c = ⊎_elim (λ l. old x l) (λ r. more x r) (u.only x c)

-- all entries begin with nothing, and the first order turns none
pub all_restored : (xs : List (List ℕ)) → map (restored Gspo) (beginning [] xs) ≡ xs
all_restored [] = refl
all_restored (x ∷ xs) = ap (λ r. x ∷ r) (all_restored xs)

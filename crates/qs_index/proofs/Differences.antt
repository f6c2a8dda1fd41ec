-- Entries taken out one after another, and the orders of a difference.
use Rattle.std.proofs.Common.{ℕ, List, [], map, subst, inl, inr, ⊎_elim}
use Rattle.std.specs.List.{Contains}
use Rattle.std.specs.List.Sorted.{IsPermutation}
use Rattle.std.proofs.lemmas.List.Sorted.{Contains-permutation, IsPermutation-sym}
use Rattle.qs_index.specs.inner.Entries.{IsDifference}
use Rattle.qs_index.specs.inner.Entry.{IsAscending}
use Rattle.qs_index.specs.inner.OrderOf.{IsOrderOf}
use Rattle.qs_index.specs.inner.Permutation.{turned}
use Rattle.qs_index.specs.declared.permutation.Permutation.{Permutation}
use Rattle.qs_index.proofs.Distinct.{nothing_in_nil, map_has, member_of_map}
use Rattle.qs_index.proofs.Turned.{turned_same}

pub IsDifference-nil : (xs : List (List ℕ)) → IsAscending xs → IsDifference xs [] xs
IsDifference-nil xs u = record {
  ascending = u;
  kept = λ x c. inl c;
  gone = λ x c d. nothing_in_nil x d;
  only = λ x c. c;
}

-- the orders of a difference
pub IsOrderOf-difference : (permutation : Permutation) (xs ys removed new_xs new_ys : List (List ℕ)) → IsOrderOf permutation xs ys → IsDifference xs removed new_xs → IsDifference ys (map (turned permutation) removed) new_ys → IsOrderOf permutation new_xs new_ys
IsOrderOf-difference permutation xs ys removed new_xs new_ys o u v = record {
  ascending = v.ascending;
  has = λ x c. ⊎_elim (λ k. k) (λ r. let m = member_of_map (turned permutation) (turned permutation x) removed r in absurd (u.gone x c (subst (Contains removed) (turned_same permutation m.0 x m.2) m.1))) (v.kept (turned permutation x) (o.has x (u.only x c)));
  only = λ x c. ⊎_elim (λ k. k) (λ r. absurd (v.gone (turned permutation x) c (map_has (turned permutation) x removed r))) (u.kept x (o.only x (v.only (turned permutation x) c)));
}

-- the list that was taken out, in another order
pub IsDifference-permutation : (xs us vs ys : List (List ℕ)) → IsPermutation us vs → IsDifference xs vs ys → IsDifference xs us ys
IsDifference-permutation xs us vs ys p u = record {
  ascending = u.ascending;
  kept = λ x c. ⊎_elim (λ l. inl l) (λ r. inr (Contains-permutation vs us x (IsPermutation-sym us vs p) r)) (u.kept x c);
  gone = λ x c d. u.gone x c (Contains-permutation us vs x p d);
  only = u.only;
}

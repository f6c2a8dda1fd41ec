-- The orders of one set put into, or taken out of, those of another.
use Rattle.std.proofs.Common.{◌≡◌, ◌≤◌, ℕ, Bool, true, false, cond, arith, List, [], ◌∷◌, length, inl, inr, ⊎_elim}
use Rattle.qs_index.specs.inner.Entries.{IsUnion, IsDifference}
use Rattle.qs_index.specs.inner.Graph.{is_named, named_entries}
use Rattle.qs_index.specs.inner.Index.{IsOneSet}
use Rattle.qs_index.specs.inner.Named.{NamedOrders, AreNamedOf}
use Rattle.qs_index.specs.inner.OrderOf.{IsOrderOf}
use Rattle.qs_index.specs.inner.Permutation.{turned}
use Rattle.qs_index.specs.declared.permutation.Permutation.{Permutation}
use Rattle.qs_index.specs.declared.permutation.Permutation.TheVariants.{Gpos, Gosp, Spog, Posg, Ospg}
use Rattle.qs_index.proofs.Distinct.{IsAscending-filter, filter_has, member_of_filter}
use Rattle.qs_index.proofs.Turned.{order_length}

pub order_without_all : (p : Permutation) (xs ds new ys zs new_ys : List (List ℕ)) → IsDifference xs ds new → IsOrderOf p ds zs → IsDifference ys zs new_ys → IsOrderOf p xs ys → IsOrderOf p new new_ys
order_without_all p xs ds new ys zs new_ys u d v o = record {
  ascending = v.ascending;
  has = λ x c. ⊎_elim (λ k. k) (λ g. absurd (u.gone x c (d.only x g))) (v.kept (turned p x) (o.has x (u.only x c)));
  only = λ x c. ⊎_elim (λ k. k) (λ g. absurd (v.gone (turned p x) c (d.has x g))) (u.kept x (o.only x (v.only (turned p x) c)));
}

pub order_with_all : (p : Permutation) (xs ds new ys zs new_ys : List (List ℕ)) → IsUnion xs ds new → IsOrderOf p ds zs → IsUnion ys zs new_ys → IsOrderOf p xs ys → IsOrderOf p new new_ys
order_with_all p xs ds new ys zs new_ys u d v o = record {
  ascending = v.ascending;
  has = λ x c. ⊎_elim (λ l. v.has_old (turned p x) (o.has x l)) (λ r. v.has_added (turned p x) (d.has x r)) (u.only x c);
  only = λ x c. ⊎_elim (λ l. u.has_old x (o.only x l)) (λ r. u.has_added x (d.only x r)) (v.only (turned p x) c);
}

named_without_all : (xs ds ys : List (List ℕ)) → IsDifference xs ds ys → IsDifference (named_entries xs) (named_entries ds) (named_entries ys)
named_without_all xs ds ys u = record {
  ascending = IsAscending-filter is_named ys u.ascending;
  kept = λ x c. let m = member_of_filter is_named x xs c in ⊎_elim (λ k. inl (filter_has is_named x ys k m.1)) (λ g. inr (filter_has is_named x ds g m.1)) (u.kept x m.0);
  gone = λ x c d. u.gone x (member_of_filter is_named x ys c).0 (member_of_filter is_named x ds d).0;
  only = λ x c. let m = member_of_filter is_named x ys c in filter_has is_named x xs (u.only x m.0) m.1;
}

named_with_all : (xs ds ys : List (List ℕ)) → IsUnion xs ds ys → IsUnion (named_entries xs) (named_entries ds) (named_entries ys)
named_with_all xs ds ys u = record {
  ascending = IsAscending-filter is_named ys u.ascending;
  has_old = λ x c. let m = member_of_filter is_named x xs c in filter_has is_named x ys (u.has_old x m.0) m.1;
  has_added = λ x c. let m = member_of_filter is_named x ds c in filter_has is_named x ys (u.has_added x m.0) m.1;
  only = λ x c. let m = member_of_filter is_named x ys c in ⊎_elim (λ l. inl (filter_has is_named x xs l m.1)) (λ r. inr (filter_has is_named x ds r m.1)) (u.only x m.0);
}

pub AreNamedOf-without_all : (old other new : NamedOrders) (xs ds ys : List (List ℕ)) → IsDifference old.by_subject other.by_subject new.by_subject → IsDifference old.by_predicate other.by_predicate new.by_predicate → IsDifference old.by_object other.by_object new.by_object → IsDifference xs ds ys → AreNamedOf ds other → AreNamedOf xs old → AreNamedOf ys new
AreNamedOf-without_all old other new xs ds ys s p o u d a =
    let n = named_without_all xs ds ys u in
    record {
      subject = order_without_all Spog (named_entries xs) (named_entries ds) (named_entries ys) old.by_subject other.by_subject new.by_subject n d.subject s a.subject;
      predicate = order_without_all Posg (named_entries xs) (named_entries ds) (named_entries ys) old.by_predicate other.by_predicate new.by_predicate n d.predicate p a.predicate;
      object = order_without_all Ospg (named_entries xs) (named_entries ds) (named_entries ys) old.by_object other.by_object new.by_object n d.object o a.object;
    }

pub AreNamedOf-with_all : (old other new : NamedOrders) (xs ds ys : List (List ℕ)) → IsUnion old.by_subject other.by_subject new.by_subject → IsUnion old.by_predicate other.by_predicate new.by_predicate → IsUnion old.by_object other.by_object new.by_object → IsUnion xs ds ys → AreNamedOf ds other → AreNamedOf xs old → AreNamedOf ys new
AreNamedOf-with_all old other new xs ds ys s p o u d a =
    let n = named_with_all xs ds ys u in
    record {
      subject = order_with_all Spog (named_entries xs) (named_entries ds) (named_entries ys) old.by_subject other.by_subject new.by_subject n d.subject s a.subject;
      predicate = order_with_all Posg (named_entries xs) (named_entries ds) (named_entries ys) old.by_predicate other.by_predicate new.by_predicate n d.predicate p a.predicate;
      object = order_with_all Ospg (named_entries xs) (named_entries ds) (named_entries ys) old.by_object other.by_object new.by_object n d.object o a.object;
    }

-- no more entries are of named graphs than there are
pub few_named : (xs : List (List ℕ)) → length (named_entries xs) ≤ length xs
few_named [] = omega arith
few_named (x ∷ xs) = by_test (is_named x) (few_named xs)
  where
    by_test : (b : Bool) → length (named_entries xs) ≤ length xs → length (cond b (x ∷ named_entries xs) (named_entries xs)) ≤ length (x ∷ xs)
    by_test true i = omega (arith, i)
    by_test false i = omega (arith, i)

-- each order of a set has as many entries
pub record HaveLengths (n m : ℕ) (gpos gosp : List (List ℕ)) (named : NamedOrders) : Type 0 where
  pub predicate : length gpos ≡ n
  pub object : length gosp ≡ n
  pub named_subject : length named.by_subject ≡ m
  pub named_predicate : length named.by_predicate ≡ m
  pub named_object : length named.by_object ≡ m

pub lengths_of : (gspo gpos gosp : List (List ℕ)) (named : NamedOrders) → IsOneSet gspo gpos gosp named → HaveLengths (length gspo) (length (named_entries gspo)) gpos gosp named
lengths_of gspo gpos gosp named i =
    let u = i.by_subject.ascending in
    let n = IsAscending-filter is_named gspo u in
    record {
      predicate = order_length Gpos gspo gpos u i.by_predicate;
      object = order_length Gosp gspo gosp u i.by_object;
      named_subject = order_length Spog (named_entries gspo) named.by_subject n i.of_named.subject;
      named_predicate = order_length Posg (named_entries gspo) named.by_predicate n i.of_named.predicate;
      named_object = order_length Ospg (named_entries gspo) named.by_object n i.of_named.object;
    }

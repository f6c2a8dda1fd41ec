-- The orders of the named graphs of one set.
use Rattle.std.proofs.Common.{◌≡◌, ℕ, Bool, true, false, cond, List, [], ◌∷◌, ◌++◌, length, map, take, drop, Option, Some, None, refl, ap, sym, ◌∙◌, subst, inl, inr, ⊎_elim, IsTrue, ◌↔◌}
use Rattle.std.specs.Bool.{OnTrue}
use Rattle.std.specs.List.{All, Contains}
use Rattle.std.specs.List.Sorted.{IsPermutation}
use Rattle.std.proofs.lemmas.Bool.{false≢true}
use Rattle.std.proofs.lemmas.List.{take-append-drop}
use Rattle.std.proofs.lemmas.List.Elements.{All-contains, All-head, All-tail, filter-append, Contains-append_right, Contains-append_cases}
use Rattle.std.proofs.lemmas.List.Sorted.{Contains-permutation, IsPermutation-sym, sum_by-IsPermutation}
use Rattle.std.proofs.lemmas.List.Sums.{length-filter}
use Rattle.qs_index.specs.inner.Agreeing.{agreeing_named}
use Rattle.qs_index.specs.inner.Entry.{IsEntry, IsAscending, beginning, with_entry, without_entry}
use Rattle.qs_index.specs.inner.Entries.{IsUnion, IsDifference}
use Rattle.qs_index.specs.inner.Graph.{is_named, named_entries}
use Rattle.qs_index.specs.inner.Named.{NamedOrders, AreNamedOf, held_by}
use Rattle.qs_index.specs.inner.OrderOf.{IsOrderOf}
use Rattle.qs_index.specs.inner.Permutation.{turned, restored, order_used, named_order_used, named_prefix_of}
use Rattle.qs_index.specs.declared.permutation.Permutation.{Permutation}
use Rattle.qs_index.specs.declared.permutation.Permutation.TheVariants.{Spog, Posg, Ospg}
use Rattle.qs_index.proofs.Distinct.{IsAscending-filter, member_of_filter, filter_has}
use Rattle.qs_index.proofs.Members.{member_of_with, with_has_it, with_has_old, member_of_without, skip_of_member, without_has_other, without_lacks_it}
use Rattle.qs_index.proofs.Turned.{IsOrderOf-nil, order_added, order_removed, found_agree, begins-named}

-- an order depends on the members alone
pub IsOrderOf-members : (permutation : Permutation) (xs zs ys : List (List ℕ)) → ((x : List ℕ) → Contains zs x → Contains xs x) → ((x : List ℕ) → Contains xs x → Contains zs x) → IsOrderOf permutation xs ys → IsOrderOf permutation zs ys
IsOrderOf-members permutation xs zs ys to from o = record {
  ascending = o.ascending;
  has = λ x c. o.has x (to x c);
  only = λ x c. from x (o.only x c);
}

-- an entry of a named graph put in
pub named_with : (permutation : Permutation) (x : List ℕ) (xs zs : List (List ℕ)) → is_named x ≡ true → IsOrderOf permutation (with_entry x (named_entries xs)) zs → IsOrderOf permutation (named_entries (with_entry x xs)) zs
named_with permutation x xs zs h o =
    IsOrderOf-members permutation (with_entry x (named_entries xs)) (named_entries (with_entry x xs)) zs
    (λ y c. let m = member_of_filter is_named y (with_entry x xs) c in
    ⊎_elim (λ e. subst (Contains (with_entry x (named_entries xs))) e (with_has_it x (named_entries xs))) (λ t. with_has_old x y (named_entries xs) (filter_has is_named y xs t m.1)) (member_of_with x y xs m.0))
    (λ y c. ⊎_elim (λ e. subst (Contains (named_entries (with_entry x xs))) e (filter_has is_named x (with_entry x xs) (with_has_it x xs) h)) (λ t. let m = member_of_filter is_named y xs t in filter_has is_named y (with_entry x xs) (with_has_old x y xs m.0) m.1) (member_of_with x y (named_entries xs) c))
    o

-- an entry of the default graph put in
pub named_with_none : (permutation : Permutation) (x : List ℕ) (xs zs : List (List ℕ)) → is_named x ≡ false → IsOrderOf permutation (named_entries xs) zs → IsOrderOf permutation (named_entries (with_entry x xs)) zs
named_with_none permutation x xs zs h o =
    IsOrderOf-members permutation (named_entries xs) (named_entries (with_entry x xs)) zs
    (λ y c. let m = member_of_filter is_named y (with_entry x xs) c in
    ⊎_elim (λ e. absurd (false≢true (sym h ∙ ap is_named e ∙ m.1))) (λ t. filter_has is_named y xs t m.1) (member_of_with x y xs m.0))
    (λ y c. let m = member_of_filter is_named y xs c in filter_has is_named y (with_entry x xs) (with_has_old x y xs m.0) m.1)
    o

-- an entry of a named graph taken out
pub named_without : (permutation : Permutation) (x : List ℕ) (xs zs : List (List ℕ)) → is_named x ≡ true → IsAscending xs → Contains xs x → IsOrderOf permutation (without_entry x (named_entries xs)) zs → IsOrderOf permutation (named_entries (without_entry x xs)) zs
named_without permutation x xs zs h u s o =
    let ns = named_entries xs in
    let v = IsAscending-filter is_named xs u in
    let n = filter_has is_named x xs s h in
    IsOrderOf-members permutation (without_entry x ns) (named_entries (without_entry x xs)) zs
    (λ y c. let m = member_of_filter is_named y (without_entry x xs) c in
    without_has_other x y ns (skip_of_member x ns v n) (λ e. without_lacks_it x xs u s (subst (Contains (without_entry x xs)) (sym e) m.0)) (filter_has is_named y xs (member_of_without x y xs m.0) m.1))
    (λ y c. let m = member_of_filter is_named y xs (member_of_without x y ns c) in
    filter_has is_named y (without_entry x xs) (without_has_other x y xs (skip_of_member x xs u s) (λ e. without_lacks_it x ns v n (subst (Contains (without_entry x ns)) (sym e) c)) m.0) m.1)
    o

-- an entry of the default graph taken out
pub named_without_none : (permutation : Permutation) (x : List ℕ) (xs zs : List (List ℕ)) → is_named x ≡ false → IsAscending xs → Contains xs x → IsOrderOf permutation (named_entries xs) zs → IsOrderOf permutation (named_entries (without_entry x xs)) zs
named_without_none permutation x xs zs h u s o =
    IsOrderOf-members permutation (named_entries xs) (named_entries (without_entry x xs)) zs
    (λ y c. let m = member_of_filter is_named y (without_entry x xs) c in filter_has is_named y xs (member_of_without x y xs m.0) m.1)
    (λ y c. let m = member_of_filter is_named y xs c in
    filter_has is_named y (without_entry x xs) (without_has_other x y xs (skip_of_member x xs u s) (λ e. false≢true (sym h ∙ ap is_named e ∙ m.1)) m.0) m.1)
    o

-- the orders after an insert, and after a removal
pub order_with : (permutation : Permutation) (x t : List ℕ) (xs ys zs : List (List ℕ)) (r : Bool) → is_named x ≡ true → t ≡ turned permutation x → IsOrderOf permutation (named_entries xs) ys → (Contains xs x → ⊥) → IsTrue r ↔ (Contains ys t → ⊥) → OnTrue r (zs ≡ with_entry t ys) → IsAscending zs → IsOrderOf permutation (named_entries (with_entry x xs)) zs
order_with permutation x t xs ys zs r h s o n e a u =
    named_with permutation x xs zs h (order_added permutation x t (named_entries xs) ys zs r s o (λ c. n (member_of_filter is_named x xs c).0) e a u)

pub order_without : (permutation : Permutation) (x t : List ℕ) (xs ys zs : List (List ℕ)) (r : Bool) → is_named x ≡ true → t ≡ turned permutation x → IsOrderOf permutation (named_entries xs) ys → IsAscending xs → Contains xs x → IsTrue r ↔ Contains ys t → OnTrue r (zs ≡ without_entry t ys) → IsAscending zs → IsOrderOf permutation (named_entries (without_entry x xs)) zs
order_without permutation x t xs ys zs r h s o u m e a v =
    named_without permutation x xs zs h u m (order_removed permutation x t (named_entries xs) ys zs r s (IsAscending-filter is_named xs u) (filter_has is_named x xs m h) o e a v)

-- the entries of named graphs after those of the default graph
behind : (k : ℕ) (all : List (List ℕ)) → All (λ e. is_named e ≡ false) (take k all) → (x : List ℕ) → Contains all x → is_named x ≡ true → Contains (drop k all) x
behind k all d x c h =
    ⊎_elim (λ a. absurd (false≢true (sym (All-contains (λ e. is_named e ≡ false) (take k all) x d a) ∙ h))) (λ b. b)
    (Contains-append_cases (take k all) (drop k all) x (subst (λ r. Contains r x) (sym (take-append-drop k all)) c))

of_all : (k : ℕ) (all : List (List ℕ)) (x : List ℕ) → Contains (drop k all) x → Contains all x
of_all k all x c = subst (λ r. Contains r x) (take-append-drop k all) (Contains-append_right (take k all) (drop k all) x c)

pub named_union : (xs added all ys : List (List ℕ)) (k : ℕ) → IsPermutation added all → All (λ e. is_named e ≡ false) (take k all) → All (λ e. is_named e ≡ true) (drop k all) → IsUnion xs added ys → IsUnion (named_entries xs) (drop k all) (named_entries ys)
named_union xs added all ys k p d n u = record {
  ascending = IsAscending-filter is_named ys u.ascending;
  has_old = λ x c. let m = member_of_filter is_named x xs c in filter_has is_named x ys (u.has_old x m.0) m.1;
  has_added = λ x c. filter_has is_named x ys (u.has_added x (Contains-permutation all added x (IsPermutation-sym added all p) (of_all k all x c))) (All-contains (λ e. is_named e ≡ true) (drop k all) x n c);
  only = λ x c. let m = member_of_filter is_named x ys c in ⊎_elim (λ l. inl (filter_has is_named x xs l m.1)) (λ r. inr (behind k all d x (Contains-permutation added all x p r) m.1)) (u.only x m.0);
}

pub named_difference : (xs removed all ys : List (List ℕ)) (k : ℕ) → IsPermutation removed all → All (λ e. is_named e ≡ false) (take k all) → IsDifference xs removed ys → IsDifference (named_entries xs) (drop k all) (named_entries ys)
named_difference xs removed all ys k p d u = record {
  ascending = IsAscending-filter is_named ys u.ascending;
  kept = λ x c. let m = member_of_filter is_named x xs c in ⊎_elim (λ l. inl (filter_has is_named x ys l m.1)) (λ r. inr (behind k all d x (Contains-permutation removed all x p r) m.1)) (u.kept x m.0);
  gone = λ x c r. let m = member_of_filter is_named x ys c in u.gone x m.0 (Contains-permutation all removed x (IsPermutation-sym removed all p) (of_all k all x r));
  only = λ x c. let m = member_of_filter is_named x ys c in filter_has is_named x xs (u.only x m.0) m.1;
}

pub AreNamedOf-nil : (orders : NamedOrders) → orders.by_subject ≡ [] → orders.by_predicate ≡ [] → orders.by_object ≡ [] → AreNamedOf [] orders
AreNamedOf-nil orders s p o = record {
  subject = subst (IsOrderOf Spog []) (sym s) (IsOrderOf-nil Spog);
  predicate = subst (IsOrderOf Posg []) (sym p) (IsOrderOf-nil Posg);
  object = subst (IsOrderOf Ospg []) (sym o) (IsOrderOf-nil Ospg);
}

-- an entry of the default graph
pub AreNamedOf-with_none : (orders : NamedOrders) (x : List ℕ) (xs : List (List ℕ)) → is_named x ≡ false → AreNamedOf xs orders → AreNamedOf (with_entry x xs) orders
AreNamedOf-with_none orders x xs h a = record {
  subject = named_with_none Spog x xs orders.by_subject h a.subject;
  predicate = named_with_none Posg x xs orders.by_predicate h a.predicate;
  object = named_with_none Ospg x xs orders.by_object h a.object;
}

pub AreNamedOf-without_none : (orders : NamedOrders) (x : List ℕ) (xs : List (List ℕ)) → is_named x ≡ false → IsAscending xs → Contains xs x → AreNamedOf xs orders → AreNamedOf (without_entry x xs) orders
AreNamedOf-without_none orders x xs h u s a = record {
  subject = named_without_none Spog x xs orders.by_subject h u s a.subject;
  predicate = named_without_none Posg x xs orders.by_predicate h u s a.predicate;
  object = named_without_none Ospg x xs orders.by_object h u s a.object;
}

-- the order that a scan uses has all entries, or those of named graphs
pub held_by_used : (subject predicate object : Option ℕ) (xs : List (List ℕ)) → held_by (order_used subject predicate object) xs ≡ xs
held_by_used None None None xs = refl
held_by_used (Some s) None None xs = refl
held_by_used (Some s) (Some p) None xs = refl
held_by_used (Some s) (Some p) (Some o) xs = refl
held_by_used None (Some p) None xs = refl
held_by_used None (Some p) (Some o) xs = refl
held_by_used None None (Some o) xs = refl
held_by_used (Some s) None (Some o) xs = refl

pub held_by_named : (subject predicate object : Option ℕ) (xs : List (List ℕ)) → held_by (named_order_used subject predicate object) xs ≡ named_entries xs
held_by_named None None None xs = refl
held_by_named (Some s) None None xs = refl
held_by_named (Some s) (Some p) None xs = refl
held_by_named (Some s) (Some p) (Some o) xs = refl
held_by_named None (Some p) None xs = refl
held_by_named None (Some p) (Some o) xs = refl
held_by_named None None (Some o) xs = refl
held_by_named (Some s) None (Some o) xs = refl

pub order_of_used : (subject predicate object : Option ℕ) (used : Permutation) (xs ys : List (List ℕ)) → used ≡ order_used subject predicate object → IsOrderOf used (held_by used xs) ys → IsOrderOf (order_used subject predicate object) xs ys
order_of_used subject predicate object used xs ys e o =
    subst (λ r. IsOrderOf (order_used subject predicate object) r ys) (held_by_used subject predicate object xs) (subst (λ k. IsOrderOf k (held_by k xs) ys) e o)

pub order_of_named : (subject predicate object : Option ℕ) (used : Permutation) (xs ys : List (List ℕ)) → used ≡ named_order_used subject predicate object → IsOrderOf used (held_by used xs) ys → IsOrderOf (named_order_used subject predicate object) (named_entries xs) ys
order_of_named subject predicate object used xs ys e o =
    subst (λ r. IsOrderOf (named_order_used subject predicate object) r ys) (held_by_named subject predicate object xs) (subst (λ k. IsOrderOf k (held_by k xs) ys) e o)

pub scan_agrees_named : (subject predicate object : Option ℕ) (xs ys : List (List ℕ)) → ((x : List ℕ) → Contains xs x → IsEntry x) → IsAscending xs → IsOrderOf (named_order_used subject predicate object) (named_entries xs) ys → IsPermutation (agreeing_named subject predicate object xs) (map (restored (named_order_used subject predicate object)) (beginning (named_prefix_of subject predicate object) ys))
scan_agrees_named subject predicate object xs ys four u o =
    found_agree (named_order_used subject predicate object) (named_prefix_of subject predicate object) _ (named_entries xs) ys
    (λ x c. begins-named subject predicate object x (four x (member_of_filter is_named x xs c).0).four) (IsAscending-filter is_named xs u) o

-- how many entries are of named graphs
pub filter_none : (k : List (List ℕ)) → All (λ e. is_named e ≡ false) k → named_entries k ≡ []
filter_none [] d = refl
filter_none (x ∷ xs) d =
    ap (λ b. cond b (x ∷ named_entries xs) (named_entries xs)) (All-head (λ e. is_named e ≡ false) x xs d) ∙ filter_none xs (All-tail (λ e. is_named e ≡ false) x xs d)

pub filter_all : (k : List (List ℕ)) → All (λ e. is_named e ≡ true) k → named_entries k ≡ k
filter_all [] d = refl
filter_all (x ∷ xs) d =
    ap (λ b. cond b (x ∷ named_entries xs) (named_entries xs)) (All-head (λ e. is_named e ≡ true) x xs d) ∙ ap (λ r. x ∷ r) (filter_all xs (All-tail (λ e. is_named e ≡ true) x xs d))

pub named_count-permutation : (xs ys : List (List ℕ)) → IsPermutation xs ys → length (named_entries ys) ≡ length (named_entries xs)
named_count-permutation xs ys p =
    length-filter is_named ys ∙ sum_by-IsPermutation (λ y. cond (is_named y) 1 0) xs ys p ∙ sym (length-filter is_named xs)

pub named_count-parted : (xs all : List (List ℕ)) (k : ℕ) → IsPermutation xs all → All (λ e. is_named e ≡ false) (take k all) → All (λ e. is_named e ≡ true) (drop k all) → length (drop k all) ≡ length (named_entries xs)
named_count-parted xs all k p d n =
    let parts : named_entries all ≡ drop k all =
    ap named_entries (sym (take-append-drop k all)) ∙ filter-append is_named (take k all) (drop k all)
    ∙ ap (λ r. r ++ named_entries (drop k all)) (filter_none (take k all) d) ∙ filter_all (drop k all) n in
    sym (ap length parts) ∙ named_count-permutation xs all p

-- The entries of one graph, put into the orders of another set.
use Rattle.std.proofs.Common.{◌≡◌, ℕ, ◌<◌, Bool, true, false, cond, eqb, List, [], ◌∷◌, length, map, None, refl, ap, sym, ◌∙◌, subst, arith, ⊎_elim}
use Rattle.std.specs.List.{Contains}
use Rattle.std.proofs.lemmas.Bool.{false≢true, eqb-true}
use Rattle.std.proofs.lemmas.Bool.Decides.{nat_tests}
use Rattle.qs_index.specs.inner.Agreeing.{agreeing}
use Rattle.qs_index.specs.inner.Entries.{HaveFour, IsUnion}
use Rattle.qs_index.specs.inner.Entry.{beginning, begins}
use Rattle.qs_index.specs.inner.Graph.{is_named, named_entries}
use Rattle.qs_index.specs.inner.Index.{IsOneSet}
use Rattle.qs_index.specs.inner.Named.{NamedOrders, AreNamedOf}
use Rattle.qs_index.specs.inner.OrderOf.{IsOrderOf}
use Rattle.qs_index.specs.inner.Permutation.{turned, restored}
use Rattle.qs_index.specs.declared.permutation.Permutation.{Permutation}
use Rattle.qs_index.specs.declared.permutation.Permutation.TheVariants.{Gspo, Gpos, Gosp, Spog, Posg, Ospg}
use Rattle.qs_index.proofs.Distinct.{IsAscending-filter, filter_has, map_has, member_of_filter, member_of_map}
use Rattle.qs_index.proofs.Members.{here, there}
use Rattle.qs_index.proofs.NamedOrders.{IsOrderOf-members}
use Rattle.qs_index.proofs.Turned.{begins-turned, order_length, turned-restored, turned_same}

-- ---- an order by graphs

by_predicate : (g : ℕ) (x : List ℕ) → begins (g ∷ []) (turned Gpos x) ≡ begins (g ∷ []) x
by_predicate g [] = refl
by_predicate g (a ∷ []) = refl
by_predicate g (a ∷ b ∷ []) = refl
by_predicate g (a ∷ b ∷ c ∷ []) = refl
by_predicate g (a ∷ b ∷ c ∷ d ∷ rest) = refl

by_object : (g : ℕ) (x : List ℕ) → begins (g ∷ []) (turned Gosp x) ≡ begins (g ∷ []) x
by_object g [] = refl
by_object g (a ∷ []) = refl
by_object g (a ∷ b ∷ []) = refl
by_object g (a ∷ b ∷ c ∷ []) = refl
by_object g (a ∷ b ∷ c ∷ d ∷ rest) = refl

part_of_order : (p : Permutation) (g : ℕ) (xs ys : List (List ℕ)) → ((x : List ℕ) → begins (g ∷ []) (turned p x) ≡ begins (g ∷ []) x) → IsOrderOf p xs ys → IsOrderOf p (beginning (g ∷ []) xs) (beginning (g ∷ []) ys)
part_of_order p g xs ys first o = record {
  ascending = IsAscending-filter (begins (g ∷ [])) ys o.ascending;
  has = λ x c. let m = member_of_filter (begins (g ∷ [])) x xs c in filter_has (begins (g ∷ [])) (turned p x) ys (o.has x m.0) (first x ∙ m.1);
  only = λ x c. let m = member_of_filter (begins (g ∷ [])) (turned p x) ys c in filter_has (begins (g ∷ [])) x xs (o.only x m.0) (sym (first x) ∙ m.1);
}

-- the entries of a graph, in each order by graphs
pub record ArePartsOf (g : ℕ) (gspo gpos gosp : List (List ℕ)) : Type 0 where
  pub by_predicate : IsOrderOf Gpos (beginning (g ∷ []) gspo) (beginning (g ∷ []) gpos)
  pub by_object : IsOrderOf Gosp (beginning (g ∷ []) gspo) (beginning (g ∷ []) gosp)
  pub is : agreeing g None None None gspo ≡ beginning (g ∷ []) gspo
  pub predicates : length (beginning (g ∷ []) gpos) ≡ length (beginning (g ∷ []) gspo)
  pub objects : length (beginning (g ∷ []) gosp) ≡ length (beginning (g ∷ []) gspo)

same_part : (g : ℕ) (xs : List (List ℕ)) → HaveFour xs → agreeing g None None None xs ≡ beginning (g ∷ []) xs
same_part g [] four = refl
same_part g (x ∷ xs) four =
    ap (λ b. cond b (x ∷ agreeing g None None None xs) (agreeing g None None None xs)) (sym (begins-turned g None None None x (four x (here x xs))))
    ∙ ap (λ r. cond (begins (g ∷ []) x) (x ∷ r) r) (same_part g xs (λ y c. four y (there x y xs c)))

pub parts_of : (g : ℕ) (gspo gpos gosp : List (List ℕ)) (named : NamedOrders) → IsOneSet gspo gpos gosp named → ArePartsOf g gspo gpos gosp
parts_of g gspo gpos gosp named s =
    let p = part_of_order Gpos g gspo gpos (by_predicate g) s.by_predicate in
    let o = part_of_order Gosp g gspo gosp (by_object g) s.by_object in
    let a = IsAscending-filter (begins (g ∷ [])) gspo s.by_subject.ascending in
    record {
      by_predicate = p;
      by_object = o;
      is = same_part g gspo (λ x c. (s.entries x c).four);
      predicates = order_length Gpos (beginning (g ∷ []) gspo) (beginning (g ∷ []) gpos) a p;
      objects = order_length Gosp (beginning (g ∷ []) gspo) (beginning (g ∷ []) gosp) a o;
    }

-- ---- an order of the named graphs

-- the graph of an entry goes to the last place
abbrev IsMoved : Permutation → Permutation → Type 0
IsMoved p q = (x : List ℕ) → length x ≡ 4 → turned Spog (turned p x) ≡ turned q x

moved_predicate : IsMoved Gpos Posg
moved_predicate [] h = refl
moved_predicate (a ∷ []) h = refl
moved_predicate (a ∷ b ∷ []) h = refl
moved_predicate (a ∷ b ∷ c ∷ []) h = refl
moved_predicate (a ∷ b ∷ c ∷ d ∷ rest) h = refl

moved_object : IsMoved Gosp Ospg
moved_object [] h = refl
moved_object (a ∷ []) h = refl
moved_object (a ∷ b ∷ []) h = refl
moved_object (a ∷ b ∷ c ∷ []) h = refl
moved_object (a ∷ b ∷ c ∷ d ∷ rest) h = refl

named_of_graph : (g : ℕ) (x : List ℕ) → 0 < g → begins (g ∷ []) x ≡ true → is_named x ≡ true
named_of_graph g [] l b = absurd (false≢true b)
named_of_graph g (a ∷ x) l b = by_test (eqb a g) refl b
  where
    by_test : (t : Bool) → eqb a g ≡ t → cond t true false ≡ true → is_named (a ∷ x) ≡ true
    by_test true e h = let s : a ≡ g = eqb-true a g e in grind (arith, nat_tests)
    by_test false e h = absurd (false≢true h)

default_of_graph : (x : List ℕ) → begins (0 ∷ []) x ≡ true → is_named x ≡ true → ⊥
default_of_graph [] b n = false≢true b
default_of_graph (a ∷ x) b n = by_test (eqb a 0) refl b n
  where
    by_test : (t : Bool) → eqb a 0 ≡ t → cond t true false ≡ true → is_named (a ∷ x) ≡ true → ⊥
    by_test true e h m = let s : a ≡ 0 = eqb-true a 0 e in grind (arith, nat_tests)
    by_test false e h m = false≢true h

order_with_graph : (p q : Permutation) (g : ℕ) (xs ds new ys zs new_ys : List (List ℕ)) → IsMoved p q → 0 < g → HaveFour ds → IsUnion xs (beginning (g ∷ []) ds) new → IsOrderOf p (beginning (g ∷ []) ds) (beginning (g ∷ []) zs) → IsUnion ys (map (turned Spog) (beginning (g ∷ []) zs)) new_ys → IsOrderOf q (named_entries xs) ys → IsOrderOf q (named_entries new) new_ys
order_with_graph p q g xs ds new ys zs new_ys moved l four u d v o =
    record {
      ascending = v.ascending;
      has = has;
      only = λ x c. ⊎_elim (λ i. old x (o.only x i)) (λ r. added x (member_of_map (turned Spog) (turned q x) part r)) (v.only (turned q x) c);
    }
  where
    part : List (List ℕ)
    part = beginning (g ∷ []) zs

    four_in : (x : List ℕ) → Contains (beginning (g ∷ []) ds) x → length x ≡ 4
    four_in x c = four x (member_of_filter (begins (g ∷ [])) x ds c).0

    has : (x : List ℕ) → Contains (named_entries new) x → Contains new_ys (turned q x)
    has x c =
        let m = member_of_filter is_named x new c in
        ⊎_elim (λ i. v.has_old (turned q x) (o.has x (filter_has is_named x xs i m.1)))
        (λ r. v.has_added (turned q x) (subst (Contains (map (turned Spog) part)) (moved x (four_in x r)) (map_has (turned Spog) (turned p x) part (d.has x r))))
        (u.only x m.0)

    old : (x : List ℕ) → Contains (named_entries xs) x → Contains (named_entries new) x
    old x c = let m = member_of_filter is_named x xs c in filter_has is_named x new (u.has_old x m.0) m.1

    stands : (x : List ℕ) → Contains (beginning (g ∷ []) ds) x → Contains (named_entries new) x
    stands x c = filter_has is_named x new (u.has_added x c) (named_of_graph g x l (member_of_filter (begins (g ∷ [])) x ds c).1)

    added : (x : List ℕ) → (y : List ℕ) × Contains part y × (turned Spog y ≡ turned q x) → Contains (named_entries new) x
    added x m =
        let z = restored p m.0 in
        let c : Contains (beginning (g ∷ []) ds) z = d.only z (subst (Contains part) (sym (turned-restored p m.0)) m.1) in
        let e : turned q z ≡ turned q x = sym (moved z (four_in z c)) ∙ ap (turned Spog) (turned-restored p m.0) ∙ m.2 in
        subst (Contains (named_entries new)) (turned_same q z x e) (stands z c)

pub AreNamedOf-with_graph : (old new : NamedOrders) (g : ℕ) (xs ds ys gpos gosp : List (List ℕ)) → 0 < g → HaveFour ds → IsOrderOf Gspo ds ds → IsOrderOf Gpos ds gpos → IsOrderOf Gosp ds gosp → IsUnion old.by_subject (map (turned Spog) (beginning (g ∷ []) ds)) new.by_subject → IsUnion old.by_predicate (map (turned Spog) (beginning (g ∷ []) gpos)) new.by_predicate → IsUnion old.by_object (map (turned Spog) (beginning (g ∷ []) gosp)) new.by_object → IsUnion xs (beginning (g ∷ []) ds) ys → AreNamedOf xs old → AreNamedOf ys new
AreNamedOf-with_graph old new g xs ds ys gpos gosp l four s p o us up uo u a =
    let itself = part_of_order Gspo g ds ds (λ x. refl) s in
    let first = part_of_order Gpos g ds gpos (by_predicate g) p in
    let second = part_of_order Gosp g ds gosp (by_object g) o in
    record {
      subject = order_with_graph Gspo Spog g xs ds ys old.by_subject ds new.by_subject (λ x h. refl) l four u itself us a.subject;
      predicate = order_with_graph Gpos Posg g xs ds ys old.by_predicate gpos new.by_predicate moved_predicate l four u first up a.predicate;
      object = order_with_graph Gosp Ospg g xs ds ys old.by_object gosp new.by_object moved_object l four u second uo a.object;
    }

-- the default graph has no place in the orders of named graphs
pub AreNamedOf-with_default : (orders : NamedOrders) (xs ds ys : List (List ℕ)) → IsUnion xs (beginning (0 ∷ []) ds) ys → AreNamedOf xs orders → AreNamedOf ys orders
AreNamedOf-with_default orders xs ds ys u a =
    record {
      subject = IsOrderOf-members Spog (named_entries xs) (named_entries ys) orders.by_subject back there_too a.subject;
      predicate = IsOrderOf-members Posg (named_entries xs) (named_entries ys) orders.by_predicate back there_too a.predicate;
      object = IsOrderOf-members Ospg (named_entries xs) (named_entries ys) orders.by_object back there_too a.object;
    }
  where
    back : (x : List ℕ) → Contains (named_entries ys) x → Contains (named_entries xs) x
    back x c =
        let m = member_of_filter is_named x ys c in
        ⊎_elim (λ i. filter_has is_named x xs i m.1) (λ r. absurd (default_of_graph x (member_of_filter (begins (0 ∷ [])) x ds r).1 m.1)) (u.only x m.0)

    there_too : (x : List ℕ) → Contains (named_entries xs) x → Contains (named_entries ys) x
    there_too x c = let m = member_of_filter is_named x xs c in filter_has is_named x ys (u.has_old x m.0) m.1

-- The orders of one set: entries turned and restored, and what a scan of an order hands out.
use Rattle.std.proofs.Common.{◌≡◌, ℕ, Bool, true, false, cond, ◌==◌, ◌&&◌, List, [], ◌∷◌, map, length, Option, Some, None, refl, ap, sym, ◌∙◌, subst, arith, ⊎_elim, IsTrue, ◌↔◌}
use Rattle.std.specs.List.{Contains, filter}
use Rattle.std.specs.Bool.{OnTrue}
use Rattle.std.specs.List.Sorted.{IsPermutation}
use Rattle.std.proofs.lemmas.Bool.{false≢true}
use Rattle.std.proofs.lemmas.List.{length-map}
use Rattle.std.proofs.lemmas.List.Sorted.{length_permutation}
use Rattle.qs_index.specs.inner.Agreeing.{agrees, agreeing, agrees_anywhere}
use Rattle.qs_index.specs.inner.Entry.{begins, beginning, IsAscending, with_entry, without_entry}
use Rattle.qs_index.specs.inner.Entries.{HaveFour, IsOrdered}
use Rattle.qs_index.specs.inner.OrderOf.{IsOrderOf}
use Rattle.qs_index.specs.inner.Entry.{IsEntry}
use Rattle.qs_index.specs.inner.Permutation.{turned, restored, order_used, prefix_of, named_order_used, named_prefix_of}
use Rattle.qs_index.specs.declared.permutation.Permutation.{Permutation}
use Rattle.qs_index.specs.declared.permutation.Permutation.TheVariants.{Gspo, Gpos, Gosp, Spog, Posg, Ospg}
use Rattle.qs_index.proofs.Distinct.{IsDistinct-ascending, IsDistinct-filter, IsDistinct-map, IsAscending-filter, IsPermutation-distinct, member_of_filter, filter_has, member_of_map, map_has, map-map, nothing_in_nil}
use Rattle.qs_index.proofs.Members.{head_or_tail, with_has_it, with_has_old, member_of_with, member_of_without, without_has_other, without_lacks_it, skip_of_member}

pub restored-turned : (permutation : Permutation) (x : List ℕ) → restored permutation (turned permutation x) ≡ x
restored-turned Gspo x = refl
restored-turned Gpos [] = refl
restored-turned Gpos (a ∷ []) = refl
restored-turned Gpos (a ∷ b ∷ []) = refl
restored-turned Gpos (a ∷ b ∷ c ∷ []) = refl
restored-turned Gpos (a ∷ b ∷ c ∷ d ∷ rest) = refl
restored-turned Gosp [] = refl
restored-turned Gosp (a ∷ []) = refl
restored-turned Gosp (a ∷ b ∷ []) = refl
restored-turned Gosp (a ∷ b ∷ c ∷ []) = refl
restored-turned Gosp (a ∷ b ∷ c ∷ d ∷ rest) = refl
restored-turned Spog [] = refl
restored-turned Spog (a ∷ []) = refl
restored-turned Spog (a ∷ b ∷ []) = refl
restored-turned Spog (a ∷ b ∷ c ∷ []) = refl
restored-turned Spog (a ∷ b ∷ c ∷ d ∷ rest) = refl
restored-turned Posg [] = refl
restored-turned Posg (a ∷ []) = refl
restored-turned Posg (a ∷ b ∷ []) = refl
restored-turned Posg (a ∷ b ∷ c ∷ []) = refl
restored-turned Posg (a ∷ b ∷ c ∷ d ∷ rest) = refl
restored-turned Ospg [] = refl
restored-turned Ospg (a ∷ []) = refl
restored-turned Ospg (a ∷ b ∷ []) = refl
restored-turned Ospg (a ∷ b ∷ c ∷ []) = refl
restored-turned Ospg (a ∷ b ∷ c ∷ d ∷ rest) = refl

pub turned-restored : (permutation : Permutation) (x : List ℕ) → turned permutation (restored permutation x) ≡ x
turned-restored Gspo x = refl
turned-restored Gpos [] = refl
turned-restored Gpos (a ∷ []) = refl
turned-restored Gpos (a ∷ b ∷ []) = refl
turned-restored Gpos (a ∷ b ∷ c ∷ []) = refl
turned-restored Gpos (a ∷ b ∷ c ∷ d ∷ rest) = refl
turned-restored Gosp [] = refl
turned-restored Gosp (a ∷ []) = refl
turned-restored Gosp (a ∷ b ∷ []) = refl
turned-restored Gosp (a ∷ b ∷ c ∷ []) = refl
turned-restored Gosp (a ∷ b ∷ c ∷ d ∷ rest) = refl
turned-restored Spog [] = refl
turned-restored Spog (a ∷ []) = refl
turned-restored Spog (a ∷ b ∷ []) = refl
turned-restored Spog (a ∷ b ∷ c ∷ []) = refl
turned-restored Spog (a ∷ b ∷ c ∷ d ∷ rest) = refl
turned-restored Posg [] = refl
turned-restored Posg (a ∷ []) = refl
turned-restored Posg (a ∷ b ∷ []) = refl
turned-restored Posg (a ∷ b ∷ c ∷ []) = refl
turned-restored Posg (a ∷ b ∷ c ∷ d ∷ rest) = refl
turned-restored Ospg [] = refl
turned-restored Ospg (a ∷ []) = refl
turned-restored Ospg (a ∷ b ∷ []) = refl
turned-restored Ospg (a ∷ b ∷ c ∷ []) = refl
turned-restored Ospg (a ∷ b ∷ c ∷ d ∷ rest) = refl

pub turned_same : (permutation : Permutation) (x y : List ℕ) → turned permutation x ≡ turned permutation y → x ≡ y
turned_same permutation x y e = sym (restored-turned permutation x) ∙ ap (restored permutation) e ∙ restored-turned permutation y

pub IsOrderOf-nil : (permutation : Permutation) → IsOrderOf permutation [] []
IsOrderOf-nil permutation = record {
  ascending = tt;
  has = λ x c. absurd (nothing_in_nil x c);
  only = λ x c. absurd (nothing_in_nil (turned permutation x) c);
}

-- the ascending list is an order of itself
pub IsOrderOf-itself : (xs : List (List ℕ)) → IsAscending xs → IsOrderOf Gspo xs xs
IsOrderOf-itself xs u = record { ascending = u; has = λ x c. c; only = λ x c. c }

-- an entry put in both
pub IsOrderOf-with : (permutation : Permutation) (x : List ℕ) (xs ys : List (List ℕ)) → IsOrderOf permutation xs ys → IsAscending (with_entry (turned permutation x) ys) → IsOrderOf permutation (with_entry x xs) (with_entry (turned permutation x) ys)
IsOrderOf-with permutation x xs ys o u = record {
  ascending = u;
  has = λ y c. ⊎_elim (λ e. subst (λ r. Contains (with_entry (turned permutation x) ys) (turned permutation r)) e (with_has_it (turned permutation x) ys)) (λ t. with_has_old (turned permutation x) (turned permutation y) ys (o.has y t)) (member_of_with x y xs c);
  only = λ y c. ⊎_elim (λ e. subst (Contains (with_entry x xs)) (turned_same permutation x y e) (with_has_it x xs)) (λ t. with_has_old x y xs (o.only y t)) (member_of_with (turned permutation x) (turned permutation y) ys c);
}

-- an entry taken out of both
pub IsOrderOf-without : (permutation : Permutation) (x : List ℕ) (xs ys : List (List ℕ)) → IsAscending xs → Contains xs x → IsOrderOf permutation xs ys → IsAscending (without_entry (turned permutation x) ys) → IsOrderOf permutation (without_entry x xs) (without_entry (turned permutation x) ys)
IsOrderOf-without permutation x xs ys w m o u =
    let t = turned permutation x in
    let n = o.has x m in
    record {
      ascending = u;
      has = λ y c. without_has_other t (turned permutation y) ys (skip_of_member t ys o.ascending n) (λ e. without_lacks_it x xs w m (subst (Contains (without_entry x xs)) (sym (turned_same permutation x y e)) c)) (o.has y (member_of_without x y xs c));
      only = λ y c. without_has_other x y xs (skip_of_member x xs w m) (λ e. without_lacks_it t ys o.ascending n (subst (λ r. Contains (without_entry t ys) (turned permutation r)) (sym e) c)) (o.only y (member_of_without t (turned permutation y) ys c));
    }

-- an order after an insert that was made because the list lacks the entry
pub order_added : (permutation : Permutation) (x t : List ℕ) (xs ys zs : List (List ℕ)) (r : Bool) → t ≡ turned permutation x → IsOrderOf permutation xs ys → (Contains xs x → ⊥) → IsTrue r ↔ (Contains ys t → ⊥) → OnTrue r (zs ≡ with_entry t ys) → IsAscending zs → IsOrderOf permutation (with_entry x xs) zs
order_added permutation x t xs ys zs true s o n h e u =
    let made : zs ≡ with_entry (turned permutation x) ys = e ∙ ap (λ k. with_entry k ys) s in
    subst (IsOrderOf permutation (with_entry x xs)) (sym made) (IsOrderOf-with permutation x xs ys o (subst IsAscending made u))
order_added permutation x t xs ys zs false s o n h e u = absurd (false≢true (h.1 (λ c. n (o.only x (subst (Contains ys) s c)))))

-- an order after a removal that was made because the list has the entry
pub order_removed : (permutation : Permutation) (x t : List ℕ) (xs ys zs : List (List ℕ)) (r : Bool) → t ≡ turned permutation x → IsAscending xs → Contains xs x → IsOrderOf permutation xs ys → IsTrue r ↔ Contains ys t → OnTrue r (zs ≡ without_entry t ys) → IsAscending zs → IsOrderOf permutation (without_entry x xs) zs
order_removed permutation x t xs ys zs true s w m o h e u =
    let made : zs ≡ without_entry (turned permutation x) ys = e ∙ ap (λ k. without_entry k ys) s in
    subst (IsOrderOf permutation (without_entry x xs)) (sym made) (IsOrderOf-without permutation x xs ys w m o (subst IsAscending made u))
order_removed permutation x t xs ys zs false s w m o h e u = absurd (false≢true (h.1 (subst (Contains ys) (sym s) (o.has x m))))

pub entries_with : (x : List ℕ) (xs : List (List ℕ)) → IsEntry x → ((y : List ℕ) → Contains xs y → IsEntry y) → (y : List ℕ) → Contains (with_entry x xs) y → IsEntry y
entries_with x xs e all y c = ⊎_elim (λ s. subst IsEntry s e) (λ t. all y t) (member_of_with x y xs c)

pub four_with : (x : List ℕ) (xs : List (List ℕ)) → length x ≡ 4 → HaveFour xs → HaveFour (with_entry x xs)
four_with x xs e all y c = ⊎_elim (λ s. subst (λ r. length r ≡ 4) s e) (λ t. all y t) (member_of_with x y xs c)

-- an order of one entry
pub only_entry : (x : List ℕ) → length x ≡ 4 → IsOrdered (x ∷ []) 1
only_entry x e = record {
  ascending = (tt, tt);
  four = λ y c. ⊎_elim (λ s. subst (λ r. length r ≡ 4) s e) (λ n. absurd (nothing_in_nil y n)) (head_or_tail x [] y c);
  counted = omega arith;
}

-- the tests of a front of an entry and of its places
tests_1 : (a : Bool) → cond a true false ≡ (((a && true) && true) && true)
tests_1 true = refl
tests_1 false = refl

tests_s : (a b : Bool) → cond a (cond b true false) false ≡ (((a && b) && true) && true)
tests_s true true = refl
tests_s true false = refl
tests_s false b = refl

tests_p : (a b : Bool) → cond a (cond b true false) false ≡ (((a && true) && b) && true)
tests_p true true = refl
tests_p true false = refl
tests_p false b = refl

tests_o : (a b : Bool) → cond a (cond b true false) false ≡ (((a && true) && true) && b)
tests_o true true = refl
tests_o true false = refl
tests_o false b = refl

tests_sp : (a b c : Bool) → cond a (cond b (cond c true false) false) false ≡ (((a && b) && c) && true)
tests_sp true true true = refl
tests_sp true true false = refl
tests_sp true false c = refl
tests_sp false b c = refl

tests_po : (a b c : Bool) → cond a (cond b (cond c true false) false) false ≡ (((a && true) && b) && c)
tests_po true true true = refl
tests_po true true false = refl
tests_po true false c = refl
tests_po false b c = refl

tests_os : (a b c : Bool) → cond a (cond b (cond c true false) false) false ≡ (((a && c) && true) && b)
tests_os true true true = refl
tests_os true true false = refl
tests_os true false true = refl
tests_os true false false = refl
tests_os false b c = refl

tests_spo : (a b c d : Bool) → cond a (cond b (cond c (cond d true false) false) false) false ≡ (((a && b) && c) && d)
tests_spo true true true true = refl
tests_spo true true true false = refl
tests_spo true true false d = refl
tests_spo true false c d = refl
tests_spo false b c d = refl

-- an entry has the places that are given exactly where, turned, it begins with them
pub begins-turned : (graph : ℕ) (subject predicate object : Option ℕ) (x : List ℕ) → length x ≡ 4 → begins (prefix_of graph subject predicate object) (turned (order_used subject predicate object) x) ≡ agrees graph subject predicate object x
begins-turned graph subject predicate object [] h = absurd (omega arith)
begins-turned graph subject predicate object (a ∷ []) h = absurd (omega arith)
begins-turned graph subject predicate object (a ∷ b ∷ []) h = absurd (omega arith)
begins-turned graph subject predicate object (a ∷ b ∷ c ∷ []) h = absurd (omega arith)
begins-turned graph subject predicate object (a ∷ b ∷ c ∷ d ∷ e ∷ rest) h = absurd (omega arith)
begins-turned g None None None (a ∷ b ∷ c ∷ d ∷ []) h = tests_1 (a == g)
begins-turned g (Some s) None None (a ∷ b ∷ c ∷ d ∷ []) h = tests_s (a == g) (b == s)
begins-turned g (Some s) (Some p) None (a ∷ b ∷ c ∷ d ∷ []) h = tests_sp (a == g) (b == s) (c == p)
begins-turned g (Some s) (Some p) (Some o) (a ∷ b ∷ c ∷ d ∷ []) h = tests_spo (a == g) (b == s) (c == p) (d == o)
begins-turned g None (Some p) None (a ∷ b ∷ c ∷ d ∷ []) h = tests_p (a == g) (c == p)
begins-turned g None (Some p) (Some o) (a ∷ b ∷ c ∷ d ∷ []) h = tests_po (a == g) (c == p) (d == o)
begins-turned g None None (Some o) (a ∷ b ∷ c ∷ d ∷ []) h = tests_o (a == g) (d == o)
begins-turned g (Some s) None (Some o) (a ∷ b ∷ c ∷ d ∷ []) h = tests_os (a == g) (d == o) (b == s)

-- the same without a graph, in the orders of the named graphs
any_s : (a : Bool) → cond a true false ≡ ((a && true) && true)
any_s true = refl
any_s false = refl

any_p : (a : Bool) → cond a true false ≡ ((true && a) && true)
any_p true = refl
any_p false = refl

any_o : (a : Bool) → cond a true false ≡ ((true && true) && a)
any_o true = refl
any_o false = refl

any_sp : (a b : Bool) → cond a (cond b true false) false ≡ ((a && b) && true)
any_sp true true = refl
any_sp true false = refl
any_sp false b = refl

any_po : (a b : Bool) → cond a (cond b true false) false ≡ ((true && a) && b)
any_po true true = refl
any_po true false = refl
any_po false b = refl

any_os : (a b : Bool) → cond b (cond a true false) false ≡ ((a && true) && b)
any_os true true = refl
any_os true false = refl
any_os false true = refl
any_os false false = refl

any_spo : (a b c : Bool) → cond a (cond b (cond c true false) false) false ≡ ((a && b) && c)
any_spo true true true = refl
any_spo true true false = refl
any_spo true false c = refl
any_spo false b c = refl

pub begins-named : (subject predicate object : Option ℕ) (x : List ℕ) → length x ≡ 4 → begins (named_prefix_of subject predicate object) (turned (named_order_used subject predicate object) x) ≡ agrees_anywhere subject predicate object x
begins-named subject predicate object [] h = absurd (omega arith)
begins-named subject predicate object (a ∷ []) h = absurd (omega arith)
begins-named subject predicate object (a ∷ b ∷ []) h = absurd (omega arith)
begins-named subject predicate object (a ∷ b ∷ c ∷ []) h = absurd (omega arith)
begins-named subject predicate object (a ∷ b ∷ c ∷ d ∷ e ∷ rest) h = absurd (omega arith)
begins-named None None None (a ∷ b ∷ c ∷ d ∷ []) h = refl
begins-named (Some s) None None (a ∷ b ∷ c ∷ d ∷ []) h = any_s (b == s)
begins-named (Some s) (Some p) None (a ∷ b ∷ c ∷ d ∷ []) h = any_sp (b == s) (c == p)
begins-named (Some s) (Some p) (Some o) (a ∷ b ∷ c ∷ d ∷ []) h = any_spo (b == s) (c == p) (d == o)
begins-named None (Some p) None (a ∷ b ∷ c ∷ d ∷ []) h = any_p (c == p)
begins-named None (Some p) (Some o) (a ∷ b ∷ c ∷ d ∷ []) h = any_po (c == p) (d == o)
begins-named None None (Some o) (a ∷ b ∷ c ∷ d ∷ []) h = any_o (d == o)
begins-named (Some s) None (Some o) (a ∷ b ∷ c ∷ d ∷ []) h = any_os (b == s) (d == o)

-- what a scan of an order hands out is what passes a test, where the test tells which entries, turned, begin with the prefix
pub found_agree : (used : Permutation) (prefix : List ℕ) (test : List ℕ → Bool) (xs ys : List (List ℕ)) → ((x : List ℕ) → Contains xs x → begins prefix (turned used x) ≡ test x) → IsAscending xs → IsOrderOf used xs ys → IsPermutation (filter test xs) (map (restored used) (beginning prefix ys))
found_agree used prefix test xs ys tells u o =
    let found = beginning prefix ys in
    let to : (x : List ℕ) → Contains (filter test xs) x → Contains (map (restored used) found) x = λ x c.
    let m = member_of_filter test x xs c in
    let f = filter_has (begins prefix) (turned used x) ys (o.has x m.0) (tells x m.0 ∙ m.1) in
    subst (Contains (map (restored used) found)) (restored-turned used x) (map_has (restored used) (turned used x) found f) in
    let from : (x : List ℕ) → Contains (map (restored used) found) x → Contains (filter test xs) x = λ x c.
    let m = member_of_map (restored used) x found c in
    let n = member_of_filter (begins prefix) m.0 ys m.1 in
    let same : m.0 ≡ turned used x = sym (turned-restored used m.0) ∙ ap (turned used) m.2 in
    let stands = o.only x (subst (Contains ys) same n.0) in
    filter_has test x xs stands (sym (tells x stands) ∙ ap (begins prefix) (sym same) ∙ n.1) in
    IsPermutation-distinct (filter test xs) (map (restored used) found)
    (IsDistinct-filter test xs (IsDistinct-ascending xs u))
    (IsDistinct-map (restored used) (turned used) (turned-restored used) found (IsDistinct-filter (begins prefix) ys (IsDistinct-ascending ys o.ascending)))
    to from

-- a scan of the order used hands out what agrees
pub scan_agrees : (graph : ℕ) (subject predicate object : Option ℕ) (xs ys : List (List ℕ)) → ((x : List ℕ) → Contains xs x → IsEntry x) → IsAscending xs → IsOrderOf (order_used subject predicate object) xs ys → IsPermutation (agreeing graph subject predicate object xs) (map (restored (order_used subject predicate object)) (beginning (prefix_of graph subject predicate object) ys))
scan_agrees graph subject predicate object xs ys four u o =
    found_agree (order_used subject predicate object) (prefix_of graph subject predicate object) (agrees graph subject predicate object) xs ys
    (λ x c. begins-turned graph subject predicate object x (four x c).four) u o

-- it ascends in that order
pub scan_ascends : (permutation : Permutation) (prefix : List ℕ) (ys : List (List ℕ)) → IsAscending ys → IsAscending (map (turned permutation) (map (restored permutation) (beginning prefix ys)))
scan_ascends permutation prefix ys u =
    subst IsAscending (sym (map-map (restored permutation) (turned permutation) (turned-restored permutation) (beginning prefix ys))) (IsAscending-filter (begins prefix) ys u)

-- an order has as many entries
pub order_length : (permutation : Permutation) (xs ys : List (List ℕ)) → IsAscending xs → IsOrderOf permutation xs ys → length ys ≡ length xs
order_length permutation xs ys u o =
    let to : (x : List ℕ) → Contains (map (turned permutation) xs) x → Contains ys x = λ x c. let m = member_of_map (turned permutation) x xs c in subst (Contains ys) m.2 (o.has m.0 m.1) in
    let from : (x : List ℕ) → Contains ys x → Contains (map (turned permutation) xs) x = λ x c. subst (Contains (map (turned permutation) xs)) (turned-restored permutation x) (map_has (turned permutation) (restored permutation x) xs (o.only (restored permutation x) (subst (Contains ys) (sym (turned-restored permutation x)) c))) in
    length_permutation (map (turned permutation) xs) ys (IsPermutation-distinct (map (turned permutation) xs) ys (IsDistinct-map (turned permutation) (restored permutation) (restored-turned permutation) xs (IsDistinct-ascending xs u)) (IsDistinct-ascending ys o.ascending) to from)
    ∙ length-map xs (turned permutation)

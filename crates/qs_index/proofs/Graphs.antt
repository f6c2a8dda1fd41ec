-- The first entry of a later graph.
use Rattle.std.proofs.Common.{◌≡◌, ℕ, ◌+◌, ◌<◌, ◌≤◌, ◌^◌, Bool, true, false, cond, List, [], ◌∷◌, get_or, Option, None, refl, sym, subst, arith}
use Rattle.std.specs.List.{All, Contains}
use Rattle.std.specs.Option.{IfNone}
use Rattle.std.proofs.lemmas.Bool.{false≢true}
use Rattle.std.proofs.lemmas.Bool.Decides.{nat_tests}
use Rattle.std.proofs.lemmas.List.Elements.{All-nil, All-cons, All-from_get_or, Contains-get_or}
use Rattle.qs_index.specs.inner.Entry.{is_before, IsBeforeAll, IsAscending, skip_before}
use Rattle.qs_index.specs.inner.Graph.{graph_of, IsNextGraph}
use Rattle.qs_index.specs.inner.Entry.{IsEntry}
use Rattle.qs_index.proofs.Members.{here, there}

-- the graph of an entry that stands before, or doesn't stand before, all entries of a graph
graph_from : (x : List ℕ) (q : ℕ) → is_before x (q ∷ []) ≡ false → q ≤ graph_of x
graph_from [] q h = absurd (false≢true (sym h))
graph_from (a ∷ x) q h = grind (arith, nat_tests)

graph_below : (x : List ℕ) (q : ℕ) → 0 < q → is_before x (q ∷ []) ≡ true → graph_of x < q
graph_below [] q p h = omega arith
graph_below (a ∷ x) q p h = grind (arith, nat_tests)

graph_rises : (x y : List ℕ) → is_before x y ≡ true → graph_of x ≤ graph_of y
graph_rises x [] h = absurd (false≢true h)
graph_rises [] (b ∷ y) h = omega arith
graph_rises (a ∷ x) (b ∷ y) h = grind (arith, nat_tests)

abbrev IsLower : ℕ → List ℕ → Type 0
IsLower after entry = graph_of entry ≤ after

pub none_later : (after q : ℕ) (xs : List (List ℕ)) → q ≡ after + 1 → skip_before (q ∷ []) xs ≡ [] → All (λ entry. graph_of entry ≤ after) xs
none_later after q [] e h = All-nil (IsLower after)
none_later after q (x ∷ xs) e h = at_test (is_before x (q ∷ [])) refl (λ k. none_later after q xs e k) h
  where
    at_test : (b : Bool) → is_before x (q ∷ []) ≡ b → (skip_before (q ∷ []) xs ≡ [] → All (IsLower after) xs) → cond b (skip_before (q ∷ []) xs) (x ∷ xs) ≡ [] → All (IsLower after) (x ∷ xs)
    at_test true t i h = let g = graph_below x q (omega arith) t in All-cons (IsLower after) x xs (omega arith) (i h)
    at_test false t i h = absurd (cc)

-- the first that isn't before a prefix, and stands in the list
pub first_stands : (p e : List ℕ) (xs rest : List (List ℕ)) → skip_before p xs ≡ e ∷ rest → Contains xs e × (is_before e p ≡ false)
first_stands p e [] rest h = absurd (cc)
first_stands p e (x ∷ xs) rest h = at_test (is_before x p) refl (λ k. first_stands p e xs rest k) h
  where
    at_test : (b : Bool) → is_before x p ≡ b → (skip_before p xs ≡ e ∷ rest → Contains xs e × (is_before e p ≡ false)) → cond b (skip_before p xs) (x ∷ xs) ≡ e ∷ rest → Contains (x ∷ xs) e × (is_before e p ≡ false)
    at_test true t i h = let m = i h in (there x e xs m.0, m.1)
    at_test false t i h = let s : x ≡ e = cc in (subst (Contains (x ∷ xs)) s (here x xs), subst (λ r. is_before r p ≡ false) s t)

abbrev IsAbove : ℕ → ℕ → List ℕ → Type 0
IsAbove after graph entry = after < graph_of entry → graph ≤ graph_of entry

all_above : (after : ℕ) (e : List ℕ) (xs : List (List ℕ)) → IsBeforeAll e xs → All (IsAbove after (graph_of e)) xs
all_above after e [] u = All-nil (IsAbove after (graph_of e))
all_above after e (x ∷ xs) u = All-cons (IsAbove after (graph_of e)) x xs (λ _. graph_rises e x u.0) (all_above after e xs u.1)

least_later : (after q : ℕ) (e : List ℕ) (xs rest : List (List ℕ)) → q ≡ after + 1 → IsAscending xs → skip_before (q ∷ []) xs ≡ e ∷ rest → All (IsAbove after (graph_of e)) xs
least_later after q e [] rest s u h = absurd (cc)
least_later after q e (x ∷ xs) rest s u h = at_test (is_before x (q ∷ [])) refl (λ k. least_later after q e xs rest s u.1 k) h
  where
    at_test : (b : Bool) → is_before x (q ∷ []) ≡ b → (skip_before (q ∷ []) xs ≡ e ∷ rest → All (IsAbove after (graph_of e)) xs) → cond b (skip_before (q ∷ []) xs) (x ∷ xs) ≡ e ∷ rest → All (IsAbove after (graph_of e)) (x ∷ xs)
    at_test true t i h =
        let g = graph_below x q (omega arith) t in
        All-cons (IsAbove after (graph_of e)) x xs (λ l. absurd (omega arith)) (i h)
    at_test false t i h =
        let same : x ≡ e = cc in
        subst (λ r. All (IsAbove after (graph_of r)) (x ∷ xs)) same (All-cons (IsAbove after (graph_of x)) x xs (λ _. omega arith) (all_above after x xs u.0))

pub next_later : (after q : ℕ) (e : List ℕ) (xs rest : List (List ℕ)) → q ≡ after + 1 → IsAscending xs → skip_before (q ∷ []) xs ≡ e ∷ rest → IsNextGraph xs after (graph_of e)
next_later after q e xs rest s u h =
    let f = first_stands (q ∷ []) e xs rest h in
    let g = graph_from e q f.1 in
    record { above = omega arith; some = (e, f.0, refl); least = least_later after q e xs rest s u h }

-- no graph number is above the greatest
pub none_above_all : (after : ℕ) (xs : List (List ℕ)) → ((x : List ℕ) → Contains xs x → IsEntry x) → (after + 1 < 2 ^ 32 → ⊥) → All (λ entry. graph_of entry ≤ after) xs
none_above_all after xs entries h =
    All-from_get_or (IsLower after) xs [] (λ i l.
    let e = entries (get_or xs i []) (Contains-get_or xs i [] l) in
    let four = e.four in
    let f = e.fits 0 0 (omega arith) in omega arith)

pub if_none_from : (P : Type 0) (r : Option ℕ) → r ≡ None → P → IfNone r P
if_none_from P r e h = subst (λ k. IfNone k P) (sym e) h

-- The named graphs of entries, found one after another.
use Rattle.std.proofs.Common.{◌≡◌, ℕ, ◌+◌, ◌<◌, ◌≤◌, true, ◌==◌, ◌&&◌, Bool, List, [], ◌∷◌, ◌++◌, length, get_or, None, refl, ap, sym, ◌∙◌, subst, arith, ⊎_elim, length-append}
use Rattle.std.specs.List.{All, Contains}
use Rattle.std.specs.List.Sorted.{IsStrictlyIncreasing}
use Rattle.std.proofs.Math.ListN.{get_or-append}
use Rattle.std.proofs.Math.Nat.{eq-or-lt_of_le}
use Rattle.std.proofs.Math.Seq.{get_or-append_seam}
use Rattle.std.proofs.lemmas.Bool.Decides.{nat_tests}
use Rattle.std.proofs.lemmas.List.Elements.{All-contains, Contains-get_or, Contains-append_left, Contains-append_right, Contains-append_cases}
use Rattle.qs_index.specs.inner.Agreeing.{agrees}
use Rattle.qs_index.specs.inner.Entries.{HaveFour}
use Rattle.qs_index.specs.inner.Graph.{graph_of, IsNextGraph}
use Rattle.qs_store.specs.inner.Holding.{HasGraph, IsNextIn, AreWithin, AreGraphsUpTo, AreGraphsOf}
use Rattle.qs_store.specs.inner.Layers.{drafted}
use Rattle.qs_store.specs.inner.Scans.{AreTriplesOf, triple_of}
use Rattle.qs_store.specs.declared.graphs.Graphs.TheVariants.{One}
use Rattle.qs_store.proofs.Drafted.{parts}
use Rattle.qs_store.proofs.Members.{Entries, nothing, here, head_or_tail}
use Rattle.qs_store.proofs.Scanned.{places_in}

increasing_push : (ns : List ℕ) (g : ℕ) → IsStrictlyIncreasing ns → ((n : ℕ) → Contains ns n → n < g) → IsStrictlyIncreasing (ns ++ g ∷ [])
increasing_push ns g u h k l =
    let len = length-append ns (g ∷ []) in
    let most : k + 1 ≤ length ns = omega arith in
    ⊎_elim
    (λ (w : k + 1 ≡ length ns).
    let a = get_or-append ns (g ∷ []) 0 k (omega arith) in
    let b : get_or (ns ++ g ∷ []) (k + 1) 0 ≡ g = ap (λ j. get_or (ns ++ g ∷ []) j 0) w ∙ get_or-append_seam ns g [] 0 in
    let c = h (get_or ns k 0) (Contains-get_or ns k 0 (omega arith)) in omega arith)
    (λ (w : k + 1 < length ns). let a = get_or-append ns (g ∷ []) 0 k (omega arith) in let b = get_or-append ns (g ∷ []) 0 (k + 1) w in let c = u k w in omega arith)
    (eq-or-lt_of_le most)

pub up_to_none : (entries : Entries) → AreGraphsUpTo entries 0 []
up_to_none entries = record {
  ascending = λ k l. absurd (omega arith);
  within = λ n c. absurd (nothing n c);
  has = λ x c a b. absurd (omega arith);
  named = λ n c. absurd (nothing n c);
  only = λ n c. absurd (nothing n c);
}

not_between : (after g n : ℕ) → (after < n → g ≤ n) → n < g → n ≤ after
not_between after g n f l =
    let none : after < n → ⊥ = λ q. let r = f q in omega arith in omega arith

-- one graph more
pub up_to_more : (entries : Entries) (after g : ℕ) (ns : List ℕ) → AreGraphsUpTo entries after ns → IsNextIn entries after g → HasGraph entries g → AreGraphsUpTo entries g (ns ++ g ∷ [])
up_to_more entries after g ns u n h =
    let above = n.above in
    record {
      ascending = increasing_push ns g u.ascending (λ m c. let w = u.within m c in omega arith);
      within = λ m c. ⊎_elim (λ a. let w = u.within m a in omega arith) (λ b. ⊎_elim (λ e. omega arith) (λ t. absurd (nothing m t)) (head_or_tail g [] m b)) (Contains-append_cases ns (g ∷ []) m c);
      has = λ x c a b.
          let least : after < graph_of x → g ≤ graph_of x = n.least x c in
          ⊎_elim
          (λ (w : graph_of x ≡ g). Contains-append_right ns (g ∷ []) (graph_of x) (subst (Contains (g ∷ [])) (sym w) (here g [])))
          (λ (w : graph_of x < g). Contains-append_left ns (g ∷ []) (graph_of x) (u.has x c a (not_between after g (graph_of x) least w)))
          (eq-or-lt_of_le b);
      named = λ m c. ⊎_elim (λ a. u.named m a) (λ b. ⊎_elim (λ e. omega arith) (λ t. absurd (nothing m t)) (head_or_tail g [] m b)) (Contains-append_cases ns (g ∷ []) m c);
      only = λ m c. ⊎_elim (λ a. u.only m a) (λ b. ⊎_elim (λ e. subst (HasGraph entries) e h) (λ t. absurd (nothing m t)) (head_or_tail g [] m b)) (Contains-append_cases ns (g ∷ []) m c);
    }

-- a graph that has no entry
pub up_to_same : (entries : Entries) (after g : ℕ) (ns : List ℕ) → AreGraphsUpTo entries after ns → IsNextIn entries after g → (HasGraph entries g → ⊥) → AreGraphsUpTo entries g ns
up_to_same entries after g ns u n h =
    let above = n.above in
    record {
      ascending = u.ascending;
      within = λ m c. let w = u.within m c in omega arith;
      has = λ x c a b.
          let least : after < graph_of x → g ≤ graph_of x = n.least x c in
          ⊎_elim (λ (w : graph_of x ≡ g). absurd (h record { entry = x; stands = c; is = w })) (λ (w : graph_of x < g). u.has x c a (not_between after g (graph_of x) least w)) (eq-or-lt_of_le b);
      named = u.named;
      only = u.only;
    }

pub all_graphs : (entries : Entries) (after : ℕ) (ns : List ℕ) → AreGraphsUpTo entries after ns → AreWithin entries after → AreGraphsOf entries ns
all_graphs entries after ns u w = record { ascending = u.ascending; has = λ x c a. u.has x c a (w x c); named = u.named; only = u.only }

-- what an index tells of its next graph
pub next_in : (entries : Entries) (after g : ℕ) → IsNextGraph entries after g → IsNextIn entries after g
next_in entries after g n = record { above = n.above; least = λ x c. All-contains (λ entry. after < graph_of entry → g ≤ graph_of entry) entries x n.least c }

pub graph_stands : (entries : Entries) (after g : ℕ) → IsNextGraph entries after g → HasGraph entries g
graph_stands entries after g n = record { entry = n.some.0; stands = n.some.1; is = n.some.2 }

pub within_all : (entries : Entries) (after : ℕ) → All (λ entry. graph_of entry ≤ after) entries → AreWithin entries after
within_all entries after a x c = All-contains (λ entry. graph_of entry ≤ after) entries x a c

-- of two lists
pub both_within : (xs ys : Entries) (after : ℕ) → AreWithin xs after → AreWithin ys after → AreWithin (xs ++ ys) after
both_within xs ys after a b x c = ⊎_elim (λ m. a x m) (λ m. b x m) (Contains-append_cases xs ys x c)

pub next_of_first : (xs ys : Entries) (after g : ℕ) → IsNextIn xs after g → ((x : List ℕ) → Contains ys x → after < graph_of x → g ≤ graph_of x) → IsNextIn (xs ++ ys) after g
next_of_first xs ys after g a b = record { above = a.above; least = λ x c. ⊎_elim (λ m. a.least x m) (λ m. b x m) (Contains-append_cases xs ys x c) }

pub next_of_other : (xs ys : Entries) (after g : ℕ) → IsNextIn ys after g → ((x : List ℕ) → Contains xs x → after < graph_of x → g ≤ graph_of x) → IsNextIn (xs ++ ys) after g
next_of_other xs ys after g a b = record { above = a.above; least = λ x c. ⊎_elim (λ m. b x m) (λ m. a.least x m) (Contains-append_cases xs ys x c) }

-- the entries of a draft are of the store or added
of_both : (i r a : Entries) (x : List ℕ) → Contains (drafted i r a) x → Contains (i ++ a) x
of_both i r a x c = ⊎_elim (λ s. Contains-append_left i a x s.stands) (λ m. Contains-append_right i a x m) (parts i r a x c)

pub next_in_draft : (i r a : Entries) (after g : ℕ) → IsNextIn (i ++ a) after g → IsNextIn (drafted i r a) after g
next_in_draft i r a after g n = record { above = n.above; least = λ x c. n.least x (of_both i r a x c) }

pub within_draft : (i r a : Entries) (after : ℕ) → AreWithin (i ++ a) after → AreWithin (drafted i r a) after
within_draft i r a after w x c = w x (of_both i r a x c)

-- an entry of the graph agrees where nothing else is given
pub agrees_with_graph : (g : ℕ) (x : List ℕ) → length x ≡ 4 → graph_of x ≡ g → agrees g None None None x ≡ true
agrees_with_graph g [] h e = absurd (omega arith)
agrees_with_graph g (a ∷ []) h e = absurd (omega arith)
agrees_with_graph g (a ∷ b ∷ []) h e = absurd (omega arith)
agrees_with_graph g (a ∷ b ∷ c ∷ []) h e = absurd (omega arith)
agrees_with_graph g (a ∷ b ∷ c ∷ d ∷ f ∷ rest) h e = absurd (omega arith)
agrees_with_graph g (a ∷ b ∷ c ∷ d ∷ []) h e = at_test (a == g) (same a g e)
  where
    same : (n m : ℕ) → n ≡ m → (n == m) ≡ true
    same n m q = grind (arith, nat_tests)

    at_test : (t : Bool) → t ≡ true → (((t && true) && true) && true) ≡ true
    at_test t q = rw q refl

-- a graph has triples exactly where an entry has the graph
pub triple_tells : (g : ℕ) (entries triples rest : Entries) (t : List ℕ) → AreTriplesOf (One g) None None None entries triples → triples ≡ t ∷ rest → HasGraph entries g
triple_tells g entries triples rest t w e =
    let m = w.only t (subst (λ l. Contains l t) (sym e) (here t rest)) in
    let p = places_in g None None None m.entry m.read in
    record { entry = m.entry; stands = m.stands; is = ap graph_of p.places.is ∙ p.same }

pub none_tells : (g : ℕ) (entries triples : Entries) → HaveFour entries → AreTriplesOf (One g) None None None entries triples → triples ≡ [] → HasGraph entries g → ⊥
none_tells g entries triples four w e h =
    nothing (triple_of h.entry) (subst (λ l. Contains l (triple_of h.entry)) e (w.has h.entry h.stands (agrees_with_graph g h.entry (four h.entry h.stands) h.is)))

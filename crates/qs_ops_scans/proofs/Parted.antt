-- The quads of all named graphs are, as a bag, those of one graph after another.
use Rattle.std.proofs.Common.{◌≡◌, ℕ, ◌+◌, Bool, true, false, cond, ⊎_elim, Option, Some, None, List, [], ◌∷◌, refl, sym, ◌∙◌, subst, arith}
use Rattle.std.specs.Bool.{Decides}
use Rattle.std.specs.List.{Contains, filter, filter_map, flat_map, list_any}
use Rattle.qs_terms.specs.Bag.{Distinct, SameBag}
use Rattle.qs_terms.specs.inner.Bag.{times}
use Rattle.qs_terms.specs.Dataset.{names_of}
use Rattle.qs_terms.specs.Statement.{Statement, same_graph}
use Rattle.qs_terms.specs.Term.{same_term}
use Rattle.qs_terms.specs.declared.term.Term.{Term}
use Rattle.qs_terms.proofs.Counts.{same_from_times, times-flat_map, total, total-ap}
use Rattle.qs_terms.proofs.FirstOnes.{once_distinct, or_left_false, or_right_false}
use Rattle.qs_terms.proofs.SameTerm.{same_term-Decides}
use Rattle.qs_store.specs.inner.ActiveGraph.{is_named}
use Rattle.qs_store.proofs.Members.{head_or_tail, here, nothing, there}
use Rattle.qs_algebra_solutions.specs.Solution.{Solution, same_solution}
use Rattle.qs_algebra_solutions.proofs.Same.{same_solution-Decides}
use Rattle.qs_ops_scans.proofs.Named.{name_has}

-- ---- counts

total_zero : {X : Type 0} (xs : List X) → total (λ x. 0) xs ≡ 0
total_zero [] = refl
total_zero (x ∷ xs) = omega (arith, total_zero xs)

total_both : {X : Type 0} (f g : X → ℕ) (xs : List X) → total (λ x. f x + g x) xs ≡ total f xs + total g xs
total_both f g [] = omega arith
total_both f g (x ∷ xs) = omega (arith, total_both f g xs)

total_if : {X : Type 0} (f : X → ℕ) (b : Bool) (x : X) (xs : List X) → total f (cond b (x ∷ xs) xs) ≡ cond b (f x) 0 + total f xs
total_if f true x xs = refl
total_if f false x xs = omega arith

module _ {X : Type 0} (same : X → X → Bool) (exact : (a b : X) → Decides (same a b) (a ≡ b)) where
  none_counted : (x : X) (k : ℕ) (xs : List X) → list_any (same x) xs ≡ false → total (λ y. cond (same x y) k 0) xs ≡ 0
  none_counted x k [] h = refl
  none_counted x k (y ∷ xs) h =
      let e : cond (same x y) k 0 ≡ 0 = rw (or_left_false (same x y) (list_any (same x) xs) h) refl in
      let i = none_counted x k xs (or_right_false (same x y) (list_any (same x) xs) h) in
      omega (arith, e, i)

  -- an element that stands once is counted once
  once_counted : (x : X) (k : ℕ) (xs : List X) → Distinct same xs → Contains xs x → total (λ y. cond (same x y) k 0) xs ≡ k
  once_counted x k [] d c = absurd (nothing x c)
  once_counted x k (y ∷ xs) d c = at (same x y) refl (once_counted x k xs d.1)
    where
      at : (b : Bool) → same x y ≡ b → (Contains xs x → total (λ z. cond (same x z) k 0) xs ≡ k) → total (λ z. cond (same x z) k 0) (y ∷ xs) ≡ k
      at true e i =
          let q : x ≡ y = (exact x y).0 e in
          let f : cond (same x y) k 0 ≡ k = rw e refl in
          let n = none_counted x k xs (subst (λ z. list_any (same z) xs ≡ false) (sym q) d.0) in
          omega (arith, f, n)
      at false e i =
          let f : cond (same x y) k 0 ≡ 0 = rw e refl in
          let n = i (⊎_elim (λ s. absurd (let g : true ≡ false = sym ((exact x y).1 (sym s)) ∙ e in cc)) (λ t. t) (head_or_tail y xs x c)) in
          omega (arith, f, n)

-- ---- quads

module _ (f : Statement → ℕ) (names : List Term) (d : Distinct same_term names) where
  abbrev of_graph : Term → List Statement → List Statement
  of_graph n quads = filter (λ q. same_graph q.graph (Some n)) quads

  abbrev of_graphs : List Statement → List Statement
  of_graphs quads = filter (λ q. is_named q.graph) quads

  graph_counted : (g : Option Term) (k : ℕ) → ((n : Term) → g ≡ Some n → Contains names n) → cond (is_named g) k 0 ≡ total (λ n. cond (same_graph g (Some n)) k 0) names
  graph_counted None k h = sym (total_zero names)
  graph_counted (Some x) k h = sym (once_counted same_term same_term-Decides x k names d (h x refl))

  parted_counts : (quads : List Statement) → ((q : Statement) (n : Term) → Contains quads q → q.graph ≡ Some n → Contains names n) → total f (of_graphs quads) ≡ total (λ n. total f (of_graph n quads)) names
  parted_counts [] h = sym (total_zero names)
  parted_counts (q ∷ quads) h =
      let i = parted_counts quads (λ r n k e. h r n (there q r quads k) e) in
      let g = graph_counted q.graph (f q) (λ n e. h q n (here q quads) e) in
      let l = total_if f (is_named q.graph) q (of_graphs quads) in
      let r = total-ap (λ n. total f (of_graph n (q ∷ quads))) (λ n. cond (same_graph q.graph (Some n)) (f q) 0 + total f (of_graph n quads)) (λ n. total_if f (same_graph q.graph (Some n)) q (of_graph n quads)) names in
      let b = total_both (λ n. cond (same_graph q.graph (Some n)) (f q) 0) (λ n. total f (of_graph n quads)) names in
      omega (arith, i, g, l, r, b)

pub parted : (f : Statement → List Solution) (quads : List Statement) → SameBag (flat_map f (filter (λ q. is_named q.graph) quads)) (flat_map (λ n. flat_map f (filter (λ q. same_graph q.graph (Some n)) quads)) (names_of quads))
parted f quads =
    same_from_times same_solution same_solution-Decides _ _ (λ a.
    times-flat_map same_solution f a (filter (λ q. is_named q.graph) quads)
    ∙ (parted_counts (λ q. times same_solution a (f q)) (names_of quads) (once_distinct same_term same_term-Decides (filter_map (λ r. r.graph) quads)) quads (λ q n k e. name_has n quads q k e)
    ∙ (total-ap (λ n. total (λ q. times same_solution a (f q)) (filter (λ q. same_graph q.graph (Some n)) quads)) (λ n. times same_solution a (flat_map f (filter (λ q. same_graph q.graph (Some n)) quads)))
    (λ n. sym (times-flat_map same_solution f a (filter (λ q. same_graph q.graph (Some n)) quads))) (names_of quads)
    ∙ sym (times-flat_map same_solution (λ n. flat_map f (filter (λ q. same_graph q.graph (Some n)) quads)) a (names_of quads)))))

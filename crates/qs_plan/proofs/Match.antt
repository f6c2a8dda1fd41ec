-- The search finds each map that it can reach, once.
use Rattle.std.proofs.Common.{◌≡◌, ℕ, ◌+◌, Bool, true, false, cond, ◌||◌, ◌⊎◌, inl, inr, List, [], ◌∷◌, Option, Some, None, length, option_to_list, ◌++◌, refl, sym, ◌∙◌, ap, subst, arith}
use Rattle.std.specs.List.{list_any, flat_map}
use Rattle.qs_terms.specs.declared.term.Term.{Term}
use Rattle.qs_algebra_patterns.specs.declared.pattern.Slot.{Slot}
use Rattle.qs_terms.specs.Dataset.{Triple, same_triple}
use Rattle.qs_algebra_patterns.specs.declared.pattern.TriplePattern.{TriplePattern}
use Rattle.qs_terms.specs.Bag.{Distinct}
use Rattle.qs_terms.specs.inner.Bag.{times}
use Rattle.qs_algebra_solutions.specs.Solution.{Solution, term_at, same_solution}
use Rattle.qs_algebra_patterns.specs.Basic.{Graph, is_variable, mentions, value, triple_from, instance, is_in, puts_into}
use Rattle.qs_plan_meaning.specs.inner.Scans.{bound_slot, then_bound, bound_triple, extensions, found}
use Rattle.qs_plan.proofs.Below.{SlotBelow, TripleBelow, AllBelow}
use Rattle.qs_plan.proofs.AndOr.{and_left, and_right, and_of, or_cases, or_first, or_second}
use Rattle.qs_terms.proofs.Counts.{Once, once_like, once_at, once_total, AnyOf, times-flat_map}
use Rattle.qs_algebra_solutions.proofs.Same.{same_solution-Decides, same_triple-Decides, same_everywhere}
use Rattle.qs_plan.proofs.Slots.{Reach, ReachAt, Stepped, slot_stepped, slot_stopped}

abbrev Through : Option Solution → (Solution → Option Solution) → Solution → Type 0
Through o f r = (a : Solution) × (o ≡ Some a) × (f a ≡ Some r)

split_some : (o : Option Solution) (f : Solution → Option Solution) (r : Solution) → then_bound o f ≡ Some r → Through o f r
split_some None f r h = let k : None ≡ Some r = h in cc
split_some (Some a) f r h = (a, refl, h)

abbrev Stops : Option Solution → (Solution → Option Solution) → Type 0
Stops o f = (o ≡ None) ⊎ ((a : Solution) × (o ≡ Some a) × (f a ≡ None))

split_none : (o : Option Solution) (f : Solution → Option Solution) → then_bound o f ≡ None → Stops o f
split_none None f h = inl refl
split_none (Some a) f h = inr (a, refl, h)

pub record Values (a b c : Option Term) (t : Triple) : Type 0 where
  pub s : a ≡ Some t.subject
  pub p : b ≡ Some t.predicate
  pub o : c ≡ Some t.object

pub values_of : (a b c : Option Term) (t : Triple) → triple_from a b c ≡ Some t → Values a b c t
values_of None b c t h = let k : None ≡ Some t = h in cc
values_of (Some x) None c t h = let k : None ≡ Some t = h in cc
values_of (Some x) (Some y) None t h = let k : None ≡ Some t = h in cc
values_of (Some x) (Some y) (Some z) t h =
    let r : Triple = record { subject = x; predicate = y; object = z } in
    let e : Some r ≡ Some t = h in
    let q : r ≡ t = cc in
    record { s = ap (λ (l : Triple). Some l.subject) q; p = ap (λ (l : Triple). Some l.predicate) q; o = ap (λ (l : Triple). Some l.object) q }

triple_of_values : (a b c : Option Term) (t : Triple) → a ≡ Some t.subject → b ≡ Some t.predicate → c ≡ Some t.object → triple_from a b c ≡ Some t
triple_of_values a b c t e f g = rw (e, f, g) refl

abbrev later_by : TriplePattern → (ℕ → Bool) → ℕ → Bool
later_by p later v = is_variable p.subject v || (is_variable p.predicate v || (is_variable p.object v || later v))

-- what follows from the step of a triple
pub record Joined (later : ℕ → Bool) (p : TriplePattern) (t : Triple) (row row' : Solution) : Type 0 where
  pub kept : length row' ≡ length row
  pub back : (m : Solution) → Reach later row' m → Reach (later_by p later) row m × (instance m p ≡ Some t)
  pub on : (m : Solution) → Reach (later_by p later) row m → instance m p ≡ Some t → Reach later row' m

slot_at : (k n : ℕ) (s : Slot) → k ≡ n → SlotBelow n s → SlotBelow k s
slot_at k n s e h = subst (λ x. SlotBelow x s) (sym e) h

triple_joined : (later : ℕ → Bool) (p : TriplePattern) (t : Triple) (row row' : Solution) → TripleBelow (length row) p → bound_triple p t row ≡ Some row' → Joined later p t row row'
triple_joined later p t row row' lt h =
    let w = split_some (bound_slot p.subject t.subject row) (λ a. then_bound (bound_slot p.predicate t.predicate a) (λ b. bound_slot p.object t.object b)) row' h in
    let x = split_some (bound_slot p.predicate t.predicate w.0) (λ b. bound_slot p.object t.object b) row' w.2 in
    let one : Stepped (λ v. is_variable p.predicate v || (is_variable p.object v || later v)) p.subject t.subject row w.0 = slot_stepped _ p.subject t.subject row w.0 lt.0 w.1 in
    let two : Stepped (λ v. is_variable p.object v || later v) p.predicate t.predicate w.0 x.0 = slot_stepped _ p.predicate t.predicate w.0 x.0 (slot_at _ _ p.predicate one.kept lt.1.0) x.1 in
    let three : Stepped later p.object t.object x.0 row' = slot_stepped later p.object t.object x.0 row' (slot_at _ _ p.object (two.kept ∙ one.kept) lt.1.1) x.2 in
    record {
      kept = three.kept ∙ (two.kept ∙ one.kept);
      back = λ m r. (let c = three.back m r in let b = two.back m c.0 in let a = one.back m b.0 in (a.0, triple_of_values _ _ _ t a.1 b.1 c.1));
      on = λ m r e. (let v : Values (value m p.subject) (value m p.predicate) (value m p.object) t = values_of _ _ _ t e in three.on m (two.on m (one.on m r v.s) v.p) v.o);
    }

triple_stopped : (later : ℕ → Bool) (p : TriplePattern) (t : Triple) (row m : Solution) → TripleBelow (length row) p → bound_triple p t row ≡ None → Reach (later_by p later) row m → instance m p ≡ Some t → ⊥
triple_stopped later p t row m lt h r e =
    let v : Values (value m p.subject) (value m p.predicate) (value m p.object) t = values_of _ _ _ t e in
    elim (split_none (bound_slot p.subject t.subject row) (λ a. then_bound (bound_slot p.predicate t.predicate a) (λ b. bound_slot p.object t.object b)) h) [
      | inl k ↦ slot_stopped _ p.subject t.subject row m k r v.s
      | inr w ↦
          (let one : Stepped (λ v. is_variable p.predicate v || (is_variable p.object v || later v)) p.subject t.subject row w.0 = slot_stepped _ p.subject t.subject row w.0 lt.0 w.1 in
          let ra : Reach (λ v. is_variable p.predicate v || (is_variable p.object v || later v)) w.0 m = one.on m r v.s in
          elim (split_none (bound_slot p.predicate t.predicate w.0) (λ b. bound_slot p.object t.object b) w.2) [
            | inl k ↦ slot_stopped _ p.predicate t.predicate w.0 m k ra v.p
            | inr x ↦
                (let two : Stepped (λ v. is_variable p.object v || later v) p.predicate t.predicate w.0 x.0 = slot_stepped _ p.predicate t.predicate w.0 x.0 (slot_at _ _ p.predicate one.kept lt.1.0) x.1 in
                slot_stopped _ p.object t.object x.0 m x.2 (two.on m ra v.p) v.o)
          ])
    ]

-- m is reached from the row by the triples
pub record Good (triples : List TriplePattern) (graph : Graph) (row m : Solution) : Type 0 where
  pub reach : Reach (mentions triples) row m
  pub puts : puts_into graph triples m ≡ true

-- at this triple of the graph
record GoodAt (p : TriplePattern) (triples : List TriplePattern) (graph : Graph) (row m : Solution) (t : Triple) : Type 0 where
  is : instance m p ≡ Some t
  reach : Reach (mentions (p ∷ triples)) row m
  puts : puts_into graph triples m ≡ true

-- a triple of the graph at which P holds
abbrev At : (Triple → Type 0) → Graph → Type 0
At P graph = (t : Triple) × (list_any (same_triple t) graph ≡ true) × P t

one_of : (P : Triple → Type 0) (graph : Graph) → AnyOf P graph → At P graph
one_of P [] w = elim w [ ]
one_of P (t ∷ graph) (inl p) = (t, or_first (same_triple t t) _ ((same_triple-Decides t t).1 refl), p)
one_of P (t ∷ graph) (inr w) = let x = one_of P graph w in (x.0, or_second (same_triple x.0 t) _ x.1, x.2)

any_at : (P : Triple → Type 0) (t : Triple) (graph : Graph) → list_any (same_triple t) graph ≡ true → P t → AnyOf P graph
any_at P t [] h p = let f : false ≡ true = h in cc
any_at P t (u ∷ graph) h p =
    elim (or_cases (same_triple t u) (list_any (same_triple t) graph) h)
    [ inl e ↦ inl (subst P ((same_triple-Decides t u).0 e) p) | inr e ↦ inr (any_at P t graph e p) ]

pub in_graph : (graph : Graph) (o : Option Triple) → is_in graph o ≡ true → (t : Triple) × (o ≡ Some t) × (list_any (same_triple t) graph ≡ true)
in_graph graph None h = let f : false ≡ true = h in cc
in_graph graph (Some t) h = (t, refl, h)

at_back : (p : TriplePattern) (triples : List TriplePattern) (graph : Graph) (row m : Solution) → AnyOf (GoodAt p triples graph row m) graph → Good (p ∷ triples) graph row m
at_back p triples graph row m w =
    let x = one_of (GoodAt p triples graph row m) graph w in
    let e : is_in graph (instance m p) ≡ true = rw (x.2.is) x.1 in
    record { reach = x.2.reach; puts = and_of (is_in graph (instance m p)) _ e x.2.puts }

at_on : (p : TriplePattern) (triples : List TriplePattern) (graph : Graph) (row m : Solution) → Good (p ∷ triples) graph row m → AnyOf (GoodAt p triples graph row m) graph
at_on p triples graph row m g =
    let x = in_graph graph (instance m p) (and_left (is_in graph (instance m p)) (puts_into graph triples m) g.puts) in
    any_at (GoodAt p triples graph row m) x.0 graph x.2 (record { is = x.1; reach = g.reach; puts = and_right (is_in graph (instance m p)) (puts_into graph triples m) g.puts })

-- ---- triple by triple

abbrev found_after : Option Solution → (Solution → List Solution) → List Solution
found_after None f = []
found_after (Some m) f = f m

after_at : (o : Option Solution) (f : Solution → List Solution) (rest more : List Solution) → flat_map f rest ≡ more → flat_map f (option_to_list o ++ rest) ≡ found_after o f ++ more
after_at None f rest more h = h
after_at (Some m) f rest more h = ap (λ l. f m ++ l) h

after_each : (p : TriplePattern) (m : Solution) (f : Solution → List Solution) (graph : Graph) → flat_map f (extensions p graph m) ≡ flat_map (λ t. found_after (bound_triple p t m) f) graph
after_each p m f [] = refl
after_each p m f (t ∷ graph) = after_at (bound_triple p t m) f (extensions p graph m) _ (after_each p m f graph)

step_once : (p : TriplePattern) (triples : List TriplePattern) (graph : Graph) (row m : Solution) (t : Triple) (o : Option Solution) → TripleBelow (length row) p → bound_triple p t row ≡ o
    → ((row' : Solution) → length row' ≡ length row → Once (Good triples graph row' m) (times same_solution m (found triples graph row')))
    → Once (GoodAt p triples graph row m t) (times same_solution m (found_after o (found triples graph)))
step_once p triples graph row m t None lt h rest =
    inr ((λ g. triple_stopped (mentions triples) p t row m lt h g.reach g.is), refl)
step_once p triples graph row m t (Some row') lt h rest =
    let j : Joined (mentions triples) p t row row' = triple_joined (mentions triples) p t row row' lt h in
    once_like {P = Good triples graph row' m} {Q = GoodAt p triples graph row m t} (times same_solution m (found triples graph row'))
    (λ g. (let b = j.back m g.reach in record { is = b.1; reach = b.0; puts = g.puts }))
    (λ g. record { reach = j.on m g.reach g.is; puts = g.puts })
    (rest row' j.kept)

all_at : (k n : ℕ) (triples : List TriplePattern) → k ≡ n → AllBelow n triples → AllBelow k triples
all_at k n triples e h = subst (λ x. AllBelow x triples) (sym e) h

end_same : (graph : Graph) (row m : Solution) → Good [] graph row m → m ≡ row
end_same graph row m g =
    same_everywhere m row g.reach.wide (λ v. end_at (term_at row v) (term_at m v) (g.reach.at v))
  where
    end_at : (c y : Option Term) → ReachAt false c y → y ≡ c
    end_at None y h = h refl
    end_at (Some x) y h = h

end_good : (graph : Graph) (row m : Solution) → m ≡ row → Good [] graph row m
end_good graph row m e = record { reach = record { wide = ap length e; at = λ v. end_at (term_at row v) (term_at m v) (ap (λ (r : Solution). term_at r v) e) }; puts = refl }
  where
    end_at : (c y : Option Term) → y ≡ c → ReachAt false c y
    end_at None y h = λ _. h
    end_at (Some x) y h = h

end_once : (graph : Graph) (row m : Solution) (b : Bool) → same_solution m row ≡ b → Once (Good [] graph row m) (cond b 1 0 + 0)
end_once graph row m true q = inl (end_good graph row m ((same_solution-Decides m row).0 q), omega arith)
end_once graph row m false q =
    inr ((λ g. let f : same_solution m row ≡ true = (same_solution-Decides m row).1 (end_same graph row m g) in cc), omega arith)

one_triple : (p : TriplePattern) (triples : List TriplePattern) (graph : Graph) (row m : Solution) (t u : Triple) → GoodAt p triples graph row m t → GoodAt p triples graph row m u → t ≡ u
one_triple p triples graph row m t u g h = let e : Some t ≡ Some u = sym g.is ∙ h.is in cc

-- the search from a row finds a map once, or it can't be reached
pub found_once : (graph : Graph) → Distinct same_triple graph → (triples : List TriplePattern) (row m : Solution) → AllBelow (length row) triples → Once (Good triples graph row m) (times same_solution m (found triples graph row))
found_once graph d [] row m lt = end_once graph row m (same_solution m row) refl
found_once graph d (p ∷ triples) row m lt =
    once_at _ _ (ap (times same_solution m) (after_each p row (found triples graph) graph) ∙ times-flat_map same_solution (λ t. found_after (bound_triple p t row) (found triples graph)) m graph)
    (once_like {P = AnyOf (GoodAt p triples graph row m) graph} {Q = Good (p ∷ triples) graph row m} _ (at_back p triples graph row m) (at_on p triples graph row m)
    (once_total same_triple same_triple-Decides (GoodAt p triples graph row m) (λ t. times same_solution m (found_after (bound_triple p t row) (found triples graph)))
    (one_triple p triples graph row m)
    (λ t. step_once p triples graph row m t (bound_triple p t row) lt.0 refl (λ row' e. found_once graph d triples row' m (all_at _ _ triples e lt.1)))
    graph d))

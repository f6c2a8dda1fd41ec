-- The search through triple patterns finds their solutions, as a bag.
use Rattle.std.proofs.Common.{◌≡◌, ℕ, ◌+◌, ◌<◌, ◌≤◌, Bool, true, false, not, ◌||◌, ◌⊎◌, inl, inr, List, [], ◌∷◌, zero, suc, Option, Some, None, length, refl, sym, ◌∙◌, ap, subst, arith}
use Rattle.std.specs.List.{list_any, flat_map, filter}
use Rattle.std.proofs.lemmas.Bool.{cases_lt}
use Rattle.std.proofs.lemmas.Bool.Decides.{Decides-eqb}
use Rattle.qs_terms.specs.declared.term.Term.{Term}
use Rattle.qs_terms.specs.Term.{same_term}
use Rattle.qs_terms.proofs.SameTerm.{same_term-Decides}
use Rattle.qs_algebra_patterns.specs.declared.pattern.Slot.{Slot}
use Rattle.qs_algebra_patterns.specs.declared.pattern.Slot.TheVariants as slot
use Rattle.qs_terms.specs.Dataset.{Triple, same_triple}
use Rattle.qs_algebra_patterns.specs.declared.pattern.TriplePattern.{TriplePattern}
use Rattle.qs_terms.specs.Bag.{Distinct, SameBag, once}
use Rattle.qs_terms.proofs.FirstOnes.{any_kept, once_distinct}
use Rattle.qs_algebra_solutions.specs.Solution.{Solution, term_at, same_solution, unbound}
use Rattle.qs_algebra_patterns.specs.Basic.{Graph, is_variable, mentions, value, instance, is_in, puts_into, terms_of, all_maps, matches}
use Rattle.qs_algebra_patterns.specs.inner.Basic.{terms_of_triple}
use Rattle.qs_plan_meaning.specs.inner.Scans.{found}
use Rattle.qs_plan.proofs.Below.{AllBelow}
use Rattle.qs_plan.proofs.AndOr.{and_left, and_right, or_cases, or_first, or_second}
use Rattle.qs_terms.proofs.Counts.{AnyOf, same_from_once, once-filter}
use Rattle.qs_algebra_solutions.proofs.Same.{same_solution-Decides, same_triple-Decides}
use Rattle.qs_plan.proofs.Slots.{ReachAt}
use Rattle.qs_plan.proofs.Match.{Good, Values, values_of, in_graph, found_once}
use Rattle.qs_plan.proofs.Maps.{Fits, FitsCell, maps_once}

-- ---- each term of the graph

in_once_at : (x t : Term) (os : List Term) (b : Bool) → same_term x t ≡ b → (b ≡ false → list_any (same_term x) os ≡ true) → (b || list_any (same_term x) (filter (λ u. not (same_term t u)) os)) ≡ true
in_once_at x t os true e h = refl
in_once_at x t os false e h = any_kept same_term same_term-Decides x (λ u. not (same_term t u)) os (other (same_term t x) refl) (h refl)
  where
    other : (b : Bool) → same_term t x ≡ b → not b ≡ true
    other true q = let k : t ≡ x = (same_term-Decides t x).0 q in let f : same_term x t ≡ true = (same_term-Decides x t).1 (sym k) in cc
    other false q = refl

pub in_once : (x : Term) (ts : List Term) → list_any (same_term x) ts ≡ true → list_any (same_term x) (once same_term ts) ≡ true
in_once x [] h = h
in_once x (t ∷ ts) h =
    in_once_at x t (once same_term ts) (same_term x t) refl (λ e. in_once x ts (later (same_term x t) e h))
  where
    later : (b : Bool) → b ≡ false → (b || list_any (same_term x) ts) ≡ true → list_any (same_term x) ts ≡ true
    later true e k = let f : true ≡ false = e in cc
    later false e k = k

-- ---- the terms of a triple of the graph

abbrev PartOf : Term → Triple → Type 0
PartOf x t = (x ≡ t.subject) ⊎ ((x ≡ t.predicate) ⊎ (x ≡ t.object))

part_first : (x : Term) (t : Triple) (rest : Bool) → PartOf x t → (same_term x t.subject || (same_term x t.predicate || (same_term x t.object || rest))) ≡ true
part_first x t rest (inl e) = or_first _ _ ((same_term-Decides x t.subject).1 e)
part_first x t rest (inr (inl e)) = or_second (same_term x t.subject) _ (or_first _ _ ((same_term-Decides x t.predicate).1 e))
part_first x t rest (inr (inr e)) = or_second (same_term x t.subject) _ (or_second (same_term x t.predicate) _ (or_first _ _ ((same_term-Decides x t.object).1 e)))

part_in : (x : Term) (t : Triple) (graph : Graph) → PartOf x t → list_any (same_triple t) graph ≡ true → list_any (same_term x) (flat_map terms_of_triple graph) ≡ true
part_in x t [] w h = h
part_in x t (u ∷ graph) w h =
    elim (or_cases (same_triple t u) (list_any (same_triple t) graph) h) [
      | inl e ↦ part_first x u _ (subst (λ (r : Triple). PartOf x r) ((same_triple-Decides t u).0 e) w)
      | inr e ↦ or_second (same_term x u.subject) _ (or_second (same_term x u.predicate) _ (or_second (same_term x u.object) _ (part_in x t graph w e)))
    ]

any_term : (c : Option Term) (x : Term) (ts : List Term) → c ≡ Some x → list_any (same_term x) ts ≡ true → AnyOf (λ t. c ≡ Some t) ts
any_term c x [] e h = let f : false ≡ true = h in cc
any_term c x (t ∷ ts) e h =
    elim (or_cases (same_term x t) (list_any (same_term x) ts) h)
    [ inl q ↦ inl (e ∙ ap Some ((same_term-Decides x t).0 q)) | inr q ↦ inr (any_term c x ts e q) ]

-- ---- a variable of the triple patterns has a term of the graph

named_value : (m : Solution) (s : Slot) (v : ℕ) → is_variable s v ≡ true → term_at m v ≡ value m s
named_value m (slot.Term t) v h = let f : false ≡ true = h in cc
named_value m (slot.Variable w) v h = ap (term_at m) (sym ((Decides-eqb w v).0 h))

abbrev InGraph : Graph → Solution → ℕ → Type 0
InGraph graph m v = AnyOf (λ t. term_at m v ≡ Some t) (terms_of graph)

slot_value : (graph : Graph) (m : Solution) (s : Slot) (v : ℕ) (x : Term) (t : Triple) → is_variable s v ≡ true → value m s ≡ Some x → PartOf x t → list_any (same_triple t) graph ≡ true → InGraph graph m v
slot_value graph m s v x t n e w h = any_term (term_at m v) x (terms_of graph) (named_value m s v n ∙ e) (in_once x (flat_map terms_of_triple graph) (part_in x t graph w h))

triples_value : (graph : Graph) (triples : List TriplePattern) (m : Solution) (v : ℕ) → mentions triples v ≡ true → puts_into graph triples m ≡ true → InGraph graph m v
triples_value graph [] m v h g = let f : false ≡ true = h in cc
triples_value graph (p ∷ triples) m v h g =
    let x = in_graph graph (instance m p) (and_left (is_in graph (instance m p)) (puts_into graph triples m) g) in
    let k : Values (value m p.subject) (value m p.predicate) (value m p.object) x.0 = values_of _ _ _ x.0 x.1 in
    elim (or_cases (is_variable p.subject v) (is_variable p.predicate v || (is_variable p.object v || mentions triples v)) h) [
      | inl n ↦ slot_value graph m p.subject v x.0.subject x.0 n k.s (inl refl) x.2
      | inr h1 ↦ elim (or_cases (is_variable p.predicate v) (is_variable p.object v || mentions triples v) h1) [
        | inl n ↦ slot_value graph m p.predicate v x.0.predicate x.0 n k.p (inr (inl refl)) x.2
        | inr h2 ↦ elim (or_cases (is_variable p.object v) (mentions triples v) h2) [
          | inl n ↦ slot_value graph m p.object v x.0.object x.0 n k.o (inr (inr refl)) x.2
          | inr h3 ↦ triples_value graph triples m v h3 (and_right (is_in graph (instance m p)) (puts_into graph triples m) g)
        ]
      ]
    ]

-- ---- by place

fits_from : (bound : ℕ → Bool) (ts : List Term) (v n : ℕ) (m : Solution) → length m ≡ n → ((k : ℕ) → k < n → FitsCell ts (bound (v + k)) (term_at m k)) → Fits bound ts v n m
fits_from bound ts v zero [] l h = tt
fits_from bound ts v zero (c ∷ m) l h = absurd (omega arith)
fits_from bound ts v (suc n) [] l h = absurd (omega arith)
fits_from bound ts v (suc n) (c ∷ m) l h = (
  subst (λ (x : ℕ). FitsCell ts (bound x) c) (let e : v + 0 ≡ v = omega arith in e) (h 0 (omega arith)),
  fits_from bound ts (v + 1) n m (omega arith) (λ k lt. subst (λ (x : ℕ). FitsCell ts (bound x) (term_at m k)) (let e : v + suc k ≡ v + 1 + k = omega arith in e) (h (suc k) (omega arith))),
)

pub fits_wide : (bound : ℕ → Bool) (ts : List Term) (v n : ℕ) (m : Solution) → Fits bound ts v n m → length m ≡ n
fits_wide bound ts v zero [] h = refl
fits_wide bound ts v zero (c ∷ m) h = absurd h
fits_wide bound ts v (suc n) [] h = absurd h
fits_wide bound ts v (suc n) (c ∷ m) h = ap suc (fits_wide bound ts (v + 1) n m h.1)

fits_at : (bound : ℕ → Bool) (ts : List Term) (v n : ℕ) (m : Solution) → Fits bound ts v n m → (k : ℕ) → k < n → FitsCell ts (bound (v + k)) (term_at m k)
fits_at bound ts v zero m h k lt = absurd (omega arith)
fits_at bound ts v (suc n) [] h k lt = absurd h
fits_at bound ts v (suc n) (c ∷ m) h zero lt = subst (λ (x : ℕ). FitsCell ts (bound x) c) (let e : v ≡ v + 0 = omega arith in e) h.0
fits_at bound ts v (suc n) (c ∷ m) h (suc k) lt =
    subst (λ (x : ℕ). FitsCell ts (bound x) (term_at m k)) (let e : v + 1 + k ≡ v + suc k = omega arith in e) (fits_at bound ts (v + 1) n m h.1 k (omega arith))

pub past_end : (m : Solution) (v : ℕ) → length m ≤ v → term_at m v ≡ None
past_end [] v h = refl
past_end (c ∷ m) zero h = absurd (omega arith)
past_end (c ∷ m) (suc v) h = past_end m v (omega arith)

pub length-unbound : (n : ℕ) → length (unbound n) ≡ n
length-unbound zero = refl
length-unbound (suc n) = ap suc (length-unbound n)

unbound_at : (n v : ℕ) → term_at (unbound n) v ≡ None
unbound_at zero v = refl
unbound_at (suc n) zero = refl
unbound_at (suc n) (suc v) = unbound_at n v

-- ---- the law

abbrev Lawful : ℕ → List TriplePattern → Graph → Solution → Type 0
Lawful width triples graph m = Fits (mentions triples) (terms_of graph) 0 width m × (puts_into graph triples m ≡ true)

cell_of : (graph : Graph) (triples : List TriplePattern) (m : Solution) (v : ℕ) (b : Bool) → mentions triples v ≡ b → ReachAt b None (term_at m v) → puts_into graph triples m ≡ true → FitsCell (terms_of graph) b (term_at m v)
cell_of graph triples m v true e r g = triples_value graph triples m v e g
cell_of graph triples m v false e r g = r refl

to_lawful : (width : ℕ) (triples : List TriplePattern) (graph : Graph) (m : Solution) → Good triples graph (unbound width) m → Lawful width triples graph m
to_lawful width triples graph m g = (
  fits_from (mentions triples) (terms_of graph) 0 width m (g.reach.wide ∙ length-unbound width)
      (λ k lt. subst (λ (x : ℕ). FitsCell (terms_of graph) (mentions triples x) (term_at m k)) (let e : k ≡ 0 + k = omega arith in e)
      (cell_of graph triples m k (mentions triples k) refl (subst (λ (c : Option Term). ReachAt (mentions triples k) c (term_at m k)) (unbound_at width k) (g.reach.at k)) g.puts)),
  g.puts,
)

none_at : (ts : List Term) (b : Bool) (c : Option Term) → FitsCell ts b c → b ≡ false → c ≡ None
none_at ts true c h e = let f : true ≡ false = e in cc
none_at ts false c h e = h

cell_back : (width : ℕ) (triples : List TriplePattern) (graph : Graph) (m : Solution) (v : ℕ) → Fits (mentions triples) (terms_of graph) 0 width m → (v < width) ⊎ (width ≤ v) → mentions triples v ≡ false → term_at m v ≡ None
cell_back width triples graph m v h (inl lt) e =
    none_at (terms_of graph) (mentions triples v) (term_at m v) (subst (λ (x : ℕ). FitsCell (terms_of graph) (mentions triples x) (term_at m v)) (let e : 0 + v ≡ v = omega arith in e) (fits_at (mentions triples) (terms_of graph) 0 width m h v lt)) e
cell_back width triples graph m v h (inr le) e = past_end m v (omega (arith, fits_wide (mentions triples) (terms_of graph) 0 width m h))

from_lawful : (width : ℕ) (triples : List TriplePattern) (graph : Graph) (m : Solution) → Lawful width triples graph m → Good triples graph (unbound width) m
from_lawful width triples graph m h = record {
  reach = record {
    wide = fits_wide (mentions triples) (terms_of graph) 0 width m h.0 ∙ sym (length-unbound width);
    at = λ v. subst (λ (c : Option Term). ReachAt (mentions triples v) c (term_at m v)) (sym (unbound_at width v)) (cell_back width triples graph m v h.0 (cases_lt v width));
  };
  puts = h.1;
}

-- what the search finds is what the definition says
pub found_is_matches : (width : ℕ) (triples : List TriplePattern) (graph : Graph) → Distinct same_triple graph → AllBelow width triples → SameBag (found triples graph (unbound width)) (matches width triples graph)
found_is_matches width triples graph d lt =
    same_from_once same_solution same_solution-Decides {P = Good triples graph (unbound width)} {Q = Lawful width triples graph}
    (found triples graph (unbound width)) (matches width triples graph)
    (to_lawful width triples graph) (from_lawful width triples graph)
    (λ m. found_once graph d triples (unbound width) m (subst (λ (n : ℕ). AllBelow n triples) (sym (length-unbound width)) lt))
    (λ m. once-filter same_solution same_solution-Decides (puts_into graph triples) m (all_maps (mentions triples) (terms_of graph) 0 width)
    (maps_once (mentions triples) (terms_of graph) (once_distinct same_term same_term-Decides (flat_map terms_of_triple graph)) 0 width m))

-- A triple pattern of a variable past the last puts nothing into a graph.
use Rattle.std.proofs.Common.{◌≡◌, ℕ, ◌<◌, ◌≤◌, Bool, true, false, cond, ◌&&◌, ◌⊎◌, inl, inr, [], ◌∷◌, List, nat_lt, Option, Some, None, length, refl, sym, ◌∙◌, ap, arith}
use Rattle.std.proofs.lemmas.Bool.Decides.{Decides-ltb}
use Rattle.std.proofs.lemmas.Bool.{cases_lt}
use Rattle.qs_terms.specs.declared.term.Term.{Term}
use Rattle.qs_terms.specs.Bag.{SameBag}
use Rattle.qs_terms.proofs.Counts.{Once, times-filter, same_from_times}
use Rattle.qs_terms.proofs.FirstOnes.{once_distinct}
use Rattle.qs_terms.proofs.SameTerm.{same_term-Decides}
use Rattle.qs_terms.specs.Term.{same_term}
use Rattle.std.specs.List.{flat_map}
use Rattle.qs_algebra_solutions.specs.Solution.{Solution, term_at, same_solution}
use Rattle.qs_algebra_patterns.specs.declared.pattern.Slot.{Slot}
use Rattle.qs_algebra_patterns.specs.declared.pattern.Slot.TheVariants as slot
use Rattle.qs_algebra_patterns.specs.declared.pattern.TriplePattern.{TriplePattern}
use Rattle.qs_algebra_patterns.specs.Basic.{Graph, value, triple_from, instance, is_in, puts_into, mentions, terms_of, all_maps, matches}
use Rattle.qs_algebra_patterns.specs.inner.Basic.{terms_of_triple}
use Rattle.qs_plan.specs.inner.Below.{slot_below, triple_below, all_below}
use Rattle.qs_algebra_solutions.proofs.Same.{same_solution-Decides}
use Rattle.qs_plan.proofs.Maps.{Fits, maps_once}
use Rattle.qs_plan.proofs.FoundLaw.{past_end, fits_wide}

slot_past : (n : ℕ) (m : Solution) (s : Slot) → length m ≡ n → slot_below n s ≡ false → value m s ≡ None
slot_past n m (slot.Term t) l h = let f : true ≡ false = h in cc
slot_past n m (slot.Variable v) l h = at (cases_lt v n)
  where
    at : (v < n) ⊎ (n ≤ v) → term_at m v ≡ None
    at (inl lt) = let f : nat_lt v n ≡ true = (Decides-ltb v n).1 lt in cc
    at (inr le) = past_end m v (omega (arith, l))

no_object : (a b : Option Term) → triple_from a b None ≡ None
no_object None b = refl
no_object (Some x) None = refl
no_object (Some x) (Some y) = refl

no_predicate : (a c : Option Term) → triple_from a None c ≡ None
no_predicate None c = refl
no_predicate (Some x) c = refl

triple_past : (n : ℕ) (m : Solution) (p : TriplePattern) (b c : Bool) → length m ≡ n → slot_below n p.subject ≡ b → slot_below n p.predicate ≡ c → (b && (c && slot_below n p.object)) ≡ false → instance m p ≡ None
triple_past n m p false c l d e h = ap (λ o. triple_from o (value m p.predicate) (value m p.object)) (slot_past n m p.subject l d)
triple_past n m p true false l d e h = ap (λ o. triple_from (value m p.subject) o (value m p.object)) (slot_past n m p.predicate l e) ∙ no_predicate (value m p.subject) (value m p.object)
triple_past n m p true true l d e h = ap (λ o. triple_from (value m p.subject) (value m p.predicate) o) (slot_past n m p.object l h) ∙ no_object (value m p.subject) (value m p.predicate)

and_none : (b : Bool) → (b && false) ≡ false
and_none true = refl
and_none false = refl

puts_past : (n : ℕ) (graph : Graph) (m : Solution) (triples : List TriplePattern) → length m ≡ n → all_below n triples ≡ false → puts_into graph triples m ≡ false
puts_past n graph m [] l h = let f : true ≡ false = h in cc
puts_past n graph m (p ∷ triples) l h = at (triple_below n p) refl (puts_past n graph m triples l) h
  where
    at : (b : Bool) → triple_below n p ≡ b → (all_below n triples ≡ false → puts_into graph triples m ≡ false) → (b && all_below n triples) ≡ false → (is_in graph (instance m p) && puts_into graph triples m) ≡ false
    at false e w k = rw (triple_past n m p (slot_below n p.subject) (slot_below n p.predicate) l refl refl e) refl
    at true e w k = rw (w k) (and_none (is_in graph (instance m p)))

none_counted : (P : Type 0) (b : Bool) (n : ℕ) → Once P n → (P → b ≡ false) → cond b n 0 ≡ 0
none_counted P b n (inl p) f = rw (f p.0) refl
none_counted P true n (inr p) f = p.1
none_counted P false n (inr p) f = refl

-- there are no solutions then
pub none_past : (n : ℕ) (triples : List TriplePattern) (graph : Graph) → all_below n triples ≡ false → SameBag [] (matches n triples graph)
none_past n triples graph h =
    same_from_times same_solution same_solution-Decides [] (matches n triples graph) (λ m.
    sym (times-filter same_solution same_solution-Decides (puts_into graph triples) m (all_maps (mentions triples) (terms_of graph) 0 n)
    ∙ none_counted (Fits (mentions triples) (terms_of graph) 0 n m) (puts_into graph triples m) _
    (maps_once (mentions triples) (terms_of graph) (once_distinct same_term same_term-Decides (flat_map terms_of_triple graph)) 0 n m)
    (λ f. puts_past n graph m triples (fits_wide (mentions triples) (terms_of graph) 0 n m f) h)))

-- A triple that disagrees with what a solution says already makes nothing of it.
use Rattle.std.proofs.Common.{◌≡◌, ◌≢◌, ℕ, Bool, true, false, ◌&&◌, Option, Some, None, [], ◌∷◌, ◌++◌, cond, option_to_list, if◌then◌else◌, refl, sym, ◌∙◌, ap, subst}
use Rattle.std.specs.List.{Contains, filter}
use Rattle.std.proofs.Math.ListN.{set}
use Rattle.std.proofs.lemmas.List.{get_or-set_other}
use Rattle.qs_terms.specs.declared.term.Term.{Term}
use Rattle.qs_terms.specs.Dataset.{Triple}
use Rattle.qs_terms.specs.Term.{same_term}
use Rattle.qs_store.proofs.Members.{here, there}
use Rattle.qs_algebra_solutions.specs.Solution.{Solution, term_at, compatible_terms}
use Rattle.qs_algebra_patterns.specs.declared.pattern.Slot.{Slot}
use Rattle.qs_algebra_patterns.specs.declared.pattern.Slot.TheVariants as slot
use Rattle.qs_algebra_patterns.specs.declared.pattern.TriplePattern.{TriplePattern}
use Rattle.qs_algebra_patterns.specs.Basic.{Graph, value}
use Rattle.qs_plan_meaning.specs.inner.Scans.{bound_at, bound_slot, then_bound, bound_triple, extensions}

-- the slot's term, or its variable's where that is bound, is this one
abbrev pub agrees : Solution → Slot → Term → Bool
agrees m s t = compatible_terms (value m s) (Some t)

-- each slot agrees with the triple, as far as the solution says already
abbrev pub may_match : Solution → TriplePattern → Triple → Bool
may_match m p t = agrees m p.subject t.subject && (agrees m p.predicate t.predicate && agrees m p.object t.object)

pub at_none : (c : Option Term) (v : ℕ) (t : Term) (m : Solution) → compatible_terms c (Some t) ≡ false → bound_at c v t m ≡ None
at_none None v t m h = let f : true ≡ false = h in cc
at_none (Some x) v t m h = rw h refl

none_at : (s : Slot) (t : Term) (m : Solution) → agrees m s t ≡ false → bound_slot s t m ≡ None
none_at (slot.Term c) t m h = rw h refl
none_at (slot.Variable v) t m h = at_none (term_at m v) v t m h

test_same : (b : Bool) (m a : Solution) → (if b then Some m else None) ≡ Some a → m ≡ a
test_same true m a h = cc
test_same false m a h = let f : None ≡ Some a = h in cc

pub kept_at : (c : Option Term) (v : ℕ) (t : Term) (m a : Solution) (w : ℕ) (x : Term) → term_at m v ≡ c → bound_at c v t m ≡ Some a → term_at m w ≡ Some x → term_at a w ≡ Some x
kept_at None v t m a w x e h is =
    let f : set m v (Some t) ≡ a = cc in
    let ne : w ≢ v = λ k. (let g : term_at m w ≡ term_at m v = ap (term_at m) k in let n : None ≡ Some x = sym e ∙ (sym g ∙ is) in cc) in
    subst (λ (r : Solution). term_at r w ≡ Some x) f (get_or-set_other m v w (Some t) None ne ∙ is)
kept_at (Some y) v t m a w x e h is = subst (λ (r : Solution). term_at r w ≡ Some x) (test_same (same_term y t) m a h) is

-- a binding stays
kept : (s : Slot) (t : Term) (m a : Solution) (w : ℕ) (x : Term) → bound_slot s t m ≡ Some a → term_at m w ≡ Some x → term_at a w ≡ Some x
kept (slot.Term c) t m a w x h is = subst (λ (r : Solution). term_at r w ≡ Some x) (test_same (same_term c t) m a h) is
kept (slot.Variable v) t m a w x h is = kept_at (term_at m v) v t m a w x refl h is

later_at : (c : Option Term) (s : Slot) (t u : Term) (m a : Solution) (w : ℕ) → term_at m w ≡ c → bound_slot s t m ≡ Some a → compatible_terms c (Some u) ≡ false → compatible_terms (term_at a w) (Some u) ≡ false
later_at None s t u m a w e h d = let f : true ≡ false = d in cc
later_at (Some x) s t u m a w e h d = subst (λ (k : Option Term). compatible_terms k (Some u) ≡ false) (sym (kept s t m a w x h e)) d

-- and so does a disagreement
later : (r s : Slot) (t u : Term) (m a : Solution) → bound_slot s t m ≡ Some a → agrees m r u ≡ false → agrees a r u ≡ false
later (slot.Term c) s t u m a h d = d
later (slot.Variable w) s t u m a h d = later_at (term_at m w) s t u m a w refl h d

object_none : (p : TriplePattern) (t : Triple) (a : Solution) (o : Option Solution) → bound_slot p.predicate t.predicate a ≡ o → agrees a p.object t.object ≡ false → then_bound o (λ b. bound_slot p.object t.object b) ≡ None
object_none p t a None e h = refl
object_none p t a (Some b) e h = none_at p.object t.object b (later p.object p.predicate t.predicate t.object a b e h)

rest_none : (p : TriplePattern) (t : Triple) (m : Solution) (o : Option Solution) (c : Bool) → bound_slot p.subject t.subject m ≡ o → agrees m p.predicate t.predicate ≡ c → (c && agrees m p.object t.object) ≡ false
    → then_bound o (λ a. then_bound (bound_slot p.predicate t.predicate a) (λ b. bound_slot p.object t.object b)) ≡ None
rest_none p t m None c e d h = refl
rest_none p t m (Some a) false e d h =
    ap (λ o. then_bound o (λ b. bound_slot p.object t.object b)) (none_at p.predicate t.predicate a (later p.predicate p.subject t.subject t.predicate m a e d))
rest_none p t m (Some a) true e d h =
    object_none p t a (bound_slot p.predicate t.predicate a) refl (later p.object p.subject t.subject t.object m a e h)

first_none : (p : TriplePattern) (t : Triple) (m : Solution) (c : Bool) → agrees m p.subject t.subject ≡ c → (c && (agrees m p.predicate t.predicate && agrees m p.object t.object)) ≡ false → bound_triple p t m ≡ None
first_none p t m false d h =
    ap (λ o. then_bound o (λ a. then_bound (bound_slot p.predicate t.predicate a) (λ b. bound_slot p.object t.object b))) (none_at p.subject t.subject m d)
first_none p t m true d h = rest_none p t m (bound_slot p.subject t.subject m) (agrees m p.predicate t.predicate) refl refl h

pub cannot_match : (p : TriplePattern) (t : Triple) (m : Solution) → may_match m p t ≡ false → bound_triple p t m ≡ None
cannot_match p t m h = first_none p t m (agrees m p.subject t.subject) refl h

-- ---- over a graph

pub first_false : (a b : Bool) → a ≡ false → (a && b) ≡ false
first_false a b h = rw h refl

pub second_false : (a b : Bool) → b ≡ false → (a && b) ≡ false
second_false true b h = h
second_false false b h = refl

-- where no triple agrees, nothing is made
pub none_of : (p : TriplePattern) (m : Solution) (ts : Graph) → ((t : Triple) → Contains ts t → may_match m p t ≡ false) → extensions p ts m ≡ []
none_of p m [] h = refl
none_of p m (t ∷ ts) h = rw (cannot_match p t m (h t (here t ts))) (none_of p m ts (λ u k. h u (there t u ts k)))

-- what disagrees makes nothing
pub filtered : (p : TriplePattern) (graph : Graph) (m : Solution) → extensions p graph m ≡ extensions p (filter (may_match m p) graph) m
filtered p [] m = refl
filtered p (t ∷ graph) m = at (may_match m p t) refl (filtered p graph m)
  where
    at : (b : Bool) → may_match m p t ≡ b → extensions p graph m ≡ extensions p (filter (may_match m p) graph) m → option_to_list (bound_triple p t m) ++ extensions p graph m ≡ extensions p (cond b (t ∷ filter (may_match m p) graph) (filter (may_match m p) graph)) m
    at true e i = ap (λ l. option_to_list (bound_triple p t m) ++ l) i
    at false e i = rw (cannot_match p t m e) i

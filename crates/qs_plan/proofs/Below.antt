-- Variables with numbers below a bound.
use Rattle.std.proofs.Common.{◌≡◌, ℕ, ◌<◌, true, ◌&&◌, List, [], ◌∷◌}
use Rattle.std.proofs.lemmas.Bool.Decides.{Decides-ltb}
use Rattle.qs_algebra_patterns.specs.declared.pattern.Slot.{Slot}
use Rattle.qs_algebra_patterns.specs.declared.pattern.Slot.TheVariants as slot
use Rattle.qs_algebra_patterns.specs.declared.pattern.TriplePattern.{TriplePattern}
use Rattle.qs_plan.specs.inner.Below.{slot_below, triple_below, all_below}
use Rattle.qs_plan.proofs.AndOr.{and_left, and_right}

abbrev pub SlotBelow : ℕ → Slot → Type 0
SlotBelow n (slot.Term t) = Unit {0}
SlotBelow n (slot.Variable v) = v < n

abbrev pub TripleBelow : ℕ → TriplePattern → Type 0
TripleBelow n p = SlotBelow n p.subject × (SlotBelow n p.predicate × SlotBelow n p.object)

abbrev pub AllBelow : ℕ → List TriplePattern → Type 0
AllBelow n [] = Unit {0}
AllBelow n (p ∷ triples) = TripleBelow n p × AllBelow n triples

slot_fits : (n : ℕ) (s : Slot) → slot_below n s ≡ true → SlotBelow n s
slot_fits n (slot.Term t) h = tt
slot_fits n (slot.Variable v) h = (Decides-ltb v n).0 h

triple_fits : (n : ℕ) (p : TriplePattern) → triple_below n p ≡ true → TripleBelow n p
triple_fits n p h =
    let b = and_right (slot_below n p.subject) (slot_below n p.predicate && slot_below n p.object) h in (
      slot_fits n p.subject (and_left (slot_below n p.subject) (slot_below n p.predicate && slot_below n p.object) h),
      (
        slot_fits n p.predicate (and_left (slot_below n p.predicate) (slot_below n p.object) b),
        slot_fits n p.object (and_right (slot_below n p.predicate) (slot_below n p.object) b),
      ),
    )

-- the test finds it
pub all_fit : (n : ℕ) (triples : List TriplePattern) → all_below n triples ≡ true → AllBelow n triples
all_fit n [] h = tt
all_fit n (p ∷ triples) h =
    (triple_fits n p (and_left (triple_below n p) (all_below n triples) h), all_fit n triples (and_right (triple_below n p) (all_below n triples) h))

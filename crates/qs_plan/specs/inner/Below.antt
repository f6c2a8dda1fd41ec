-- Whether the variables of triple patterns have numbers below a bound.
use Rattle.std.specs.Prelude.{ℕ, Bool, true, ◌&&◌, List, nat_lt}
use Rattle.std.specs.List.{list_all}
use Rattle.qs_algebra_patterns.specs.declared.pattern.Slot.{Slot}
use Rattle.qs_algebra_patterns.specs.declared.pattern.Slot.TheVariants as slot
use Rattle.qs_algebra_patterns.specs.declared.pattern.TriplePattern.{TriplePattern}

abbrev pub slot_below : ℕ → Slot → Bool
slot_below n (slot.Term t) = true
slot_below n (slot.Variable v) = nat_lt v n

abbrev pub triple_below : ℕ → TriplePattern → Bool
triple_below n p = slot_below n p.subject && (slot_below n p.predicate && slot_below n p.object)

abbrev pub all_below : ℕ → List TriplePattern → Bool
all_below n triples = list_all (triple_below n) triples

-- Where the variables of a basic graph pattern stand in the rows of a plan: named ones at their
-- numbers, hidden ones from `from` on. One past the last gets a number past all rows, and is bound
-- nowhere.
use Rattle.std.specs.Prelude.{ℕ, ◌+◌, ◌-◌, nat_lt, List, map, if◌then◌else◌}
use Rattle.qs_algebra_patterns.specs.declared.pattern.Slot.{Slot}
use Rattle.qs_algebra_patterns.specs.declared.pattern.Slot.TheVariants as slot
use Rattle.qs_algebra_patterns.specs.declared.pattern.TriplePattern.{TriplePattern}
use Rattle.qs_algebra_patterns.specs.declared.pattern.PathPattern.{PathPattern}
use Rattle.qs_algebra_patterns.specs.Basic.{is_repeated}
use Rattle.qs_plan_meaning.specs.declared.stage.Look.{Look}
use Rattle.qs_plan_meaning.specs.declared.stage.Stage.{Stage}
use Rattle.qs_plan_meaning.specs.declared.stage.Stage.TheVariants as stage

-- more cells than a row has
abbrev pub past : ℕ
past = 18446744073709551614

abbrev pub number : ℕ → ℕ → ℕ → ℕ → ℕ → ℕ
number width hidden from none v =
    if nat_lt v width then v else (if nat_lt v (width + hidden) then from + (v - width) else none)

abbrev pub slot_of : ℕ → ℕ → ℕ → ℕ → Slot → Slot
slot_of width hidden from none (slot.Term t) = slot.Term t
slot_of width hidden from none (slot.Variable v) = slot.Variable (number width hidden from none v)

abbrev pub triple_of : ℕ → ℕ → ℕ → TriplePattern → TriplePattern
triple_of width hidden from p = record {
  subject = slot_of width hidden from past p.subject;
  predicate = slot_of width hidden from past p.predicate;
  object = slot_of width hidden from past p.object;
}

-- past the last the same variable gets the same number, and another one another
abbrev pub other_end : Slot → Slot → ℕ
other_end s o = if is_repeated s o then past else past + 1

abbrev pub path_of : ℕ → ℕ → ℕ → PathPattern → PathPattern
path_of width hidden from p = record {
  subject = slot_of width hidden from past p.subject;
  path = p.path;
  object = slot_of width hidden from (other_end p.subject p.object) p.object;
}

abbrev pub triple_stages : ℕ → ℕ → ℕ → Look → List TriplePattern → List Stage
triple_stages width hidden from place triples =
    map (λ p. stage.Triple place (triple_of width hidden from p)) triples

-- Flags as they are set: one more, or those of one triple more.
use Rattle.std.specs.Prelude.{ℕ, zero, suc, ◌+◌, Bool, true, false, List, [], ◌∷◌, slice_index_or}
use Rattle.std.specs.Prelude.{slice_set}
use Rattle.qs_algebra_patterns.specs.declared.pattern.Slot.{Slot}
use Rattle.qs_algebra_patterns.specs.declared.pattern.Slot.TheVariants as slot
use Rattle.qs_algebra_patterns.specs.declared.pattern.TriplePattern.{TriplePattern}
use Rattle.qs_algebra_patterns.specs.declared.pattern.PathPattern.{PathPattern}

-- the flag of a variable
abbrev pub flag_at : List Bool → ℕ → Bool
flag_at flags v = slice_index_or flags v false

-- the variable in the slot, if one of them stands there, is flagged too
abbrev pub with_slot : List Bool → Slot → List Bool
with_slot flags (slot.Term t) = flags
with_slot flags (slot.Variable v) = slice_set flags v true

-- the variables of a triple pattern are flagged too
abbrev pub with_triple : List Bool → TriplePattern → List Bool
with_triple flags p = with_slot (with_slot (with_slot flags p.subject) p.predicate) p.object

-- the variables at the ends of a path pattern are flagged too
abbrev pub with_ends : List Bool → PathPattern → List Bool
with_ends flags p = with_slot (with_slot flags p.subject) p.object

-- the answers at n numbers from v on
abbrev pub flags_from : (ℕ → Bool) → ℕ → ℕ → List Bool
flags_from f v zero = []
flags_from f v (suc n) = f v ∷ flags_from f (v + 1) n

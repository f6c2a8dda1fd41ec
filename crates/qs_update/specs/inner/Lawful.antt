-- Numbers of blank nodes after effects.
use Rattle.std.specs.Prelude.{◌≤◌, ℕ}
use Rattle.std.specs.Bool.{IsTrue}
use Rattle.qs_terms.specs.Dataset.{is_above_blanks}
use Rattle.qs_update.specs.declared.effect.Effect.{Effect}

-- the number after the effect is no less than the one before it, and above those of all blank nodes
-- of what is added
abbrev pub IsLawful : ℕ → Effect → Type 0
IsLawful next e = (next ≤ e.next) × IsTrue (is_above_blanks e.next e.added)

-- Definitions over those of `Places`, for proofs and the layers between.
use Rattle.std.specs.Prelude.{◌≡◌, ℕ, ◌≤◌, Bool, false, nat_lt, nat_le, List, length, take, drop}
use Rattle.std.specs.Prelude.{Option, Some, None}
use Rattle.qs_syntax_scope.specs.Names.{Name, contains}
use Rattle.qs_syntax_scope.specs.declared.name_list.Places.{Places}

-- whether the name with the places stands before this one
abbrev pub is_before : ℕ → Option Places → Bool
is_before place None = false
is_before place (Some places) = nat_lt places.first place

-- whether it stands there or later
abbrev pub is_from : ℕ → Option Places → Bool
is_from place None = false
is_from place (Some places) = nat_le place places.last

abbrev pub IsWithin : ℕ → Option Places → Type 0
IsWithin len None = Unit {0}
IsWithin len (Some places) = (places.first ≤ len) × (places.last ≤ len)

-- the places answer for the list
pub record IsIndex (names : List Name) (places : Name → Option Places) : Type 0 where
  pub before : (name : Name) (place : ℕ) → contains (take place names) name ≡ is_before place
      (places name)
  pub from : (name : Name) (place : ℕ) → contains (drop place names) name ≡ is_from place
      (places name)
  pub within : (name : Name) → IsWithin (length names) (places name)

-- the first place, with the name at the end too
abbrev pub first_with : ℕ → Option Places → ℕ
first_with len None = len
first_with len (Some places) = places.first

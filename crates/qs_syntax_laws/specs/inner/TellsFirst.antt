-- Of all faults of a text that have places, the first is told. By the law
-- `laws::first_fault_is_told` the fourth step of a text's outcome in `qs_syntax` tells it.
use Rattle.std.specs.Prelude.{◌≡◌, ◌⊎◌, ◌≤◌, ◌<◌, ℕ, List, [], Option, Some, None, Ok, Err}
use Rattle.std.specs.List.{AllByRecursion, Contains}
use Rattle.qs_terms.specs.Outcome.{Outcome}
use Rattle.qs_terms.specs.declared.fault.QFault.{QFault}
use Rattle.qs_terms.specs.declared.fault.QFault.TheVariants as fault

-- the place of a fault of a name
abbrev pub place_of : QFault → ℕ
place_of (fault.Prefix place) = place
place_of (fault.RelativeIri place) = place
place_of other = 0

-- the fault of a name is one of them; no other has a lesser place, nor has the limit that is passed
pub record IsNameFirst (names : List QFault) (limit : Option ℕ) (f : QFault) : Type 0 where
  pub is_one : Contains names f
  pub no_name : AllByRecursion (λ g. place_of f ≤ place_of g) names
  pub no_limit : (place : ℕ) → limit ≡ Some place → place_of f ≤ place

-- the limit is passed at the place, and each fault of a name has a greater one
pub record IsLimitFirst (names : List QFault) (limit : Option ℕ) (place : ℕ) : Type 0 where
  pub is_passed : limit ≡ Some place
  pub no_name : AllByRecursion (λ g. place < place_of g) names

-- what comes after names and limits: a meaning, or the fault of scope
abbrev pub IsBeyond : {A : Type 0} → Outcome A → Type 0
IsBeyond (Ok a) = Unit {0}
IsBeyond (Err f) = f ≡ fault.Scope

-- whichever is first is told, and at one place the name's; where there is none, neither is
abbrev pub TellsFirst : {A : Type 0} → List QFault → Option ℕ → Outcome A → Type 0
TellsFirst names limit outcome =
    ((f : QFault) × (outcome ≡ Err f) × IsNameFirst names limit f)
    ⊎ ((place : ℕ) × (outcome ≡ Err (fault.TooLarge place)) × IsLimitFirst names limit place)
    ⊎ ((names ≡ []) × (limit ≡ None) × IsBeyond outcome)

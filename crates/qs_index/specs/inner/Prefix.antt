-- Prefixes of entries: filled up with zeros, and the one that follows another.
use Rattle.std.specs.Prelude.{ℕ, ◌+◌, ◌-◌, ◌^◌, ◌<◌, ◌≤◌, ◌≡◌, ◌||◌, List, [], ◌∷◌, drop}
use Rattle.std.specs.Prelude.{slice_index_or}
use Rattle.qs_index.specs.inner.Entry.{is_before, begins}

abbrev pub AreZeros : List ℕ → Type 0
AreZeros [] = Unit {0}
AreZeros (x ∷ xs) = (x ≡ 0) × AreZeros xs

-- four numbers at most are given, and zeros follow them
pub record IsFilled (filled : List ℕ) (given : ℕ) : Type 0 where
  pub short : given ≤ 4
  pub zeros : AreZeros (drop given filled)

-- an entry is before `to` exactly where it is before `front` or begins with it
abbrev pub IsAfter : List ℕ → List ℕ → Type 0
IsAfter front to = (x : List ℕ) → is_before x to ≡ (is_before x front || begins front x)

-- the first `given` numbers are one to three, and the last of them isn't the greatest
pub record HasAfter (numbers : List ℕ) (given : ℕ) : Type 0 where
  pub some : 0 < given
  pub few : given < 4
  pub less : slice_index_or numbers (given - 1) 0 + 1 < 2 ^ 32

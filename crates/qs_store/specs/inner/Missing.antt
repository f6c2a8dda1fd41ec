-- Entries that a draft lacks unless it adds them.
use Rattle.std.specs.Prelude.{◌⊎◌, ℕ, ◌<◌, List, length}
use Rattle.std.specs.List.{Contains}
use Rattle.qs_index.specs.inner.Entry.{IsAscending}

-- the entries of a list, and those of another that are chosen
pub record IsUnionWith (old more : List (List ℕ)) (Chosen : List ℕ → Type 0)
    (new : List (List ℕ)) : Type 0 where
  pub ascending : IsAscending new
  pub has_old : (x : List ℕ) → Contains old x → Contains new x
  pub has_more : (x : List ℕ) → Contains more x → Chosen x → Contains new x
  pub only : (x : List ℕ) → Contains new x → Contains old x ⊎ (Contains more x × Chosen x)

-- an entry that a draft lacks unless it adds it: one that the store lacks, or one that is removed
abbrev pub IsMissing : List (List ℕ) → List (List ℕ) → List ℕ → Type 0
IsMissing index removed x = Contains index x → Contains removed x

-- an entry that a draft may lack once others are taken out of the store, too
abbrev pub MayBeMissing : List (List ℕ) → List (List ℕ) → List (List ℕ) → List ℕ → Type 0
MayBeMissing index removed taken x = (0 < length taken) ⊎ IsMissing index removed x

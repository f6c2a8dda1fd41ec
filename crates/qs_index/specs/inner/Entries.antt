-- Sets of entries, each seen as its ascending list, so that equal lists are equal sets.
use Rattle.std.specs.Prelude.{ℕ, ◌⊎◌, ◌≡◌, List, length}
use Rattle.std.specs.List.{Contains}
use Rattle.qs_index.specs.inner.Entry.{IsAscending}

-- an ascending list of entries, and how many inserts need no memory
pub record Entries : Type 0 where
  pub entries : List (List ℕ)
  pub spare : ℕ

-- the entries of two lists
pub record IsUnion (old added new : List (List ℕ)) : Type 0 where
  pub ascending : IsAscending new
  pub has_old : (x : List ℕ) → Contains old x → Contains new x
  pub has_added : (x : List ℕ) → Contains added x → Contains new x
  pub only : (x : List ℕ) → Contains new x → Contains old x ⊎ Contains added x

-- the entries of a list that another one lacks
pub record IsDifference (old removed new : List (List ℕ)) : Type 0 where
  pub ascending : IsAscending new
  pub kept : (x : List ℕ) → Contains old x → Contains new x ⊎ Contains removed x
  pub gone : (x : List ℕ) → Contains new x → ¬ Contains removed x
  pub only : (x : List ℕ) → Contains new x → Contains old x

-- each has four numbers
abbrev pub HaveFour : List (List ℕ) → Type 0
HaveFour entries = (x : List ℕ) → Contains entries x → length x ≡ 4

-- what holds of the entries of an order, and of their count
pub record IsOrdered (entries : List (List ℕ)) (count : ℕ) : Type 0 where
  pub ascending : IsAscending entries
  pub four : HaveFour entries
  pub counted : count ≡ length entries

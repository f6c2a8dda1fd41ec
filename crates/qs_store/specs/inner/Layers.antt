-- The entries of a store, and those that a draft of it adds and removes.
use Rattle.std.specs.Str.{bytes_eq}
use Rattle.std.specs.Prelude.{ℕ, ◌≤◌, List, ◌++◌, length, not}
use Rattle.std.specs.List.{Contains, filter, list_any}
use Rattle.qs_index.specs.inner.Entry.{IsAscending}
use Rattle.qs_index.specs.inner.Graph.{named_entries}
use Rattle.qs_index.specs.inner.Index.{IndexState}
use Rattle.qs_store.specs.inner.Emptied.{AreEmptied}

-- the entries of a store, and those that its draft would make of them
pub record LayersState : Type 0 where
  pub base : List (List ℕ)
  pub draft : List (List ℕ)

-- the entries of a draft: those of the store that aren't removed, and those added
abbrev pub drafted : List (List ℕ) → List (List ℕ) → List (List ℕ) → List (List ℕ)
drafted index removed added = filter (λ x. not (list_any (bytes_eq x) removed)) index ++ added

-- an entry is removed only where it stands, and added only where it doesn't stand or is removed
pub record IsDraft (index removed added : List (List ℕ)) : Type 0 where
  pub once : IsAscending index
  pub added_once : IsAscending added
  pub removed_once : IsAscending removed
  pub apart : (x : List ℕ) → Contains added x → Contains index x → Contains removed x
  pub taken : (x : List ℕ) → Contains removed x → Contains index x

-- there is room for a commit: for the added in all orders of the index, and for either list in one
-- of this length; of the emptied graphs all entries of the store are removed
pub record AreLayers (index removed added : IndexState) (emptied : List ℕ) (room : ℕ) : Type 0 where
  pub parted : IsDraft index.entries removed.entries added.entries
  pub out : AreEmptied index.entries removed.entries emptied
  pub spare : length added.entries ≤ index.spare
  pub named_spare : length (named_entries added.entries) ≤ index.named_spare
  pub removed_room : length removed.entries ≤ room
  pub added_room : length added.entries ≤ room

-- those of a list that stand in another, or those that don't
pub record IsPartOf (entries part : List (List ℕ)) (Chosen : List ℕ → Type 0) : Type 0 where
  pub has : (x : List ℕ) → Contains entries x → Chosen x → Contains part x
  pub only : (x : List ℕ) → Contains part x → Contains entries x × Chosen x
  pub short : length part ≤ length entries
  pub named_short : length (named_entries part) ≤ length (named_entries entries)

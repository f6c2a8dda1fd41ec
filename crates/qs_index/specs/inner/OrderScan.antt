-- What a scan over the pages of an order has still to hand out, and what holds of its fields.
use Rattle.std.specs.Prelude.{ℕ, ◌≡◌, ◌+◌, ◌<◌, ◌≤◌, List, [], ◌∷◌, true, length, slice_index_or}
use Rattle.std.specs.Prelude.{Option, Some, None}
use Rattle.qs_index.specs.inner.Layout.{joined, page_at, rest_at, HasPageSizes}
use Rattle.qs_index.specs.inner.Entries.{HaveFour}
use Rattle.qs_index.specs.inner.Entry.{is_before, run_of, IsAscending}
use Rattle.qs_index.specs.inner.Scan.{ScanState, most_looks}

-- what a scan that asks for a prefix hands out from a place on
abbrev pub left_from : List (List (List ℕ)) → List ℕ → ℕ → ℕ → List (List ℕ)
left_from pages prefix page at = run_of prefix (rest_at pages page at)

-- the scan that stands at a place of the pages and asks for a prefix, with its three counts
abbrev pub state_of : List (List (List ℕ)) → List ℕ → ℕ → ℕ → ℕ → ℕ → ℕ → ScanState
state_of pages prefix page at handed skips looked = record {
  rest = left_from pages prefix page at;
  handed = handed;
  skips = skips;
  looked = looked;
  size = length (joined pages);
}

-- how many entries were looked at and not yet handed out
abbrev pub waiting : Option (List ℕ) → ℕ
waiting None = 0
waiting (Some entry) = 1

-- an entry that is kept is the one at the place
abbrev pub IsHead : List (List (List ℕ)) → ℕ → ℕ → Option (List ℕ) → Type 0
IsHead pages page at None = Unit {0}
IsHead pages page at (Some entry) = entry ≡ slice_index_or (page_at pages page) at []

-- what holds of a scan's fields: its place is that of an entry or the end, each entry is handed out
-- once and each skip passes over one at least, and few were looked at beside those handed out
pub record IsSound
    (pages : List (List (List ℕ))) (prefix : List ℕ) (page at : ℕ) (head : Option (List ℕ))
    (handed skips looked : ℕ) : Type 0 where
  pub sizes : HasPageSizes pages
  pub ascending : IsAscending (joined pages)
  pub entries : HaveFour (joined pages)
  pub within : page < length pages → at < length (page_at pages page)
  pub head_is : IsHead pages page at head
  pub most : handed + skips + length (left_from pages prefix page at) ≤ length (joined pages)
  pub enough : handed + waiting head ≤ looked
  pub few : looked ≤ most_looks handed skips (length (joined pages))
  pub going :
      page < length pages
      → looked + 1 ≤ most_looks handed skips (length (joined pages)) + waiting head

-- the first of a list is before `to`, and there is one
abbrev pub StartsBefore : List ℕ → List (List ℕ) → Type 0
StartsBefore to [] = ⊥
StartsBefore to (x ∷ xs) = is_before x to ≡ true

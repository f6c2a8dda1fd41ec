-- How an order lies in pages, and for how many inserts the pages set aside suffice.
use Rattle.std.specs.Prelude.{min, max, ℕ, ◌+◌, ◌<◌, ◌≤◌, ◌≡◌, ◌-◌, ◌*◌, List, [], ◌∷◌, ◌++◌}
use Rattle.std.specs.Prelude.{length, drop, take, slice_index_or}
use Rattle.std.specs.List.{All}

-- an order: its pages, and how many pages are set aside
pub record Layout : Type 0 where
  pub pages : List (List (List ℕ))
  pub spare : ℕ

-- an order that is read: its pages, and how many entries were looked at
pub record Reading : Type 0 where
  pub pages : List (List (List ℕ))
  pub looked : ℕ

-- the entries of all pages, one page after another
abbrev pub joined : List (List (List ℕ)) → List (List ℕ)
joined [] = []
joined (page ∷ pages) = page ++ joined pages

abbrev pub page_at : List (List (List ℕ)) → ℕ → List (List ℕ)
page_at pages page = slice_index_or pages page []

-- the entries from a place on
abbrev pub rest_at : List (List (List ℕ)) → ℕ → ℕ → List (List ℕ)
rest_at pages page at = drop at (joined (drop page pages))

abbrev pub IsPageSize : List (List ℕ) → Type 0
IsPageSize page = (0 < length page) × (length page ≤ 256)

-- the entry is the last of the list, where it has one
abbrev pub IsLastOf : List (List ℕ) → List ℕ → Type 0
IsLastOf entries last = 0 < length entries → last ≡ slice_index_or entries (length entries - 1) []

-- what holds of the list of a page, its room, and the last entry that is kept beside it
pub record IsPage (entries : List (List ℕ)) (capacity : ℕ) (end : List ℕ) : Type 0 where
  pub most : length entries ≤ 256
  pub room : 256 ≤ capacity
  pub last : IsLastOf entries end

-- each page has 1 to 256 entries
abbrev pub HasPageSizes : List (List (List ℕ)) → Type 0
HasPageSizes pages = All IsPageSize pages

-- the entries are those of a page, if there is one of that number
abbrev pub IsOpenAt : List (List (List ℕ)) → ℕ → List (List ℕ) → Type 0
IsOpenAt pages page entries = page < length pages → entries ≡ page_at pages page

-- the pages with page m in two halves
abbrev pub split_at : List (List (List ℕ)) → ℕ → List (List (List ℕ))
split_at pages m =
    take m pages ++ take 128 (page_at pages m) ∷ drop 128 (page_at pages m) ∷ drop (m + 1) pages

-- how many entries the pages have above their halves
abbrev pub over : List (List (List ℕ)) → ℕ
over [] = 0
over (page ∷ pages) = (length page - 128) + over pages

-- what holds of the pages in use, those set aside, the room of the two lists, and the count of
-- entries above the halves: a page that changes sides finds room
pub record IsInOrder (pages spares : List (List (List ℕ))) (room spare_room above_half : ℕ) : Type
    0 where
  pub sizes : HasPageSizes pages
  pub empty : All (λ page. page ≡ []) spares
  pub room_in_use : length pages + length spares ≤ room
  pub room_aside : length pages + length spares ≤ spare_room
  pub above : above_half ≡ over pages

-- an order with no page yet needs one page more
abbrev pub first_page : List (List (List ℕ)) → ℕ
first_page [] = 128
first_page (page ∷ pages) = 0

-- how many inserts the pages set aside suffice for: an insert takes one at most, and one that takes
-- a page splits a full one in halves
abbrev pub room_of : List (List (List ℕ)) → ℕ → ℕ
room_of pages spare = max spare (128 * spare - (over pages + first_page pages))

-- the same, where the first of the inserts finds a page that isn't full
abbrev pub open_room_of : List (List (List ℕ)) → ℕ → ℕ
open_room_of pages spare = max (spare + 1) (128 * spare - (over pages + first_page pages))

-- how much of the room the pages have used up, where all but the last are full, and what the last
-- one has room for below its half
abbrev pub used_of : List (List (List ℕ)) → ℕ
used_of pages =
    128 * length pages + over pages + min 128 (length (page_at pages (length pages - 1)))

-- how many entries the pages would have, were all but the last full
abbrev pub filled_of : List (List (List ℕ)) → ℕ
filled_of pages = 256 * (length pages - 1) + length (page_at pages (length pages - 1))

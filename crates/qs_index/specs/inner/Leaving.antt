-- Entries that leave a page together.
use Rattle.std.specs.Prelude.{ℕ, ◌+◌, List, [], ◌∷◌, ◌++◌, take, drop, if◌then◌else◌, slice_set}
use Rattle.std.specs.List.{remove}
use Rattle.std.specs.Str.{bytes_eq}

-- how many entries of a list, from its first on, are met by those of a page, which are gone through
-- once
abbrev pub met : List (List ℕ) → List (List ℕ) → ℕ
met [] entries = 0
met (x ∷ page) [] = 0
met (x ∷ page) (e ∷ entries) = if bytes_eq x e then met page entries + 1 else met page (e ∷ entries)

-- the page without those
abbrev pub unmet : List (List ℕ) → List (List ℕ) → List (List ℕ)
unmet [] entries = []
unmet (x ∷ page) [] = x ∷ page
unmet (x ∷ page) (e ∷ entries) =
    if bytes_eq x e then unmet page entries else (x ∷ unmet page (e ∷ entries))

-- the same from a place on
abbrev pub left_from : ℕ → List (List ℕ) → List (List ℕ) → List (List ℕ)
left_from at page entries = take at page ++ unmet (drop at page) entries

-- the pages with another page m, or without it where nothing is left of it
abbrev pub with_page : List (List (List ℕ)) → ℕ → List (List ℕ) → List (List (List ℕ))
with_page pages m [] = remove pages m
with_page pages m (x ∷ page) = slice_set pages m (x ∷ page)

-- how many pages are set aside then
abbrev pub with_spare : ℕ → List (List ℕ) → ℕ
with_spare spare [] = spare + 1
with_spare spare (x ∷ page) = spare

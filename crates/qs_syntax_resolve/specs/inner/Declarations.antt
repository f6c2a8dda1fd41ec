-- The declarations of prefixes, as they are kept.
use Rattle.std.specs.Prelude.{◌≡◌, ◌<◌, ℕ, List, length, map, reverse, slice_get}
use Rattle.std.specs.Prelude.{Option, Some, None, option_map}
use Rattle.std.specs.Map.{lookup}
use Rattle.std.specs.Str.{bytes_eq}
use denote.Ref.{Bor}

-- what contracts see of pieces of the text and what is kept for each
abbrev pub pairs : {X : Type 0} → List (Bor (List ℕ) × X) → List (List ℕ × X)
pairs kept = map (λ d. (d.0.now, d.1)) kept

abbrev pub last_first : List (Bor (List ℕ) × List ℕ) → List (List ℕ × List ℕ)
last_first all = reverse (pairs all)

-- the place that the entries of an index give a prefix
abbrev pub place_of : List (Bor (List ℕ) × ℕ) → List ℕ → Option ℕ
place_of entries prefix = lookup (bytes_eq prefix) (pairs entries)

-- the place is that of the last declaration of the prefix
abbrev pub IsLast : List (Bor (List ℕ) × List ℕ) → List ℕ → Option ℕ → Type 0
IsLast all prefix None = lookup (bytes_eq prefix) (last_first all) ≡ None
IsLast all prefix (Some at) = (at < length all)
    × (lookup (bytes_eq prefix) (last_first all) ≡ option_map (λ d. d.1) (slice_get all at))

abbrev pub IsIndex : List (Bor (List ℕ) × List ℕ) → List (Bor (List ℕ) × ℕ) → Type 0
IsIndex all entries = (prefix : List ℕ) → IsLast all prefix (place_of entries prefix)

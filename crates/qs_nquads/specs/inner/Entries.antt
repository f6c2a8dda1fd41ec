-- Entries of a map from labels to numbers, as contracts see them.
use Rattle.std.specs.Prelude.{◌≡◌, ◌<◌, ℕ, nat_lt, List, [], ◌∷◌, Option, map, if◌then◌else◌}
use Rattle.std.specs.List.{All}
use Rattle.std.specs.Map.{lookup, values_of}
use Rattle.std.specs.Str.{bytes_eq}

-- each label as its bytes
abbrev pub seen : {K : Type 0} → (K → List ℕ) → List (K × ℕ) → List (List ℕ × ℕ)
seen bytes es = map (λ e. (bytes e.0, e.1)) es

-- one entry more, before the first that has a larger number
abbrev pub put_by_number : List ℕ × ℕ → List (List ℕ × ℕ) → List (List ℕ × ℕ)
put_by_number e [] = e ∷ []
put_by_number e (x ∷ xs) = if nat_lt e.1 x.1 then (e ∷ x ∷ xs) else (x ∷ put_by_number e xs)

-- the entries in the order of their numbers
abbrev pub by_number : List (List ℕ × ℕ) → List (List ℕ × ℕ)
by_number [] = []
by_number (e ∷ es) = put_by_number e (by_number es)

-- a map finds what is found among the entries
abbrev pub FindsAmong : (List ℕ → Option ℕ) → List (List ℕ × ℕ) → Type 0
FindsAmong get es = (label : List ℕ) → get label ≡ lookup (bytes_eq label) es

-- the numbers are below another
abbrev pub AreBelow : ℕ → List (List ℕ × ℕ) → Type 0
AreBelow n es = All (λ k. k < n) (values_of es)

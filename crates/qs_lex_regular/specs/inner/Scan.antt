-- How a scan from left to right holds the longest front so far.
use Rattle.std.specs.Prelude.{ℕ, ◌+◌, Option, Some, None}

-- what is found, with a class that ends at len
abbrev pub hold : {K : Type 0} → Option K → ℕ → Option (K × ℕ) → Option (K × ℕ)
hold None len found = found
hold (Some k) len found = Some (k, len)

-- what is found, with a class that ends after len
abbrev pub later : {K : Type 0} → Option (K × ℕ) → ℕ → Option (K × ℕ) → Option (K × ℕ)
later None len found = found
later (Some t) len found = Some (t.0, len + t.1)

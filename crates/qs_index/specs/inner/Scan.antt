-- Scans, as their callers see them. A look is an entry that is compared or handed out.
use Rattle.std.specs.Prelude.{ℕ, List, Option, ◌≡◌, ◌+◌, ◌*◌, ◌≤◌}
use Rattle.std.specs.Iterator.{YieldsFirst}
use Rattle.std.specs.Option.{MatchOption}
use Rattle.qs_index.specs.inner.Digits.{digits}

-- a scan: what it has still to hand out, how many entries it has handed out, how many of its
-- searches skipped some, how many looks it has made, and how many entries there are
pub record ScanState : Type 0 where
  pub rest : List (List ℕ)
  pub handed : ℕ
  pub skips : ℕ
  pub looked : ℕ
  pub size : ℕ

-- the most looks of a scan. Each entry that it handed out has one. Its start has two for each
-- binary digit of the number of entries, and two. Each skip has two for each digit, and one
abbrev pub most_looks : ℕ → ℕ → ℕ → ℕ
most_looks handed skips size =
    handed + skips * (2 * digits size + 1) + 2 * digits size + 2

-- one step of a scan: it hands out the first of what is left, or nothing where nothing is left. It
-- counts what it hands out, and no look is forgotten
abbrev pub NextOfScan : ScanState → Option (List ℕ) → ScanState → Type 0
NextOfScan s r t =
    YieldsFirst (λ u. u.rest) s r t
    × MatchOption r (t.handed ≡ s.handed) (λ _. t.handed ≡ s.handed + 1)
    × (t.skips ≡ s.skips) × (t.size ≡ s.size)
    × (s.looked ≤ t.looked)

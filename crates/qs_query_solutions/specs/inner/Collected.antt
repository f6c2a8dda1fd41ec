-- Rows that a search collects.
use Rattle.std.specs.Prelude.{◌≡◌, ◌⊎◌, ◌≤◌, ◌-◌, ℕ, true, List, [], ◌∷◌, ◌++◌, length, Option}
use Rattle.std.specs.Prelude.{Some, None}
use Rattle.std.specs.List.{fold}
use Rattle.qs_terms.specs.Bag.{SameBag}
use Rattle.qs_algebra_solutions.specs.Solution.{Solution, projected}
use Rattle.qs_algebra_solutions.specs.inner.Some.{is_enough}

-- the rows so far; the columns whose terms alone are kept, where some are given; and how many
-- suffice
pub record Collection : Type 0 where
  pub rows : List Solution
  pub columns : Option (List ℕ)
  pub most : Option ℕ

-- one row more
abbrev pub with_row : Option (List ℕ) → List Solution → Solution → List Solution
with_row None rows m = rows ++ m ∷ []
with_row (Some columns) rows m = rows ++ projected columns m ∷ []

-- some rows more, one after another
abbrev pub with_rows : Collection → List Solution → Collection
with_rows c ms =
    record { rows = fold (with_row c.columns) c.rows ms; columns = c.columns; most = c.most }

abbrev pub nothing : Option (List ℕ) → Option ℕ → Collection
nothing columns most = record { rows = []; columns = columns; most = most }

-- some of all solutions were put to the rows, and those that are left weren't yet
abbrev pub IsPart : Collection → List Solution → Collection → List Solution → Type 0
IsPart old all new left =
    (some : List Solution) × SameBag all (some ++ left) × (new ≡ with_rows old some)

-- some of all solutions were put to the rows: all, unless the rows suffice
abbrev pub Collects : Collection → Collection → List Solution → Type 0
Collects old new all =
    (some rest : List Solution) × SameBag all (some ++ rest) × (new ≡ with_rows old some)
    × ((rest ≡ []) ⊎ (is_enough new.most (length new.rows) ≡ true))

-- how many more suffice after so many
abbrev pub most_left : Option ℕ → ℕ → Option ℕ
most_left None offset = None
most_left (Some most) offset = Some (most - offset)

-- so many of all solutions are passed over, or all where these are fewer, and the others are left
abbrev pub IsPassed : ℕ → List Solution → List Solution → List Solution → Type 0
IsPassed count all passed left =
    SameBag all (passed ++ left)
    × ((length passed ≡ count) ⊎ ((left ≡ []) × (length passed ≤ count)))

-- so many are passed over, and some of the others were put to the rows
abbrev pub CollectsAfter : ℕ → Collection → Collection → List Solution → Type 0
CollectsAfter count old new all =
    (passed left : List Solution) × IsPassed count all passed left × Collects old new left

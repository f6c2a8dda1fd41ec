-- An evaluation as its caller sees it. At its start the solutions that are still to come are the
-- bag of the plan's list.
use Rattle.std.specs.Prelude.{◌≡◌, ℕ, Bool, true, false, List, [], ◌∷◌, ◌++◌, Option, Some, None}
use Rattle.std.specs.List.{AllByRecursion}
use Rattle.qs_terms.specs.Bag.{SameBag}
use Rattle.qs_terms.specs.declared.term.Term.{Term}
use Rattle.qs_algebra_solutions.specs.Solution.{Solution, projected}
use Rattle.qs_expr.specs.inner.Cell.{Cells, row_solution}

-- the solutions that are still to come, none after an error; whether the end was reached, after
-- which each answer is that none is left; the terms of the dictionary; and those of the scratch
-- table
pub record Stream : Type 0 where
  pub rows : Option (List Solution)
  pub is_over : Bool
  pub known : List Term
  pub table : List Term

-- these solutions are still to come, in some order
abbrev pub AreToCome : List Solution → Option (List Solution) → Type 0
AreToCome xs None = ⊥
AreToCome xs (Some ys) = SameBag ys xs

-- the solution that a row denotes, if there is one
abbrev pub solution_if : List Term → List Term → Option Cells → Option Solution
solution_if known table None = None
solution_if known table (Some m) = Some (row_solution known table m)

-- the answer is one of the solutions that were to come, and the others are left; it is none where
-- none was left
abbrev pub GivesOne : Option (List Solution) → Option Solution → Option (List Solution) → Type 0
GivesOne None o new = ⊥
GivesOne (Some xs) o None = ⊥
GivesOne (Some xs) None (Some ys) = (xs ≡ []) × (ys ≡ [])
GivesOne (Some xs) (Some m) (Some ys) = SameBag xs (m ∷ ys)

-- some of the solutions that were to come are left; each of the others has the terms of m at these
-- variables
abbrev pub PassesAlike : List ℕ → Solution → Option (List Solution) → Option (List Solution)
    → Type 0
PassesAlike columns m None None = Unit {0}
PassesAlike columns m None (Some ys) = ⊥
PassesAlike columns m (Some xs) None = ⊥
PassesAlike columns m (Some xs) (Some ys) =
    (passed : List Solution) × SameBag xs (passed ++ ys)
    × AllByRecursion (λ n. projected columns n ≡ projected columns m) passed

-- none after an error
abbrev pub rows_unless : Bool → List Solution → Option (List Solution)
rows_unless true xs = None
rows_unless false xs = Some xs

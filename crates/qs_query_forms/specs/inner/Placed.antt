-- Conditions over the rows of some columns.
use Rattle.std.specs.Prelude.{◌≡◌, List, [], ◌∷◌, ℕ}
use Rattle.qs_algebra_solutions.specs.Solution.{Solution, projected}
use Rattle.qs_query_order.specs.Order.{key}
use Rattle.qs_query_order.specs.declared.condition.OrderCondition.{OrderCondition}

-- a row is the solution that it denotes
abbrev pub itself : Solution → Solution
itself m = m

-- of the terms of the columns the one condition says what the other says of a solution
pub record IsPlaced (columns : List ℕ) (condition placed : OrderCondition) : Type 0 where
  pub direction : placed.direction ≡ condition.direction
  pub key_is : (m : Solution) → key placed (projected columns m) ≡ key condition m

abbrev pub ArePlaced : List ℕ → List OrderCondition → List OrderCondition → Type 0
ArePlaced columns [] [] = Unit {0}
ArePlaced columns (c ∷ cs) [] = ⊥
ArePlaced columns [] (d ∷ ds) = ⊥
ArePlaced columns (c ∷ cs) (d ∷ ds) = IsPlaced columns c d × ArePlaced columns cs ds

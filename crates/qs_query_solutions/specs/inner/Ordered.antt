-- A part of the solutions of a pattern in an order.
use Rattle.std.specs.Prelude.{◌≡◌, ℕ, List, drop, map, Option}
use Rattle.qs_algebra_solutions.specs.Solution.{Solution}
use Rattle.qs_algebra_solutions.specs.inner.Some.{AreSome}
use Rattle.qs_query_order.specs.inner.Order.{AreFirstIf}
use Rattle.qs_query_order.specs.declared.condition.OrderCondition.{OrderCondition}
use Rattle.qs_query_solutions.specs.inner.After.{projected_if}

-- the rows are the terms of these variables, or all, in the first of some solutions in order, after
-- the first `offset` of these (SPARQL 1.1 Query, 18.5: OrderBy, Project and Slice)
abbrev pub IsOrderedPart : List OrderCondition → Option (List ℕ) → ℕ → Option ℕ → Option ℕ
    → List Solution → List Solution → Type 0
IsOrderedPart conditions columns offset count most rows all =
    (some first : List Solution) × AreSome most some all × AreFirstIf conditions count some first
    × (rows ≡ map (projected_if columns) (drop offset first))

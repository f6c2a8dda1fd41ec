-- Definitions over those of `Order`, for proofs and the layers between.
use Rattle.std.specs.Prelude.{◌≡◌, ℕ, List, take, Option, Some, None}
use Rattle.std.specs.declared.cmp.Ordering.{Ordering}
use Rattle.qs_terms.specs.Bag.{SameBag}
use Rattle.qs_algebra_solutions.specs.Solution.{Solution}
use Rattle.qs_query_order.specs.declared.condition.OrderCondition.{OrderCondition}
use Rattle.qs_query_order.specs.Order.{directed, key, IsOrdered}

abbrev pub compare_by : OrderCondition → Solution → Solution → Ordering
compare_by c a b = directed c.direction (key c a) (key c b)

-- the first n of the solutions in such an order, or all where they are fewer
abbrev pub AreFirst : List OrderCondition → List Solution → ℕ → List Solution → Type 0
AreFirst conditions solutions n first = (all : List Solution) × SameBag all solutions
    × IsOrdered conditions all × (first ≡ take n all)

-- all in such an order, or the first of it where so many are asked for
abbrev pub AreFirstIf : List OrderCondition → Option ℕ → List Solution → List Solution → Type 0
AreFirstIf conditions None solutions first = SameBag first solutions × IsOrdered conditions first
AreFirstIf conditions (Some n) solutions first = AreFirst conditions solutions n first

-- The order of solutions by the conditions of ORDER BY (SPARQL 1.1 Query, 15.1 and 18.5: OrderBy).
use Rattle.std.specs.Prelude.{◌≡◌, ◌<◌, ℕ, false, List, [], ◌∷◌, length, slice_index_or}
use Rattle.std.specs.declared.cmp.Ordering.{Ordering}
use Rattle.std.specs.declared.cmp.Ordering.TheVariants.{Equal}
use Rattle.std.specs.Ordering.{is_lt, ordering_then}
use Rattle.qs_syntax_tree.specs.declared.query.Direction.{Direction}
use Rattle.qs_syntax_tree.specs.declared.query.Direction.TheVariants.{Ascending, Descending}
use Rattle.qs_algebra_solutions.specs.Solution.{Solution}
use Rattle.qs_expr_values.specs.Sorting.{key_of, compare_keys}
use Rattle.qs_expr_values.specs.declared.key.Key.{Key}
use Rattle.qs_expr_meaning.specs.Meaning.{meaning}
use Rattle.qs_query_order.specs.declared.condition.OrderCondition.{OrderCondition}

-- DESC turns the order round
abbrev pub directed : Direction → Key → Key → Ordering
directed Ascending x y = compare_keys x y
directed Descending x y = compare_keys y x

-- what a solution is sorted by; an unbound variable and an error have the lowest key
abbrev pub key : OrderCondition → Solution → Key
key c m = key_of (meaning m c.key)

-- by the first condition that tells them apart
abbrev pub compare : List OrderCondition → Solution → Solution → Ordering
compare [] a b = Equal
compare (c ∷ cs) a b = ordering_then (directed c.direction (key c a) (key c b)) (compare cs a b)

-- no solution stands before a lower one; ties stand in any order
abbrev pub IsOrdered : List OrderCondition → List Solution → Type 0
IsOrdered conditions ms =
    (i j : ℕ) (d : Solution) → i < j → j < length ms
    → is_lt (compare conditions (slice_index_or ms j d) (slice_index_or ms i d)) ≡ false

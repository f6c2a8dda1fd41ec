-- The keys of solutions, computed once.
use Rattle.std.specs.Prelude.{List, [], ◌∷◌, map}
use Rattle.std.specs.declared.cmp.Ordering.{Ordering}
use Rattle.std.specs.declared.cmp.Ordering.TheVariants.{Equal}
use Rattle.std.specs.Ordering.{ordering_then}
use Rattle.qs_algebra_solutions.specs.Solution.{Solution}
use Rattle.qs_expr_values.specs.declared.key.Key.{Key}
use Rattle.qs_expr_values.specs.declared.key.Key.TheVariants.{Unbound}
use Rattle.qs_query_order.specs.Order.{key, directed}
use Rattle.qs_query_order.specs.declared.condition.OrderCondition.{OrderCondition}

-- one for each condition
abbrev pub keys_of : List OrderCondition → Solution → List Key
keys_of conditions m = map (λ c. key c m) conditions

abbrev pub first_key : List Key → Key
first_key [] = Unbound
first_key (k ∷ ks) = k

abbrev pub behind_first : List Key → List Key
behind_first [] = []
behind_first (k ∷ ks) = ks

-- by the first condition that tells them apart
abbrev pub compare_keys : List OrderCondition → List Key → List Key → Ordering
compare_keys [] xs ys = Equal
compare_keys (c ∷ cs) xs ys = ordering_then (directed c.direction (first_key xs) (first_key ys))
    (compare_keys cs (behind_first xs) (behind_first ys))

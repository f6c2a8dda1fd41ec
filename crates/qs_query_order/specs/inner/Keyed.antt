-- Rows with their keys.
use Rattle.std.specs.Prelude.{◌≡◌, ℕ, ◌≤◌, Bool, not, List, ◌++◌, length, map, take, Option, Some}
use Rattle.std.specs.Prelude.{None}
use Rattle.std.specs.List.{All, count_by}
use Rattle.std.specs.List.Sorted.{IsPermutation, IsSortedBy}
use Rattle.std.specs.Ordering.{is_lt}
use Rattle.qs_algebra_solutions.specs.Solution.{Solution}
use Rattle.qs_query_order.specs.inner.Keys.{keys_of, compare_keys}
use Rattle.qs_query_order.specs.declared.condition.OrderCondition.{OrderCondition}
use Rattle.qs_query_order.specs.declared.keyed.KeyedRow.{KeyedRow}

-- the solutions that the rows denote
abbrev pub solutions_of : {R : Type 0} → (R → Solution) → List (KeyedRow R) → List Solution
solutions_of f keyed = map (λ k. f k.row) keyed

-- the keys are those of the solution
abbrev pub IsKeyed : {R : Type 0} → (R → Solution) → List OrderCondition → KeyedRow R → Type 0
IsKeyed f conditions k = k.keys.items ≡ keys_of conditions (f k.row)

abbrev pub is_lower : {R : Type 0} → List OrderCondition → KeyedRow R → KeyedRow R → Bool
is_lower conditions a b = is_lt (compare_keys conditions a.keys.items b.keys.items)

-- some of them, in any order
abbrev pub ArePart : {X : Type 0} → List X → List X → Type 0
ArePart all part = (others : List _) × IsPermutation all (part ++ others)

-- where n are kept, the first n are in order
abbrev pub AreInFront : {R : Type 0} → List OrderCondition → ℕ → List (KeyedRow R) → Type 0
AreInFront conditions n kept = n ≤ length kept → IsSortedBy (is_lower conditions) (take n kept)

abbrev pub AreInFrontIf : {R : Type 0} → List OrderCondition → Option ℕ → List (KeyedRow R) → Type 0
AreInFrontIf conditions None kept = Unit {0}
AreInFrontIf conditions (Some n) kept = AreInFront conditions n kept

-- whether one solution is below another, by their keys
abbrev pub is_below : List OrderCondition → Solution → Solution → Bool
is_below conditions a b =
    is_lt (compare_keys conditions (keys_of conditions a) (keys_of conditions b))

-- n of those kept are not above the solution
abbrev pub Covers : List OrderCondition → ℕ → List Solution → Solution → Type 0
Covers conditions n kept b = n ≤ count_by (λ a. not (is_below conditions b a)) kept

-- of the solutions that were seen these are kept, and n of the least are among them
abbrev pub AreKept : List OrderCondition → ℕ → List Solution → List Solution → Type 0
AreKept conditions n seen kept = (others : List Solution) × IsPermutation seen (kept ++ others)
    × All (Covers conditions n kept) others

-- the same where a count is given; else all are kept
abbrev pub AreKeptIf : List OrderCondition → Option ℕ → List Solution → List Solution → Type 0
AreKeptIf conditions None seen kept = IsPermutation seen kept
AreKeptIf conditions (Some n) seen kept = AreKept conditions n seen kept

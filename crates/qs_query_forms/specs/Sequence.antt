-- The sequence of a query's solutions (SPARQL 1.1 Query, 15, 18.2.4 and 18.2.5): its pattern's
-- solutions in an order that the conditions of ORDER BY allow. The other modifiers follow, one
-- after another: projection, DISTINCT or REDUCED, OFFSET and LIMIT.
use Rattle.std.specs.Prelude.{◌≡◌, ℕ, Bool, true, false, List, [], ◌∷◌, map, take, drop, length}
use Rattle.std.specs.Prelude.{if◌then◌else◌}
use Rattle.std.specs.Option.{option_map_or}
use Rattle.qs_terms.specs.Bag.{SameBag, once}
use Rattle.qs_terms.specs.Dataset.{Dataset, Triple}
use Rattle.qs_terms.specs.Statement.{Statement, same_statement}
use Rattle.qs_algebra_solutions.specs.Solution.{Solution, projected, same_solution}
use Rattle.qs_algebra_patterns.specs.Eval.{eval}
use Rattle.qs_query_order.specs.Order.{IsOrdered}
use Rattle.qs_query_order.specs.declared.condition.OrderCondition.{OrderCondition}
use Rattle.qs_algebra_patterns.specs.declared.named_pattern.Pattern.{Pattern}
use Rattle.qs_query_forms.specs.declared.selection.Selection.{Selection}
use Rattle.qs_query_forms.specs.declared.modifiers.Slice.{Slice}

-- the dataset of some quads, each once by its first occurrence, with the next blank node's number;
-- it is a dataset where the number is above those of their blank nodes
abbrev pub dataset_of : List Statement → ℕ → Dataset
dataset_of quads next = record { quads = once same_statement quads; next = next }

-- all solutions of a pattern over the quads of a dataset, where these triples are the active graph
abbrev pub whole : Pattern → List Statement → List Triple → List Solution
whole named quads graph = eval (length named.names) quads named.root graph

-- OFFSET, and then LIMIT (Slice)
abbrev pub sliced : {X : Type 0} → Slice → List X → List X
sliced slice xs =
    let rest = drop slice.offset xs in option_map_or (λ n. take n rest) slice.limit rest

-- the solutions in this order, projected (Project); where duplicates are eliminated, the first
-- occurrences (Distinct); else all (Reduced may leave all, and does)
abbrev pub listed_rows : Selection → List Solution → List Solution
listed_rows selection solutions =
    let rows = map (projected selection.columns) solutions in
    if selection.is_distinct then once same_solution rows else rows

-- the same solutions, none before one that the conditions put lower (ToList and OrderBy)
abbrev pub IsInOrder : List OrderCondition → List Solution → List Solution → Type 0
IsInOrder conditions solutions all = SameBag all solutions × IsOrdered conditions all

-- the rows are a sequence of the solutions
abbrev pub IsSequence : Selection → List Solution → List Solution → Type 0
IsSequence selection solutions rows =
    (all : List Solution) × IsInOrder selection.order solutions all
    × (rows ≡ sliced selection.slice (listed_rows selection all))

-- the same where nothing is projected, as for a CONSTRUCT (16.2)
abbrev pub IsPart : List OrderCondition → Slice → List Solution → List Solution → Type 0
IsPart conditions slice solutions part =
    (all : List Solution) × IsInOrder conditions solutions all × (part ≡ sliced slice all)

-- the length that all sequences of the solutions have
abbrev pub count : Selection → List Solution → ℕ
count selection solutions = length (sliced selection.slice (listed_rows selection solutions))

-- whether there is one
abbrev pub has_solution : List Solution → Bool
has_solution [] = false
has_solution (m ∷ ms) = true

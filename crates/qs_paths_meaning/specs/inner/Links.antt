-- The terms that steps lead to, kept at those that they lead from, by numbers.
use Rattle.std.specs.Prelude.{◌≡◌, ℕ, ◌<◌, ◌≤◌, ◌==◌, Bool, true, List, [], ◌∷◌, ◌++◌, length, map}
use Rattle.std.specs.Prelude.{None, Vec, All, slice_index_or, slice_set, if◌then◌else◌}
use Rattle.std.specs.List.{filter, flat_map, list_any}
use Rattle.qs_terms.specs.declared.term.Term.{Term}
use Rattle.qs_terms.specs.Bag.{SameBag, with_new}
use Rattle.qs_terms.specs.Dataset.{nodes_of}
use Rattle.qs_terms.specs.Term.{same_term}
use Rattle.qs_syntax_tree.specs.declared.path.Repetition.{Repetition}
use Rattle.qs_paths_meaning.specs.Closure.{closure}
use Rattle.qs_paths_meaning.specs.inner.Steps.{from_start}
use Rattle.qs_paths_meaning.specs.Pair.{Pair}
use Rattle.qs_paths_meaning.specs.Pairs.{AtEnds, is_step}
use Rattle.qs_paths_meaning.specs.Steps.{Graph}
use Rattle.qs_paths_meaning.specs.inner.Found.{rights}

-- ---- terms and their numbers

-- a term's number is its place in the list
abbrev pub IsAt : List Term → ℕ → Term → Type 0
IsAt terms n x = (n < length terms) × (slice_index_or terms n x ≡ x)

-- the terms of the numbers; the first denotes one that has none
abbrev pub named : Term → List Term → List ℕ → List Term
named d terms ns = map (λ n. slice_index_or terms n d) ns

abbrev pub AreBelow : ℕ → List ℕ → Type 0
AreBelow count ns = All (λ n. n < count) ns

abbrev pub same_number : ℕ → ℕ → Bool
same_number n m = n == m

-- the list with these numbers at its end, each where it is new
abbrev pub with_numbers : List ℕ → List ℕ → List ℕ
with_numbers ns [] = ns
with_numbers ns (m ∷ ms) = with_numbers (with_new same_number ns m) ms

-- ---- links

abbrev pub rows_of : {Z : Type 0} → List (Vec ℕ Z) → List (List ℕ)
rows_of next = map (λ v. v.items) next

-- the numbers at the first of the terms that is this one
abbrev pub row_of : List Term → List (List ℕ) → Term → List ℕ
row_of [] rows x = []
row_of (t ∷ ts) [] x = []
row_of (t ∷ ts) (r ∷ rows) x = if same_term x t then r else row_of ts rows x

-- the terms that links lead to from this one
abbrev pub leads_to : List Term → List (List ℕ) → Term → List Term
leads_to terms rows x = named x terms (row_of terms rows x)

-- the number goes to the end of the row at this place
abbrev pub put_at : List (List ℕ) → ℕ → ℕ → List (List ℕ)
put_at rows at n = slice_set rows at (slice_index_or rows at [] ++ n ∷ [])

-- the right ends of the pairs from the term
abbrev pub rights_from : Term → List Pair → List Term
rights_from x es = rights (filter (λ e. same_term x e.left) es)

-- from each term links lead to the right ends of the pairs from it, in their order
abbrev pub AreLinks : List Term → List (List ℕ) → List Pair → Type 0
AreLinks terms rows es = (x : Term) → leads_to terms rows x ≡ rights_from x es

-- these are the links of a path: of its pairs with both ends open
abbrev pub HasSteps : List Term → List (List ℕ) → AtEnds → Type 0
HasSteps terms rows f = (es : List Pair) × (SameBag es (f None None) × AreLinks terms rows es)

-- ---- what a walk reached

-- a number is among those reached where its round is this one; rounds before this one had smaller
-- numbers
pub record IsMarked (round : ℕ) (rounds numbers : List ℕ) : Type 0 where
  pub marks : (m : ℕ) → m < length rounds → same_number (slice_index_or rounds m 0) round ≡ list_any
      (same_number m) numbers
  pub below : AreBelow (length rounds) numbers
  pub past : All (λ k. k ≤ round) rounds

-- nodes from which, with both ends open, all pairs of the closure lead
abbrev pub AreStarts : Graph → AtEnds → Repetition → List Term → Type 0
AreStarts graph f repetition starts =
    ((x : Term) → list_any (same_term x) starts ≡ true → list_any (same_term x) (nodes_of graph)
    ≡ true)
    × SameBag (flat_map (from_start repetition (is_step f) graph None) starts)
    (closure repetition (is_step f) graph None None)

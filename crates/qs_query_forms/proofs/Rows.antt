-- Small queries, computed by the definitions.
use Rattle.std.proofs.Common.{◌≡◌, ℕ, ◌+◌, true, false, List, [], ◌∷◌, map, Some, None, refl}
use Rattle.qs_terms.specs.declared.term.Term.TheVariants.{Blank}
use Rattle.qs_terms.specs.Dataset.{graph_of}
use Rattle.qs_terms.specs.Statement.{Statement}
use Rattle.qs_algebra_solutions.specs.Solution.{Solution, projected}
use Rattle.qs_algebra_patterns.specs.declared.pattern.BasicPattern.{BasicPattern}
use Rattle.qs_algebra_patterns.specs.declared.pattern.Slot.TheVariants as slot
use Rattle.qs_algebra_patterns.specs.Basic.{basic}
use Rattle.qs_query_forms.specs.Sequence.{dataset_of, sliced, has_solution}
use Rattle.qs_query_forms.specs.inner.Sequence.{once_where}

abbrev says : ℕ → ℕ → ℕ → Statement
says s p o = record { graph = None; subject = Blank s; predicate = Blank p; object = Blank o }

abbrev whole_triple : ℕ → BasicPattern
whole_triple first = record {
  triples = record { subject = slot.Variable first; predicate = slot.Variable (first + 1); object = slot.Variable (first + 2) } ∷ [];
  paths = [];
  hidden = 0;
}

abbrev found : List Statement → List Solution
found quads = basic 3 (whole_triple 0) (graph_of (dataset_of quads 10).quads None)

-- SELECT * { ?s ?p ?o } over one quad
each_variable : found (says 7 8 9 ∷ []) ≡ (Some (Blank 7) ∷ Some (Blank 8) ∷ Some (Blank 9) ∷ []) ∷ []
each_variable = refl

-- a quad that stands again counts once
repeat_once : found (says 7 8 9 ∷ says 7 8 9 ∷ []) ≡ (Some (Blank 7) ∷ Some (Blank 8) ∷ Some (Blank 9) ∷ []) ∷ []
repeat_once = refl

-- SELECT ?z { ?s ?p ?o }: the variable of the answer is bound nowhere, and keeps its place
unbound_column : map (projected (0 ∷ [])) (basic 4 (whole_triple 1) (graph_of (dataset_of (says 7 8 9 ∷ []) 10).quads None)) ≡ (None ∷ []) ∷ []
unbound_column = refl

-- OFFSET comes before LIMIT
second_of_three : sliced {X = ℕ} (record { offset = 1; limit = Some 1 }) (1 ∷ 2 ∷ 3 ∷ []) ≡ 2 ∷ []
second_of_three = refl

past_the_end : sliced {X = ℕ} (record { offset = 5; limit = None }) (1 ∷ 2 ∷ 3 ∷ []) ≡ []
past_the_end = refl

-- ---- duplicates

abbrev bound : ℕ → Solution
bound n = Some (Blank n) ∷ []

-- SELECT DISTINCT ?x { .. } OFFSET 1 LIMIT 2, where ?x is 1, 2, 1, 3: 2 and 3
distinct_before_the_slice : sliced (record { offset = 1; limit = Some 2 }) (once_where true (bound 1 ∷ bound 2 ∷ bound 1 ∷ bound 3 ∷ [])) ≡ bound 2 ∷ bound 3 ∷ []
distinct_before_the_slice = refl

-- unbound is the same as unbound alone
unbound_once : once_where true ((None ∷ []) ∷ bound 1 ∷ (None ∷ []) ∷ []) ≡ (None ∷ []) ∷ bound 1 ∷ []
unbound_once = refl

-- REDUCED keeps all
kept : once_where false (bound 1 ∷ bound 1 ∷ []) ≡ bound 1 ∷ bound 1 ∷ []
kept = refl

-- ASK {}: the one empty solution is one
empty_is_one : has_solution ([] ∷ []) ≡ true
empty_is_one = refl

none_is_none : has_solution [] ≡ false
none_is_none = refl

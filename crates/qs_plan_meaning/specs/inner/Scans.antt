-- What a triple pattern and a path pattern make of a solution over a graph: the solution with their
-- variables bound, once for each triple or pair that agrees with what is bound (SPARQL 1.1 Query,
-- 18.3.1 and 18.4).
use Rattle.std.specs.Prelude.{ℕ, List, [], ◌∷◌, Option, Some, None, if◌then◌else◌, slice_set}
use Rattle.std.specs.Prelude.{option_to_list}
use Rattle.std.specs.List.{filter, flat_map}
use Rattle.qs_terms.specs.declared.term.Term.{Term}
use Rattle.qs_terms.specs.Dataset.{Triple}
use Rattle.qs_terms.specs.Term.{same_term}
use Rattle.qs_paths_meaning.specs.Pair.{Pair}
use Rattle.qs_paths_meaning.specs.Pairs.{pairs}
use Rattle.qs_algebra_solutions.specs.Solution.{Solution, term_at}
use Rattle.qs_algebra_patterns.specs.declared.pattern.Slot.{Slot}
use Rattle.qs_algebra_patterns.specs.declared.pattern.Slot.TheVariants as slot
use Rattle.qs_algebra_patterns.specs.declared.pattern.TriplePattern.{TriplePattern}
use Rattle.qs_algebra_patterns.specs.declared.pattern.PathPattern.{PathPattern}
use Rattle.qs_algebra_patterns.specs.Basic.{Graph, end_of, fits}

-- the variable, which has this term or none, bound to t, where that agrees
abbrev pub bound_at : Option Term → ℕ → Term → Solution → Option Solution
bound_at None v t m = Some (slice_set m v (Some t))
bound_at (Some x) v t m = if same_term x t then Some m else None

-- m with the slot's variable bound to t, where that agrees with m
abbrev pub bound_slot : Slot → Term → Solution → Option Solution
bound_slot (slot.Term c) t m = if same_term c t then Some m else None
bound_slot (slot.Variable v) t m = bound_at (term_at m v) v t m

abbrev pub then_bound : Option Solution → (Solution → Option Solution) → Option Solution
then_bound None f = None
then_bound (Some m) f = f m

-- ---- triples

-- m with the variables of a triple pattern bound so that it becomes the triple
abbrev pub bound_triple : TriplePattern → Triple → Solution → Option Solution
bound_triple p t m =
    then_bound (bound_slot p.subject t.subject m)
    (λ a. then_bound (bound_slot p.predicate t.predicate a) (λ b. bound_slot p.object t.object b))

-- what the triples of the graph make of m
abbrev pub extensions : TriplePattern → Graph → Solution → List Solution
extensions p graph m = flat_map (λ t. option_to_list (bound_triple p t m)) graph

-- what all triple patterns make of m
abbrev pub found : List TriplePattern → Graph → Solution → List Solution
found [] graph m = m ∷ []
found (p ∷ triples) graph m = flat_map (found triples graph) (extensions p graph m)

-- ---- paths

-- m with the variable at an end bound to the term of a pair, where that agrees with m; an end that
-- is a term is given to the path
abbrev pub bound_end : Slot → Term → Solution → Option Solution
bound_end (slot.Term c) t m = Some m
bound_end (slot.Variable v) t m = bound_at (term_at m v) v t m

-- m with the variables at both ends of a path pattern bound to the terms of a pair
abbrev pub bound_ends : PathPattern → Pair → Solution → Option Solution
bound_ends p e m = then_bound (bound_end p.subject e.left m) (λ a. bound_end p.object e.right a)

-- the pairs of a path pattern: an end that is a variable is open, whatever is bound elsewhere
abbrev pub path_pairs : PathPattern → Graph → List Pair
path_pairs p graph = filter (fits p) (pairs graph p.path (end_of p.subject) (end_of p.object))

-- what the pairs of the path make of m
abbrev pub path_extensions : PathPattern → Graph → Solution → List Solution
path_extensions p graph m = flat_map (λ e. option_to_list (bound_ends p e m)) (path_pairs p graph)

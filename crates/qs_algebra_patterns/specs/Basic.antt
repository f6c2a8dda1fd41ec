-- The solutions of a basic graph pattern (SPARQL 1.1 Query, 18.3.1): the maps that put each of its
-- triples into the graph, each once. They map the variables of the triples, hidden ones too, to
-- terms of the graph. They are joined with the solutions of each of its paths (18.4). Hidden
-- variables are then taken away, and counts stay. No map binds a variable past the last, so a basic
-- graph pattern of it has no solutions. At the end of a path and as the name of a GRAPH such a
-- variable stays unbound.
use Rattle.std.specs.Prelude.{ℕ, zero, suc, ◌+◌, Bool, false, not, ◌||◌, ◌==◌, List, [], ◌∷◌, map}
use Rattle.std.specs.Prelude.{take, Option, Some, None, if◌then◌else◌, slice_set}
use Rattle.std.specs.List.{filter, flat_map, fold, list_any, list_all}
use Rattle.qs_terms.specs.declared.term.Term.{Term}
use Rattle.qs_terms.specs.Bag.{once}
use Rattle.qs_terms.specs.Dataset.{Triple, same_triple}
use Rattle.qs_terms.specs.Term.{same_term}
use Rattle.qs_paths_meaning.specs.Pair.{Pair}
use Rattle.qs_paths_meaning.specs.Pairs.{pairs}
use Rattle.qs_algebra_solutions.specs.Operators.{join}
use Rattle.qs_algebra_solutions.specs.Solution.{Solution, term_at, unbound}
use Rattle.qs_algebra_patterns.specs.declared.pattern.Slot.{Slot}
use Rattle.qs_algebra_patterns.specs.declared.pattern.Slot.TheVariants as slot
use Rattle.qs_algebra_patterns.specs.declared.pattern.TriplePattern.{TriplePattern}
use Rattle.qs_algebra_patterns.specs.declared.pattern.PathPattern.{PathPattern}
use Rattle.qs_algebra_patterns.specs.declared.pattern.BasicPattern.{BasicPattern}
pub use Rattle.qs_paths_meaning.specs.Steps.{Graph}

-- the term that a solution puts into a slot
abbrev pub value : Solution → Slot → Option Term
value m (slot.Term t) = Some t
value m (slot.Variable v) = term_at m v

abbrev pub triple_from : Option Term → Option Term → Option Term → Option Triple
triple_from (Some s) (Some p) (Some o) = Some (record { subject = s; predicate = p; object = o })
triple_from _ _ _ = None

-- the triple that a solution makes of a triple pattern
abbrev pub instance : Solution → TriplePattern → Option Triple
instance m p = triple_from (value m p.subject) (value m p.predicate) (value m p.object)

abbrev pub is_in : Graph → Option Triple → Bool
is_in graph None = false
is_in graph (Some t) = list_any (same_triple t) graph

-- each triple pattern becomes a triple of the graph
abbrev pub puts_into : Graph → List TriplePattern → Solution → Bool
puts_into graph triples m = list_all (λ p. is_in graph (instance m p)) triples

abbrev pub is_variable : Slot → ℕ → Bool
is_variable (slot.Term t) v = false
is_variable (slot.Variable w) v = w == v

-- the variable stands in a triple pattern
abbrev pub mentions : List TriplePattern → ℕ → Bool
mentions [] v = false
mentions (p ∷ ps) v =
    is_variable p.subject v
    || (is_variable p.predicate v || (is_variable p.object v || mentions ps v))

-- the terms that stand anywhere in the graph, each once
abbrev pub terms_of : Graph → List Term
terms_of graph = once same_term (flat_map (λ t. t.subject ∷ t.predicate ∷ t.object ∷ []) graph)

-- all maps from the variables that `is_bound` names, of n variables from v on, to these terms
abbrev pub all_maps : (ℕ → Bool) → List Term → ℕ → ℕ → List Solution
all_maps is_bound terms v zero = [] ∷ []
all_maps is_bound terms v (suc n) =
    if is_bound v then flat_map (λ t. map (λ m. Some t ∷ m) (all_maps is_bound terms (v + 1) n))
    terms
    else map (λ m. None ∷ m) (all_maps is_bound terms (v + 1) n)

-- the maps of n variables that put the triples into the graph
abbrev pub matches : ℕ → List TriplePattern → Graph → List Solution
matches n ts g = filter (puts_into g ts) (all_maps (mentions ts) (terms_of g) 0 n)

-- ---- paths

-- a path's end: a term, or open; a variable is open, whatever is bound elsewhere
abbrev pub end_of : Slot → Option Term
end_of (slot.Term t) = Some t
end_of (slot.Variable v) = None

-- the same variable stands in both slots
abbrev pub is_repeated : Slot → Slot → Bool
is_repeated (slot.Term t) other = false
is_repeated (slot.Variable v) other = is_variable other v

-- where the same variable stands at both ends, both are one term
abbrev pub fits : PathPattern → Pair → Bool
fits p e = not (is_repeated p.subject p.object) || same_term e.left e.right

-- the solution with the variable of the slot, if there is one, bound to the term
abbrev pub with_term : Slot → Term → Solution → Solution
with_term (slot.Term c) t m = m
with_term (slot.Variable v) t m = slice_set m v (Some t)

-- the solution of n variables that binds those at the ends of a path pattern to the terms of a pair
abbrev pub ends_bound : ℕ → PathPattern → Pair → Solution
ends_bound n p e = with_term p.object e.right (with_term p.subject e.left (unbound n))

-- the solutions of n variables of a path pattern: one for each pair of its path
abbrev pub path_solutions : ℕ → Graph → PathPattern → List Solution
path_solutions n graph p =
    map (ends_bound n p) (filter (fits p) (pairs graph p.path (end_of p.subject) (end_of p.object)))

-- these solutions, joined with those of one path pattern after another
abbrev pub with_paths : ℕ → Graph → List PathPattern → List Solution → List Solution
with_paths n graph paths left = fold (λ found p. join found (path_solutions n graph p)) left paths

-- ---- both

-- the solutions of a basic graph pattern, of `width` named variables
abbrev pub basic : ℕ → BasicPattern → Graph → List Solution
basic width pattern graph =
    map (take width) (with_paths (width + pattern.hidden) graph pattern.paths
    (matches (width + pattern.hidden) pattern.triples graph))

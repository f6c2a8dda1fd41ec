-- The rows that a triple pattern makes of a row in all named graphs.
use Rattle.std.specs.Prelude.{◌≡◌, ℕ, Bool, true, not, ◌==◌, ◌&&◌, List, [], ◌∷◌, Some}
use Rattle.std.specs.List.{flat_map, list_any}
use Rattle.qs_terms.specs.Dataset.{names_of}
use Rattle.qs_terms.specs.Statement.{Statement}
use Rattle.qs_terms.specs.Term.{same_term}
use Rattle.qs_terms.specs.declared.term.Term.{Term}
use Rattle.qs_store.specs.Content.{Content}
use Rattle.qs_expr.specs.declared.cell.Cell.{Cell}
use Rattle.qs_expr.specs.inner.Cell.{denoted}
use Rattle.qs_expr.specs.inner.Scratch.{IsTable}
use Rattle.qs_algebra_solutions.specs.Solution.{Solution, term_at, binding}
use Rattle.qs_algebra_solutions.specs.Operators.{merges}
use Rattle.qs_algebra_patterns.specs.declared.pattern.TriplePattern.{TriplePattern}
use Rattle.qs_plan_meaning.specs.inner.Scans.{extensions}
use Rattle.qs_plan_meaning.specs.inner.Stages.{each_named, graph_named}
use Rattle.qs_ops_scans.specs.declared.pattern.Place.{Place}
use Rattle.qs_ops_scans.specs.declared.pattern.Place.TheVariants as place
use Rattle.qs_ops_scans.specs.declared.pattern.PreparedTriple.{PreparedTriple}

-- the rows that a triple pattern makes of the row in each named graph, whose name the register
-- holds (SPARQL 1.1 Query, 18.6)
abbrev pub each_extension : List Statement → ℕ → TriplePattern → Solution → List Solution
each_extension quads r p m =
    flat_map (λ n. extensions p (graph_named quads (term_at n r)) n) (each_named quads r m)

-- the same where the row was merged with a variable that holds the name too, before the pattern
abbrev pub each_joined : List Statement → ℕ → ℕ → ℕ → TriplePattern → Solution → List Solution
each_joined quads width v r p m =
    flat_map
    (λ n. flat_map (λ k. extensions p (graph_named quads (term_at k r)) k)
    (merges (binding width (v ∷ []) (term_at n r ∷ []) ∷ []) n)) (each_named quads r m)

-- whether the term of the cell is the name of a graph
abbrev pub NamesGraph : Content → Cell → Bool → Type 0
NamesGraph c cell result =
    (table : List Term) (name : Term) → IsTable c.known table → denoted c.known table cell
    ≡ Some name
    → result ≡ list_any (same_term name) (names_of c.quads)

abbrev pub place_misses : ℕ → Place → Bool
place_misses r place.Absent = true
place_misses r (place.Number n) = true
place_misses r (place.Variable v) = not (v == r)

-- no place of the pattern is this variable
abbrev pub misses : ℕ → PreparedTriple → Bool
misses r k =
    place_misses r k.subject && (place_misses r k.predicate && place_misses r k.object)

-- Blank nodes whose numbers are below one, in solutions and in graphs.
use Rattle.std.specs.Prelude.{ℕ, Bool, ◌&&◌, List}
use Rattle.std.specs.List.{list_all}
use Rattle.qs_terms.specs.Dataset.{Triple, is_term_below}
use Rattle.qs_terms.specs.inner.Dataset.{is_graph_below as is_cell_below}
use Rattle.qs_terms.specs.Statement.{Statement, is_iri}
use Rattle.qs_algebra_solutions.specs.Solution.{Solution}
use Rattle.qs_algebra_patterns.specs.Basic.{Graph}

-- each blank node that the solution binds a variable to has a number below this one
abbrev pub is_solution_below : ℕ → Solution → Bool
is_solution_below next m = list_all (is_cell_below next) m

abbrev pub is_triple_below : ℕ → Triple → Bool
is_triple_below next t = is_term_below next t.subject
    && (is_term_below next t.predicate && is_term_below next t.object)

-- the same of each blank node of the graph
abbrev pub are_triples_below : ℕ → Graph → Bool
are_triples_below next graph = list_all (is_triple_below next) graph

-- each predicate is an IRI, as that of each `Quad` is
abbrev pub have_iri_predicates : List Statement → Bool
have_iri_predicates quads = list_all (λ (q : Statement). is_iri q.predicate) quads

-- The pairs of terms that a path leads between (SPARQL 1.1 Query, 9 and 18.4). An end is a term or
-- open. `^` swaps the pairs, `|` puts the lists of its parts together, and `/` joins them by the
-- middle, with each later part evaluated from an open end.
use Rattle.std.specs.Prelude.{Bool, List, [], ◌∷◌, map, Some, None}
use Rattle.std.specs.List.{flat_map, list_any}
use Rattle.qs_terms.specs.declared.term.Term.{Term}
use Rattle.qs_terms.specs.declared.term.Term.TheVariants as term
use Rattle.qs_terms.specs.Term.{same_term}
use Rattle.qs_syntax_ast.specs.declared.path.Path.{Path, fold-Path}
use Rattle.qs_syntax_ast.specs.declared.path.Path.TheOpen.{Path-F, Iri, NegatedSet, Alternative}
use Rattle.qs_syntax_ast.specs.declared.path.Path.TheOpen.{Sequence, Inverse, Repeated}
use Rattle.qs_paths_meaning.specs.Pair.{swapped}
pub use Rattle.qs_paths_meaning.specs.Steps.{AtEnds}
use Rattle.qs_paths_meaning.specs.Steps.{Graph, along, negated, composed}
use Rattle.qs_paths_meaning.specs.Closure.{closure}

abbrev pub in_sequence : List AtEnds → AtEnds
in_sequence [] left right = []
in_sequence (p ∷ []) left right = p left right
in_sequence (p ∷ q ∷ parts) left right = composed (p left None) (in_sequence (q ∷ parts) None right)

-- (u, v) is a step where it is one of the pairs from u
abbrev pub is_step : AtEnds → Term → Term → Bool
is_step p u v = list_any (λ e. same_term v e.right) (p (Some u) None)

abbrev pub pairs_level : Graph → Path-F AtEnds → AtEnds
pairs_level graph (Iri i) left right = along (same_term (term.Iri i)) graph left right
pairs_level graph (NegatedSet members) left right = negated members graph left right
pairs_level graph (Inverse p) left right = map swapped (p right left)
pairs_level graph (Alternative parts) left right = flat_map (λ p. p left right) parts
pairs_level graph (Sequence parts) left right = in_sequence parts left right
pairs_level graph (Repeated p r) left right = closure r (is_step p) graph left right

abbrev pub pairs : Graph → Path → AtEnds
pairs graph = fold-Path AtEnds (pairs_level graph)

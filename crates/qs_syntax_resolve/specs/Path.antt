-- Property paths with their names resolved (SPARQL 1.1 Query, 9).
use Rattle.std.specs.Prelude.{ℕ, List, map, Ok}
use Rattle.qs_syntax_tree.specs.declared.path.Path.{Path as WrittenPath, fold-Path}
use Rattle.qs_syntax_tree.specs.declared.path.NegatedPredicate.{NegatedPredicate}
use Rattle.qs_syntax_tree.specs.declared.path.Predicate.{Predicate}
use Rattle.qs_syntax_tree.specs.declared.path.Path.TheOpen.{Path-F, Predicate as Single, NegatedSet}
use Rattle.qs_syntax_tree.specs.declared.path.Path.TheOpen.{Alternative, Sequence, Inverse}
use Rattle.qs_syntax_tree.specs.declared.path.Path.TheOpen.{Repeated}
use Rattle.qs_syntax_ast.specs.declared.path.Path.{Path}
use Rattle.qs_syntax_ast.specs.declared.path.Path.TheVariants as path
use Rattle.qs_syntax_ast.specs.declared.path.NegatedIri.{NegatedIri}
use Rattle.qs_syntax_resolve.specs.Names as of
use Rattle.qs_terms.specs.Outcome.{and_then}
use Rattle.qs_syntax_resolve.specs.Resolving.{Resolving, ◌>>=◌, ◌<$>◌, pure, all}

abbrev pub predicate : Predicate → Resolving (List ℕ)
predicate p = λ s. and_then (of.predicate s.names p) (λ i. Ok (i, s))

abbrev pub negated : NegatedPredicate → Resolving NegatedIri
negated n = predicate n.predicate >>= (λ i. pure (record { inverse = n.inverse; iri = i }))

abbrev pub path_level : Path-F (Resolving Path) (Resolving Path) → Resolving Path
path_level (Single p) = path.Iri <$> predicate p
path_level (NegatedSet ps) = path.NegatedSet <$> all (map negated ps)
path_level (Alternative os) = path.Alternative <$> all os
path_level (Sequence os) = path.Sequence <$> all os
path_level (Inverse p) = path.Inverse <$> p
path_level (Repeated p r) = (λ x. path.Repeated x r) <$> p

unfoldable pub path_of : WrittenPath → Resolving Path
path_of = fold-Path (Resolving Path) (Resolving Path) path_level (λ o. o.path)

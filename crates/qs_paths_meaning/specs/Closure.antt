-- The pairs of `?`, `*` and `+` (SPARQL 1.1 Query, 9.1 and 18.4; for nested closures and walks of
-- no step this project's own reading). A closure is a filter of candidates, which are the nodes of
-- the graph and the term that it starts from. So it is a list without repeats whatever is in it;
-- that it means walks is a law.
use Rattle.std.specs.Prelude.{Bool, ◌&&◌, ◌||◌, List, [], ◌∷◌, map, Option, Some, None}
use Rattle.std.specs.List.{filter, flat_map}
use Rattle.qs_terms.specs.declared.term.Term.{Term}
use Rattle.qs_terms.specs.Bag.{once}
use Rattle.qs_terms.specs.Dataset.{nodes_of}
use Rattle.qs_terms.specs.Term.{same_term}
use Rattle.qs_syntax_tree.specs.declared.path.Repetition.{Repetition}
use Rattle.qs_syntax_tree.specs.declared.path.Repetition.TheVariants.{ZeroOrOne, ZeroOrMore}
use Rattle.qs_syntax_tree.specs.declared.path.Repetition.TheVariants.{OneOrMore}
use Rattle.qs_paths_meaning.specs.Pair.{pair}
use Rattle.qs_paths_meaning.specs.Steps.{Graph, AtEnds, agrees}

-- the terms that a path can lead to from x
abbrev pub candidates : Graph → Term → List Term
candidates graph x = once same_term (x ∷ nodes_of graph)

-- a walk of at least one step leads from x to y, and all terms between them are among these
abbrev pub leads : (Term → Term → Bool) → List Term → Term → Term → Bool
leads step [] x y = step x y
leads step (c ∷ cs) x y = leads step cs x y || (leads step cs x c && leads step cs c y)

-- y is led to from x; by `?` and `*` a term is led to itself by no step, whether it is in the graph
-- or not
abbrev pub repeats : Repetition → (Term → Term → Bool) → List Term → Term → Term → Bool
repeats ZeroOrOne step cs x y = same_term x y || step x y
repeats ZeroOrMore step cs x y = same_term x y || leads step cs x y
repeats OneOrMore step cs x y = leads step cs x y

-- those that are led to from x, each once
abbrev pub ends : Repetition → (Term → Term → Bool) → Graph → Term → List Term
ends r step graph x = filter (repeats r step (candidates graph x) x) (candidates graph x)

-- where the walks begin: with both ends open at the nodes of the graph; with the right end alone
-- given, also at that term, since no other term outside the graph is led to it
abbrev pub starts : Graph → Option Term → Option Term → List Term
starts graph (Some x) right = x ∷ []
starts graph None (Some y) = candidates graph y
starts graph None None = nodes_of graph

abbrev pub closure : Repetition → (Term → Term → Bool) → Graph → AtEnds
closure r step graph left right =
    flat_map (λ x. map (pair x) (filter (agrees right) (ends r step graph x)))
    (starts graph left right)

-- Small graphs, computed by the definitions.
use Rattle.std.proofs.Common.{◌≡◌, ℕ, false, true, Bool, [], ◌∷◌, Option, Some, None, ap, ◌∙◌}
use Rattle.std.specs.List.{filter}
use Rattle.qs_terms.specs.declared.term.Term.{Term}
use Rattle.qs_terms.specs.declared.term.Term.TheVariants.{Iri}
use Rattle.qs_terms.specs.Term.{same_term}
use Rattle.qs_terms.specs.Dataset.{Triple}
use Rattle.qs_syntax_tree.specs.declared.path.Repetition.{Repetition}
use Rattle.qs_syntax_tree.specs.declared.path.Repetition.TheVariants.{ZeroOrOne, ZeroOrMore, OneOrMore}
use Rattle.qs_syntax_ast.specs.declared.path.Path.{Path, Path-F}
use Rattle.qs_syntax_ast.specs.declared.path.Path.TheVariants as path
use Rattle.qs_syntax_ast.specs.declared.path.NegatedIri.{NegatedIri}
use Rattle.qs_paths_meaning.specs.Pair.{Pair, pair}
use Rattle.qs_paths_meaning.specs.Steps.{Graph}
use Rattle.qs_paths_meaning.specs.Pairs.{AtEnds, pairs, pairs_level}
use Rattle.qs_paths_meaning.proofs.Meaning.{pairs_iri, pairs_negated, pairs_alternative, pairs_sequence, pairs_inverse, pairs_repeated}

abbrev node : ℕ → Term
node n = Iri (n ∷ [])

abbrev says : ℕ → ℕ → ℕ → Triple
says s p o = record { subject = node s; predicate = node p; object = node o }

abbrev iri : ℕ → Path
iri n = path.Iri (n ∷ [])

abbrev without : Bool → ℕ → NegatedIri
without inverse n = record { inverse = inverse; iri = n ∷ [] }

abbrev leads : ℕ → ℕ → Pair
leads x y = pair (node x) (node y)

-- what is known of a path is used in a larger one
abbrev of_repeated : Graph → AtEnds → Repetition → AtEnds
of_repeated graph f repetition = pairs_level graph (Path-F.Repeated f repetition)

abbrev of_iri : Graph → ℕ → AtEnds
of_iri graph n = pairs_level graph (Path-F.Iri (n ∷ []))

repeated : (graph : Graph) (p : Path) (f : AtEnds) (repetition : Repetition) → pairs graph p ≡ f → pairs graph (path.Repeated p repetition) ≡ pairs_level graph (Path-F.Repeated f repetition)
repeated graph p f repetition e = pairs_repeated graph p repetition ∙ ap (λ (g : AtEnds). pairs_level graph (Path-F.Repeated g repetition)) e

either : (graph : Graph) (p q : Path) (f g : AtEnds) → pairs graph p ≡ f → pairs graph q ≡ g → pairs graph (path.Alternative (p ∷ q ∷ [])) ≡ pairs_level graph (Path-F.Alternative (f ∷ g ∷ []))
either graph p q f g e h = pairs_alternative graph (p ∷ q ∷ []) ∙ (ap (λ (k : AtEnds). pairs_level graph (Path-F.Alternative (k ∷ pairs graph q ∷ []))) e ∙ ap (λ (k : AtEnds). pairs_level graph (Path-F.Alternative (f ∷ k ∷ []))) h)

then : (graph : Graph) (p q : Path) (f g : AtEnds) → pairs graph p ≡ f → pairs graph q ≡ g → pairs graph (path.Sequence (p ∷ q ∷ [])) ≡ pairs_level graph (Path-F.Sequence (f ∷ g ∷ []))
then graph p q f g e h = pairs_sequence graph (p ∷ q ∷ []) ∙ (ap (λ (k : AtEnds). pairs_level graph (Path-F.Sequence (k ∷ pairs graph q ∷ []))) e ∙ ap (λ (k : AtEnds). pairs_level graph (Path-F.Sequence (f ∷ k ∷ []))) h)

inverted : (graph : Graph) (p : Path) (f : AtEnds) → pairs graph p ≡ f → pairs graph (path.Inverse p) ≡ pairs_level graph (Path-F.Inverse f)
inverted graph p f e = pairs_inverse graph p ∙ ap (λ (g : AtEnds). pairs_level graph (Path-F.Inverse g)) e

at : (f g : AtEnds) (left right : Option Term) → f ≡ g → f left right ≡ g left right
at f g left right e = ap (λ (k : AtEnds). k left right) e

-- the nodes are 1 and 2, and the IRIs of paths 10 and 11
abbrev one : Graph
one = says 1 10 2 ∷ []

abbrev round : Graph
round = says 1 10 2 ∷ says 2 10 1 ∷ []

-- a term outside the graph is led to itself by no step, where it is given as an end
given_outside : pairs one (path.Repeated (iri 10) ZeroOrMore) (Some (node 9)) None ≡ leads 9 9 ∷ []
given_outside = at _ _ (Some (node 9)) None (repeated one (iri 10) (of_iri one 10) ZeroOrMore (pairs_iri one (10 ∷ [])))

-- also at the right end
given_right : pairs one (path.Repeated (iri 10) ZeroOrMore) None (Some (node 9)) ≡ leads 9 9 ∷ []
given_right = at _ _ None (Some (node 9)) (repeated one (iri 10) (of_iri one 10) ZeroOrMore (pairs_iri one (10 ∷ [])))

-- and not where both ends are open
open_ends : pairs one (path.Repeated (iri 10) ZeroOrMore) None None ≡ leads 1 1 ∷ leads 1 2 ∷ leads 2 2 ∷ []
open_ends = at _ _ None None (repeated one (iri 10) (of_iri one 10) ZeroOrMore (pairs_iri one (10 ∷ [])))

-- round a cycle, each pair once
cycle : pairs round (path.Repeated (iri 10) OneOrMore) None None ≡ leads 1 1 ∷ leads 1 2 ∷ leads 2 2 ∷ leads 2 1 ∷ []
cycle = at _ _ None None (repeated round (iri 10) (of_iri round 10) OneOrMore (pairs_iri round (10 ∷ [])))

-- a set that names both directions: nothing agrees forwards, and against the direction nothing leads from 1
none_of_both : pairs one (path.NegatedSet (without false 10 ∷ without true 10 ∷ [])) None None ≡ []
none_of_both = at _ _ None None (pairs_negated one (without false 10 ∷ without true 10 ∷ []))

abbrev two : Graph
two = says 1 10 2 ∷ says 2 11 1 ∷ []

-- :a !(:p|^:p) ?y
neither_way : pairs two (path.NegatedSet (without false 10 ∷ without true 10 ∷ [])) (Some (node 1)) None ≡ leads 1 2 ∷ []
neither_way = at _ _ (Some (node 1)) None (pairs_negated two (without false 10 ∷ without true 10 ∷ []))

-- :a (:p|^:q) ?y
twice : pairs two (path.Alternative (iri 10 ∷ path.Inverse (iri 11) ∷ [])) (Some (node 1)) None ≡ leads 1 2 ∷ leads 1 2 ∷ []
twice = at _ _ (Some (node 1)) None (either two (iri 10) (path.Inverse (iri 11)) (of_iri two 10) (pairs_level two (Path-F.Inverse (of_iri two 11))) (pairs_iri two (10 ∷ [])) (inverted two (iri 11) (of_iri two 11) (pairs_iri two (11 ∷ []))))

abbrev of_then : AtEnds
of_then = pairs_level two (Path-F.Sequence (of_iri two 10 ∷ of_iri two 11 ∷ []))

-- ?x (:p/:q)? ?x, before the two ends are compared
there_and_back : pairs two (path.Repeated (path.Sequence (iri 10 ∷ iri 11 ∷ [])) ZeroOrOne) None None ≡ leads 1 1 ∷ leads 2 2 ∷ []
there_and_back = at _ _ None None (repeated two (path.Sequence (iri 10 ∷ iri 11 ∷ [])) of_then ZeroOrOne (then two (iri 10) (iri 11) (of_iri two 10) (of_iri two 11) (pairs_iri two (10 ∷ [])) (pairs_iri two (11 ∷ []))))

abbrev of_either : AtEnds
of_either = pairs_level two (Path-F.Alternative (of_iri two 10 ∷ of_iri two 11 ∷ []))

-- :a ((:p|:q)*)* ?y
nested : pairs two (path.Repeated (path.Repeated (path.Alternative (iri 10 ∷ iri 11 ∷ [])) ZeroOrMore) ZeroOrMore) (Some (node 1)) None ≡ leads 1 1 ∷ leads 1 2 ∷ []
nested = at _ _ (Some (node 1)) None
    (repeated two (path.Repeated (path.Alternative (iri 10 ∷ iri 11 ∷ [])) ZeroOrMore) (of_repeated two of_either ZeroOrMore) ZeroOrMore
    (repeated two (path.Alternative (iri 10 ∷ iri 11 ∷ [])) of_either ZeroOrMore
    (either two (iri 10) (iri 11) (of_iri two 10) (of_iri two 11) (pairs_iri two (10 ∷ [])) (pairs_iri two (11 ∷ [])))))

-- only the pairs with equal ends are left where one variable stands at both
there_and_back_equal : filter (λ (e : Pair). same_term e.left e.right) (pairs two (path.Repeated (path.Sequence (iri 10 ∷ iri 11 ∷ [])) ZeroOrOne) None None) ≡ leads 1 1 ∷ leads 2 2 ∷ []
there_and_back_equal = ap (filter (λ (e : Pair). same_term e.left e.right)) there_and_back

-- a closure of a closure, and a closure of an option
closure_twice : pairs one (path.Repeated (path.Repeated (iri 10) ZeroOrMore) ZeroOrMore) (Some (node 1)) None ≡ leads 1 1 ∷ leads 1 2 ∷ []
closure_twice = at _ _ (Some (node 1)) None
    (repeated one (path.Repeated (iri 10) ZeroOrMore) (of_repeated one (of_iri one 10) ZeroOrMore) ZeroOrMore
    (repeated one (iri 10) (of_iri one 10) ZeroOrMore (pairs_iri one (10 ∷ []))))

option_often : pairs one (path.Repeated (path.Repeated (iri 10) ZeroOrOne) OneOrMore) (Some (node 1)) None ≡ leads 1 1 ∷ leads 1 2 ∷ []
option_often = at _ _ (Some (node 1)) None
    (repeated one (path.Repeated (iri 10) ZeroOrOne) (of_repeated one (of_iri one 10) ZeroOrOne) OneOrMore
    (repeated one (iri 10) (of_iri one 10) ZeroOrOne (pairs_iri one (10 ∷ []))))

-- a term outside the graph is led to itself by an option, often
option_outside : pairs one (path.Repeated (path.Repeated (iri 10) ZeroOrOne) OneOrMore) (Some (node 9)) None ≡ leads 9 9 ∷ []
option_outside = at _ _ (Some (node 9)) None
    (repeated one (path.Repeated (iri 10) ZeroOrOne) (of_repeated one (of_iri one 10) ZeroOrOne) OneOrMore
    (repeated one (iri 10) (of_iri one 10) ZeroOrOne (pairs_iri one (10 ∷ []))))

abbrev three : Graph
three = says 1 10 2 ∷ says 2 11 1 ∷ says 3 10 1 ∷ []

abbrev of_back_or_on : AtEnds
of_back_or_on = pairs_level three (Path-F.Alternative (pairs_level three (Path-F.Inverse (of_iri three 10)) ∷ of_iri three 11 ∷ []))

-- from 1 back along 10 to 3; from 2 back along 10 or on along 11 to 1
back_or_on : pairs three (path.Repeated (path.Alternative (path.Inverse (iri 10) ∷ iri 11 ∷ [])) ZeroOrMore) (Some (node 2)) None ≡ leads 2 2 ∷ leads 2 1 ∷ leads 2 3 ∷ []
back_or_on = at _ _ (Some (node 2)) None
    (repeated three (path.Alternative (path.Inverse (iri 10) ∷ iri 11 ∷ [])) of_back_or_on ZeroOrMore
    (either three (path.Inverse (iri 10)) (iri 11) (pairs_level three (Path-F.Inverse (of_iri three 10))) (of_iri three 11) (inverted three (iri 10) (of_iri three 10) (pairs_iri three (10 ∷ []))) (pairs_iri three (11 ∷ []))))

-- a path after another is read from an open end: a term outside the graph is not led on by no step
outside_twice : pairs one (path.Sequence (path.Repeated (iri 10) ZeroOrMore ∷ path.Repeated (iri 11) ZeroOrMore ∷ [])) (Some (node 9)) None ≡ []
outside_twice = at _ _ (Some (node 9)) None
    (then one (path.Repeated (iri 10) ZeroOrMore) (path.Repeated (iri 11) ZeroOrMore) (of_repeated one (of_iri one 10) ZeroOrMore) (of_repeated one (of_iri one 11) ZeroOrMore)
    (repeated one (iri 10) (of_iri one 10) ZeroOrMore (pairs_iri one (10 ∷ []))) (repeated one (iri 11) (of_iri one 11) ZeroOrMore (pairs_iri one (11 ∷ []))))

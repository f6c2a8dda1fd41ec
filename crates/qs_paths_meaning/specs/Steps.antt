-- What the triples of a graph say of a path of one IRI or of a negated set, and how lists of pairs
-- are put together (SPARQL 1.1 Query,
-- 18.2.2.3, 18.2.2.4 and 18.4).
use Rattle.std.specs.Prelude.{Bool, true, false, not, ◌&&◌, ◌||◌, List, [], ◌∷◌, ◌++◌, map, Option}
use Rattle.std.specs.Prelude.{Some, None, if◌then◌else◌}
use Rattle.std.specs.List.{filter, flat_map, list_any}
use Rattle.qs_terms.specs.declared.term.Term.{Term}
use Rattle.qs_terms.specs.declared.term.Term.TheVariants as term
use Rattle.qs_terms.specs.Dataset.{Triple}
use Rattle.qs_terms.specs.Term.{same_term}
use Rattle.qs_syntax_ast.specs.declared.path.NegatedIri.{NegatedIri}
use Rattle.qs_paths_meaning.specs.Pair.{Pair, pair, swapped}

abbrev pub Graph : Type 0
Graph = List Triple

-- the pairs at these ends, of which each is a term, or open
abbrev pub AtEnds : Type 0
AtEnds = Option Term → Option Term → List Pair

abbrev pub agrees : Option Term → Term → Bool
agrees None t = true
agrees (Some e) t = same_term e t

-- the pair has these ends
abbrev pub is_between : Option Term → Option Term → Pair → Bool
is_between left right e = agrees left e.left && agrees right e.right

-- one for each triple whose predicate passes the test and whose ends agree
abbrev pub along : (Term → Bool) → Graph → AtEnds
along test graph left right = filter (is_between left right)
    (map (λ t. pair t.subject t.object) (filter (λ t. test t.predicate) graph))

-- the member's direction: against that of the triples, where `^` stands before it
abbrev pub is_of : Bool → NegatedIri → Bool
is_of true m = m.inverse
is_of false m = not m.inverse

abbrev pub is_none : List NegatedIri → Bool
is_none [] = true
is_none (m ∷ members) = false

-- the term is not among the IRIs of the members of this direction
abbrev pub is_outside : Bool → List NegatedIri → Term → Bool
is_outside inverse ms t = not (list_any (λ m. is_of inverse m && same_term (term.Iri m.iri) t) ms)

-- the forward part, where the set names a forward IRI or nothing; and the inverse part, against the
-- direction of the triples, where it names an inverse
abbrev pub negated : List NegatedIri → Graph → AtEnds
negated members graph left right =
    (if list_any (is_of false) members || is_none members
    then along (is_outside false members) graph left right else [])
    ++ (if list_any (is_of true) members
    then map swapped (along (is_outside true members) graph right left) else [])

-- (x, z) for each (x, y) of the first and each (y, z) of the second
abbrev pub composed : List Pair → List Pair → List Pair
composed ps qs =
    flat_map (λ e. map (λ f. pair e.left f.right) (filter (λ f. same_term e.right f.left) qs)) ps

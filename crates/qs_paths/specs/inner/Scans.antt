-- The pairs that scans of a view have still to give.
use Rattle.std.specs.Prelude.{◌≡◌, ◌≤◌, ℕ, Bool, false, not, ◌&&◌, List, [], ◌∷◌, map, Option, None}
use Rattle.std.specs.Prelude.{Some, ◌⊎◌, option_to_list, if◌then◌else◌}
use Rattle.std.specs.List.{filter, list_any}
use Rattle.qs_terms.specs.declared.term.Term.{Term}
use Rattle.qs_terms.specs.declared.term.Term.TheVariants as term
use Rattle.qs_terms.specs.Dataset.{Triple, triple_of}
use Rattle.qs_terms.specs.Term.{same_term}
use Rattle.qs_dict.specs.inner.Dict.{number_of, term_at}
use Rattle.qs_store.specs.Content.{Content}
use Rattle.qs_store.specs.inner.Entries.{statement_of}
use Rattle.qs_store.specs.inner.Triples.{AreTriples}
use Rattle.qs_store.specs.declared.active.Active.{Active}
use Rattle.qs_store.specs.declared.default_graph.DefaultGraph.{DefaultGraph}
use Rattle.qs_syntax_ast.specs.declared.path.NegatedIri.{NegatedIri}
use Rattle.qs_paths_meaning.specs.Steps.{is_of}
use Rattle.qs_paths_meaning.specs.inner.Links.{same_number}
use Rattle.qs_paths.specs.declared.node.NodePair.{NodePair}
use Rattle.qs_paths.specs.declared.scan.Scan.{Scan}
use Rattle.qs_paths.specs.inner.Nodes.{node_pair}

-- the triple that three numbers say
abbrev pub said : List Term → List ℕ → Triple
said known triple = triple_of (statement_of known (0 ∷ triple))

-- the predicate is none of these
abbrev pub passes : List ℕ → List ℕ → Bool
passes outside (s ∷ p ∷ o ∷ []) = not (list_any (same_number p) outside)
passes outside triple = false

abbrev pub ends_of : List ℕ → NodePair
ends_of (s ∷ p ∷ o ∷ []) = node_pair s o
ends_of triple = node_pair 0 0

-- the pairs of those triples that pass
abbrev pub passing : List ℕ → List (List ℕ) → List NodePair
passing outside triples = map ends_of (filter (passes outside) triples)

abbrev pub edges_left : Scan → List NodePair
edges_left scan = passing scan.outside.items scan.triples

abbrev pub edges_in : Option Scan → List NodePair
edges_in None = []
edges_in (Some scan) = edges_left scan

-- an end that is the number of no known term
abbrev pub IsPast : Option ℕ → Type 0
IsPast None = ⊥
IsPast (Some n) = 4294967296 ≤ n

-- the numbers are those of the IRIs of the members of this direction, as far as they are known
abbrev pub AreOutside : List Term → Bool → List NegatedIri → List ℕ → Type 0
AreOutside known inverse members outside = (t : Term) (p : ℕ) → term_at known p ≡ Some t
    → list_any (same_number p) outside ≡ list_any (λ m. is_of inverse m
    && same_term (term.Iri m.iri) t) members

-- the number of the member's IRI, where it is of this direction and known
abbrev pub number_out : List Term → Bool → NegatedIri → List ℕ
number_out known inverse m =
    if is_of inverse m then option_to_list (number_of known (term.Iri m.iri)) else []

-- a scan of the triples with these ends and this predicate, or none where an end names no known
-- term
abbrev pub AreScanned : Content → DefaultGraph → Active → Option ℕ → Option ℕ → Option ℕ
    → Option (List (List ℕ)) → Type 0
AreScanned c default active left predicate right None = IsPast left ⊎ IsPast right
AreScanned c default active left predicate right (Some triples) =
    AreTriples c default active left predicate right triples

-- What a quad says, and which terms may stand where in it (RDF 1.1 Concepts, 3.1 and 4).
use Rattle.std.specs.Prelude.{Bool, true, false, ◌&&◌, Option}
use Rattle.std.specs.Option.{option_eq, option_map_or}
use Rattle.qs_terms.specs.Term.{same_term}
use Rattle.qs_terms.specs.declared.term.Term.{Term}
use Rattle.qs_terms.specs.declared.term.Term.TheVariants.{Iri, Literal}

-- a triple of a graph (RDF 1.1 Concepts, 3.1)
pub record Triple : Type 0 where
  pub subject : Term
  pub predicate : Term
  pub object : Term

-- a triple, and the name of its graph, or none for the default graph
pub record Statement : Type 0 where
  pub graph : Option Term
  pub subject : Term
  pub predicate : Term
  pub object : Term

abbrev pub triple_of : Statement → Triple
triple_of q = record { subject = q.subject; predicate = q.predicate; object = q.object }

abbrev pub is_iri : Term → Bool
is_iri (Iri i) = true
is_iri _ = false

-- whether the term may be a subject or the name of a graph
abbrev pub is_node : Term → Bool
is_node (Literal l) = false
is_node _ = true

-- graph and subject are no literals, and the predicate is an IRI
abbrev pub fits_places : Option Term → Term → Term → Bool
fits_places graph subject predicate =
    option_map_or is_node graph true && (is_node subject && is_iri predicate)

-- both the default graph, or both of one name
abbrev pub same_graph : Option Term → Option Term → Bool
same_graph = option_eq same_term

abbrev pub same_triple : Triple → Triple → Bool
same_triple a b = same_term a.subject b.subject
    && (same_term a.predicate b.predicate && same_term a.object b.object)

-- the same in all four places
abbrev pub same_statement : Statement → Statement → Bool
same_statement a b = same_graph a.graph b.graph && same_triple (triple_of a) (triple_of b)

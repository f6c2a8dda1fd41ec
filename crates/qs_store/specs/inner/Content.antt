-- Definitions over those of `Content`, for proofs and the layers between.
use Rattle.std.specs.Prelude.{◌≡◌, List, Some}
use Rattle.std.specs.Bool.{IsTrue}
use Rattle.std.specs.List.{Contains}
use Rattle.qs_terms.specs.Bag.{Distinct}
use Rattle.qs_terms.specs.Dataset.{is_above_blanks}
use Rattle.qs_terms.specs.Term.{same_term}
use Rattle.qs_terms.specs.Statement.{Statement, same_statement, fits_places}
use Rattle.qs_terms.specs.declared.term.Term.{Term}
use Rattle.qs_store.specs.Content.{Content}

-- each quad stands once, the next number is above those of all blank nodes of the quads, and no two
-- known terms are the same
pub record IsContent (c : Content) : Type 0 where
  pub quads_once : Distinct same_statement c.quads
  pub above : IsTrue (is_above_blanks c.next c.quads)
  pub terms_once : Distinct same_term c.known

-- the terms of a quad are known: the name of its graph, where it has one, and its subject,
-- predicate and object
pub record HasKnownTerms (known : List Term) (q : Statement) : Type 0 where
  pub graph : (name : Term) → q.graph ≡ Some name → Contains known name
  pub subject : Contains known q.subject
  pub predicate : Contains known q.predicate
  pub object : Contains known q.object

-- the terms of each quad are known
abbrev pub KnowsItsTerms : Content → Type 0
KnowsItsTerms c = (q : Statement) → Contains c.quads q → HasKnownTerms c.known q

-- graphs and subjects are no literals, and predicates are IRIs (RDF 1.1 Concepts, 3.1 and 4)
abbrev pub AreLawful : List Statement → Type 0
AreLawful quads =
    (q : Statement) → Contains quads q → IsTrue (fits_places q.graph q.subject q.predicate)

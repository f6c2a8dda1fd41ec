-- The triples of a graph, by the numbers of their terms.
use Rattle.std.specs.Prelude.{◌≡◌, ◌≢◌, ℕ, Bool, false, ◌&&◌, List, [], ◌∷◌, map, Option, Some}
use Rattle.std.specs.Prelude.{None}
use Rattle.std.specs.Bool.{IsTrue}
use Rattle.std.specs.List.{Contains}
use Rattle.qs_terms.specs.Statement.{Statement}
use Rattle.qs_terms.specs.declared.term.Term.{Term}
use Rattle.qs_dict.specs.inner.Dict.{term_at}
use Rattle.qs_index.specs.inner.Agreeing.{fits}
use Rattle.qs_index.specs.inner.Entry.{IsAscending}
use Rattle.qs_index.specs.inner.Permutation.{order_used}
use Rattle.qs_index.specs.declared.permutation.Permutation.{Permutation}
use Rattle.qs_index.specs.declared.permutation.Permutation.TheVariants.{Gpos, Gosp, Posg, Ospg}
use Rattle.qs_store.specs.Content.{Content}
use Rattle.qs_store.specs.declared.active.Active.{Active}
use Rattle.qs_store.specs.declared.active.Active.TheVariants.{Default, Graph, Empty}
use Rattle.qs_store.specs.declared.default_graph.DefaultGraph.{DefaultGraph}
use Rattle.qs_store.specs.declared.default_graph.DefaultGraph.TheVariants.{Stored, Union}

-- the number of a graph is that of its name, or 0 for the default graph
abbrev pub IsGraphNumber : List Term → ℕ → Option Term → Type 0
IsGraphNumber known number None = number ≡ 0
IsGraphNumber known number (Some name) = term_at known number ≡ Some name

-- the graph of a quad is one of those that are read (SPARQL 1.1 Query, 13.1: the default graph;
-- 13.3: the active graph): the one with this number, of which 0 is the stored default graph,
-- whatever queries see as theirs; none; or the default graph, which is the stored one, or for a
-- union all named graphs without that
abbrev pub IsActive : List Term → DefaultGraph → Active → Option Term → Type 0
IsActive known default (Graph number) graph = IsGraphNumber known number graph
IsActive known default Empty graph = ⊥
IsActive known Stored Default graph = graph ≡ None
IsActive known Union Default graph = graph ≢ None

-- the numbers s, p and o are those of the subject, predicate and object of a quad of the active
-- graph, and are the ones that are given
pub record IsMatch (c : Content) (default : DefaultGraph) (active : Active)
    (subject predicate object : Option ℕ) (s p o : ℕ) : Type 0 where
  pub quad : Statement
  pub stands : Contains c.quads quad
  pub read : IsActive c.known default active quad.graph
  pub subject_is : term_at c.known s ≡ Some quad.subject
  pub predicate_is : term_at c.known p ≡ Some quad.predicate
  pub object_is : term_at c.known o ≡ Some quad.object
  pub subject_given : IsTrue (fits subject s)
  pub predicate_given : IsTrue (fits predicate p)
  pub object_given : IsTrue (fits object o)

-- the triple of three numbers is one of the active graph that has the given ones
abbrev pub IsTriple : Content → DefaultGraph → Active → Option ℕ → Option ℕ → Option ℕ → List ℕ
    → Type 0
IsTriple c default active subject predicate object (s ∷ p ∷ o ∷ []) =
    IsMatch c default active subject predicate object s p o
IsTriple c default active subject predicate object triple = ⊥

-- a triple with its places in the order of a permutation, whose graph it leaves out
abbrev pub turned_triple : Permutation → List ℕ → List ℕ
turned_triple Gpos (s ∷ p ∷ o ∷ rest) = p ∷ o ∷ s ∷ rest
turned_triple Posg (s ∷ p ∷ o ∷ rest) = p ∷ o ∷ s ∷ rest
turned_triple Gosp (s ∷ p ∷ o ∷ rest) = o ∷ s ∷ p ∷ rest
turned_triple Ospg (s ∷ p ∷ o ∷ rest) = o ∷ s ∷ p ∷ rest
turned_triple permutation triple = triple

-- the triples of the active graph that have the given numbers, each once, ascending in an order
pub record AreTriplesBy (order : Permutation) (c : Content) (default : DefaultGraph)
    (active : Active) (subject predicate object : Option ℕ) (triples : List (List ℕ)) : Type 0 where
  pub ascending : IsAscending (map (turned_triple order) triples)
  pub has : (t : List ℕ) → IsTriple c default active subject predicate object t → Contains triples t
  pub only : (t : List ℕ) → Contains triples t → IsTriple c default active subject predicate object
      t

-- in the order of a scan that gives these numbers
abbrev pub AreTriples : Content → DefaultGraph → Active → Option ℕ → Option ℕ → Option ℕ
    → List (List ℕ) → Type 0
AreTriples c default active subject predicate object triples =
    AreTriplesBy (order_used subject predicate object) c default active subject predicate object
    triples

-- in some order
pub record AreTriplesAnyhow (c : Content) (default : DefaultGraph) (active : Active)
    (subject predicate object : Option ℕ) (triples : List (List ℕ)) : Type 0 where
  pub order : Permutation
  pub in_order : AreTriplesBy order c default active subject predicate object triples

-- whether a triple has the subject, predicate and object that are given
abbrev pub triple_fits : Option ℕ → Option ℕ → Option ℕ → List ℕ → Bool
triple_fits subject predicate object (s ∷ p ∷ o ∷ []) =
    fits subject s && fits predicate p && fits object o
triple_fits subject predicate object triple = false

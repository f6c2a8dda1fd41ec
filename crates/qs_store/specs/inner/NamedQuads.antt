-- The quads of all named graphs, by the numbers of their terms (SPARQL 1.1 Query, 13.3).
use Rattle.std.specs.Prelude.{◌≡◌, ℕ, List, [], ◌∷◌, map, Option, Some}
use Rattle.std.specs.Bool.{IsTrue}
use Rattle.std.specs.List.{Contains}
use Rattle.qs_terms.specs.Statement.{Statement}
use Rattle.qs_terms.specs.declared.term.Term.{Term}
use Rattle.qs_dict.specs.inner.Dict.{term_at}
use Rattle.qs_index.specs.inner.Agreeing.{fits}
use Rattle.qs_index.specs.inner.Entry.{IsAscending}
use Rattle.qs_index.specs.inner.Permutation.{turned, named_order_used}
use Rattle.qs_store.specs.Content.{Content}

-- the numbers are those of the graph's name and of the subject, predicate and object of a quad of a
-- named graph, and are the ones that are given
pub record IsNamedMatch (c : Content) (subject predicate object : Option ℕ) (g s p o : ℕ) : Type
    0 where
  pub quad : Statement
  pub name : Term
  pub stands : Contains c.quads quad
  pub graph : quad.graph ≡ Some name
  pub graph_is : term_at c.known g ≡ Some name
  pub subject_is : term_at c.known s ≡ Some quad.subject
  pub predicate_is : term_at c.known p ≡ Some quad.predicate
  pub object_is : term_at c.known o ≡ Some quad.object
  pub subject_given : IsTrue (fits subject s)
  pub predicate_given : IsTrue (fits predicate p)
  pub object_given : IsTrue (fits object o)

-- the quad of four numbers is one of a named graph that has the given ones
abbrev pub IsNamedQuad : Content → Option ℕ → Option ℕ → Option ℕ → List ℕ → Type 0
IsNamedQuad c subject predicate object (g ∷ s ∷ p ∷ o ∷ []) =
    IsNamedMatch c subject predicate object g s p o
IsNamedQuad c subject predicate object quad = ⊥

-- the quads of all named graphs that have the given numbers, each once, ascending in the order of a
-- scan that gives these
pub record AreNamedQuads (c : Content) (subject predicate object : Option ℕ)
    (quads : List (List ℕ)) : Type 0 where
  pub ascending : IsAscending (map (turned (named_order_used subject predicate object)) quads)
  pub has : (x : List ℕ) → IsNamedQuad c subject predicate object x → Contains quads x
  pub only : (x : List ℕ) → Contains quads x → IsNamedQuad c subject predicate object x

-- The named graphs, by the numbers of their names.
use Rattle.std.specs.Prelude.{◌≡◌, ℕ, List, Some}
use Rattle.std.specs.List.{Contains}
use Rattle.std.specs.List.Sorted.{IsStrictlyIncreasing}
use Rattle.qs_terms.specs.Statement.{Statement}
use Rattle.qs_terms.specs.declared.term.Term.{Term}
use Rattle.qs_dict.specs.inner.Dict.{term_at}
use Rattle.qs_store.specs.Content.{Content}

-- the number is that of the name of a graph that a quad has (RDF 1.1 Concepts, 4: no named graph is
-- empty here)
pub record IsGraph (c : Content) (number : ℕ) : Type 0 where
  pub quad : Statement
  pub name : Term
  pub stands : Contains c.quads quad
  pub graph : quad.graph ≡ Some name
  pub number_is : term_at c.known number ≡ Some name

-- the numbers of the graphs' names, each once, ascending
pub record AreGraphs (c : Content) (numbers : List ℕ) : Type 0 where
  pub ascending : IsStrictlyIncreasing numbers
  pub has : (number : ℕ) → IsGraph c number → Contains numbers number
  pub only : (number : ℕ) → Contains numbers number → IsGraph c number

-- Entries of whole graphs.
use Rattle.std.specs.Prelude.{◌≡◌, ◌≢◌, ◌↔◌, ℕ, ◌<◌, List, ◌∷◌}
use Rattle.std.specs.List.{Contains}
use Rattle.qs_index.specs.inner.Graph.{graph_of}
use Rattle.qs_terms.specs.Statement.{Statement}
use Rattle.qs_terms.specs.declared.term.Term.{Term}
use Rattle.qs_store.specs.inner.Entries.{said, AreEntries}
use Rattle.qs_store.specs.Same.{SameSet}
use Rattle.qs_store.specs.inner.Scans.{triple_of}

-- the triple of an entry of one graph, put into another
pub record IsCopy (entries : List (List ℕ)) (from to : ℕ) (y : List ℕ) : Type 0 where
  pub entry : List ℕ
  pub stands : Contains entries entry
  pub graph : graph_of entry ≡ from
  pub is : y ≡ to ∷ triple_of entry

-- the entries of one graph, put into another
pub record AreCopies (entries : List (List ℕ)) (from to : ℕ) (found : List (List ℕ)) : Type 0 where
  pub has : (x : List ℕ) → Contains entries x → graph_of x ≡ from
      → Contains found (to ∷ triple_of x)
  pub only : (y : List ℕ) → Contains found y → IsCopy entries from to y

-- the entries of these graphs
pub record AreInGraphs (entries : List (List ℕ)) (graphs : List ℕ) (found : List (List ℕ)) : Type
    0 where
  pub has : (x : List ℕ) → Contains entries x → Contains graphs (graph_of x) → Contains found x
  pub only : (x : List ℕ) → Contains found x → Contains entries x × Contains graphs (graph_of x)

-- the entries of all named graphs
abbrev pub AreNamed : List (List ℕ) → List (List ℕ) → Type 0
AreNamed entries found = (x : List ℕ) → Contains found x ↔ (Contains entries x × (0 < graph_of x))

-- the entries of a list that are of other graphs
abbrev pub IsWithoutGraph : ℕ → List (List ℕ) → List (List ℕ) → Type 0
IsWithoutGraph graph old new =
    (x : List ℕ) → Contains new x ↔ (Contains old x × (graph_of x ≢ graph))

-- entries over these terms, which say the quads of a list
pub record AreEntriesOf (terms : List Term) (quads : List Statement) (found : List (List ℕ)) : Type
    0 where
  pub entries : AreEntries terms found
  pub says : SameSet (said terms found) quads

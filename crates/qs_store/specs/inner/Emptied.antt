-- Graphs of which a draft has removed all entries of its store.
use Rattle.std.specs.Prelude.{◌≡◌, ◌⊎◌, ℕ, true, List}
use Rattle.std.specs.List.{All, Contains}
use Rattle.qs_index.specs.inner.Entry.{IsAscending}
use Rattle.qs_index.specs.inner.Graph.{graph_of, is_named}
use Rattle.qs_store.specs.declared.graphs.Graphs.{Graphs}
use Rattle.qs_store.specs.declared.graphs.Graphs.TheVariants.{Nothing, One, Named}

-- an entry of these graphs
abbrev pub IsOf : Graphs → List ℕ → Type 0
IsOf Nothing x = ⊥
IsOf (One graph) x = graph_of x ≡ graph
IsOf Named x = is_named x ≡ true

-- all entries of these graphs are removed
abbrev pub AreOut : Graphs → List (List ℕ) → List (List ℕ) → Type 0
AreOut graphs index removed = (x : List ℕ) → Contains index x → IsOf graphs x → Contains removed x

-- all entries of each of these graphs are removed
abbrev pub AreEmptied : List (List ℕ) → List (List ℕ) → List ℕ → Type 0
AreEmptied index removed graphs = All (λ graph. AreOut (One graph) index removed) graphs

-- each entry that is removed stands, and each once
pub record IsRemoval (index removed : List (List ℕ)) : Type 0 where
  pub once : IsAscending removed
  pub taken : (x : List ℕ) → Contains removed x → Contains index x

-- the removed entries, with all of a graph that stand
pub record RemovesGraph (graph : ℕ) (index old new : List (List ℕ)) : Type 0 where
  pub once : IsAscending new
  pub kept : (x : List ℕ) → Contains old x → Contains new x
  pub all : (x : List ℕ) → Contains index x → graph_of x ≡ graph → Contains new x
  pub only : (x : List ℕ) → Contains new x → Contains old x
      ⊎ (Contains index x × (graph_of x ≡ graph))

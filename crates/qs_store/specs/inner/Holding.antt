-- The named graphs of entries.
use Rattle.std.specs.Prelude.{◌≡◌, ℕ, ◌<◌, ◌≤◌, List}
use Rattle.std.specs.List.{Contains}
use Rattle.std.specs.List.Sorted.{IsStrictlyIncreasing}
use Rattle.qs_index.specs.inner.Graph.{graph_of}

-- an entry of the graph
pub record HasGraph (entries : List (List ℕ)) (graph : ℕ) : Type 0 where
  pub entry : List ℕ
  pub stands : Contains entries entry
  pub is : graph_of entry ≡ graph

-- no entry has a graph number between these two
pub record IsNextIn (entries : List (List ℕ)) (after graph : ℕ) : Type 0 where
  pub above : after < graph
  pub least : (x : List ℕ) → Contains entries x → after < graph_of x → graph ≤ graph_of x

-- no entry has a greater graph number
abbrev pub AreWithin : List (List ℕ) → ℕ → Type 0
AreWithin entries after = (x : List ℕ) → Contains entries x → graph_of x ≤ after

-- the named graphs up to a number
pub record AreGraphsUpTo (entries : List (List ℕ)) (after : ℕ) (numbers : List ℕ) : Type 0 where
  pub ascending : IsStrictlyIncreasing numbers
  pub within : (n : ℕ) → Contains numbers n → n ≤ after
  pub has : (x : List ℕ) → Contains entries x → 0 < graph_of x → graph_of x ≤ after
      → Contains numbers (graph_of x)
  pub named : (n : ℕ) → Contains numbers n → 0 < n
  pub only : (n : ℕ) → Contains numbers n → HasGraph entries n

-- the named graphs of all entries
pub record AreGraphsOf (entries : List (List ℕ)) (numbers : List ℕ) : Type 0 where
  pub ascending : IsStrictlyIncreasing numbers
  pub has : (x : List ℕ) → Contains entries x → 0 < graph_of x → Contains numbers (graph_of x)
  pub named : (n : ℕ) → Contains numbers n → 0 < n
  pub only : (n : ℕ) → Contains numbers n → HasGraph entries n

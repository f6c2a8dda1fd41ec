-- The graphs of entries, and the entries of named graphs.
use Rattle.std.specs.Prelude.{◌≡◌, ℕ, ◌<◌, ◌≤◌, Bool, not, ◌==◌, List, slice_index}
use Rattle.std.specs.List.{All, Contains, filter}

-- the graph number of an entry
abbrev pub graph_of : List ℕ → ℕ
graph_of entry = slice_index entry 0

-- whether the entry is of a named graph; graph 0 is the default graph
abbrev pub is_named : List ℕ → Bool
is_named entry = not (graph_of entry == 0)

-- the entries of named graphs
abbrev pub named_entries : List (List ℕ) → List (List ℕ)
named_entries entries = filter is_named entries

-- the least graph number above `after` that an entry has
pub record IsNextGraph (entries : List (List ℕ)) (after graph : ℕ) : Type 0 where
  pub above : after < graph
  pub some : (entry : List ℕ) × Contains entries entry × (graph_of entry ≡ graph)
  pub least : All (λ entry. after < graph_of entry → graph ≤ graph_of entry) entries

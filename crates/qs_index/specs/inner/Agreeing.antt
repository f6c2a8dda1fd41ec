-- The entries that agree with what a scan gives: those of a graph, or of all named graphs.
use Rattle.std.specs.Prelude.{ℕ, Bool, true, false, ◌==◌, ◌&&◌, List, [], ◌∷◌, Option, Some, None}
use Rattle.std.specs.List.{filter}
use Rattle.qs_index.specs.inner.Graph.{named_entries}

-- whether a number is the one that is given, if one is
abbrev pub fits : Option ℕ → ℕ → Bool
fits None x = true
fits (Some y) x = x == y

-- whether an entry has the places that are given: its graph, and each of subject, predicate and
-- object that is
abbrev pub agrees : ℕ → Option ℕ → Option ℕ → Option ℕ → List ℕ → Bool
agrees graph subject predicate object (g ∷ s ∷ p ∷ o ∷ []) =
    (g == graph) && fits subject s && fits predicate p && fits object o
agrees graph subject predicate object entry = false

-- the entries that have the places that are given
abbrev pub agreeing : ℕ → Option ℕ → Option ℕ → Option ℕ → List (List ℕ) → List (List ℕ)
agreeing graph subject predicate object entries =
    filter (agrees graph subject predicate object) entries

-- whether an entry of any graph has the subject, predicate and object that are given
abbrev pub agrees_anywhere : Option ℕ → Option ℕ → Option ℕ → List ℕ → Bool
agrees_anywhere subject predicate object (g ∷ s ∷ p ∷ o ∷ []) =
    fits subject s && fits predicate p && fits object o
agrees_anywhere subject predicate object entry = false

-- the entries of all named graphs that have the places that are given
abbrev pub agreeing_named : Option ℕ → Option ℕ → Option ℕ → List (List ℕ) → List (List ℕ)
agreeing_named subject predicate object entries =
    filter (agrees_anywhere subject predicate object) (named_entries entries)

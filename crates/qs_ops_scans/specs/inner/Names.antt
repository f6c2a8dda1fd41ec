-- Rows with the names of graphs.
use Rattle.std.specs.Prelude.{◌≡◌, ℕ, Bool, List, map, Some, slice_set}
use Rattle.std.specs.List.{list_any}
use Rattle.qs_terms.specs.Dataset.{names_of}
use Rattle.qs_terms.specs.Term.{same_term}
use Rattle.qs_terms.specs.declared.term.Term.{Term}
use Rattle.qs_dict.specs.inner.Dict.{term_at}
use Rattle.qs_store.specs.inner.ActiveGraph.{IsSeen}
use Rattle.qs_store.specs.Content.{Content}
use Rattle.qs_expr.specs.declared.cell.Cell.TheVariants.{Known}
use Rattle.qs_expr.specs.inner.Cell.{Cells}

-- the row with the register holding each of these numbers in turn
abbrev pub rows_named : ℕ → Cells → List ℕ → List Cells
rows_named r m numbers = map (λ n. slice_set m r (Some (Known n))) numbers

-- whether some quad is in the graph of the name with this number
abbrev pub HasQuads : Content → ℕ → Bool → Type 0
HasQuads c n result = (name : Term) → IsSeen c → term_at c.known n ≡ Some name
    → result ≡ list_any (same_term name) (names_of c.quads)

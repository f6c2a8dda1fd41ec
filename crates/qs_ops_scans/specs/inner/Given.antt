-- The ends that a path is given for a row.
use Rattle.std.specs.Prelude.{◌≡◌, ◌⊎◌, Bool, true, false, List, Option, None, Some}
use Rattle.std.specs.List.{list_any}
use Rattle.qs_terms.specs.Dataset.{nodes_of}
use Rattle.qs_terms.specs.Term.{same_term}
use Rattle.qs_terms.specs.declared.term.Term.{Term}
use Rattle.qs_algebra_patterns.specs.Basic.{Graph}
use Rattle.qs_expr.specs.declared.cell.Cell.{Cell}
use Rattle.qs_expr.specs.inner.Cell.{denoted}
use Rattle.qs_expr.specs.inner.Scratch.{IsTable}

-- the answer tells whether the cell's term is a node of the graph
abbrev pub TellsNode : List Term → Graph → Cell → Bool → Type 0
TellsNode known graph cell b =
    (table : List Term) (t : Term) → IsTable known table → denoted known table cell ≡ Some t
    → b ≡ list_any (same_term t) (nodes_of graph)

-- the text leaves the end open, and the row's cell is given, which is a node
pub record IsNodeGiven
    (known : List Term) (graph : Graph) (text bound end : Option Cell) : Type 0 where
  pub cell : Cell
  pub free : text ≡ None
  pub has : bound ≡ Some cell
  pub is : end ≡ Some cell
  pub node : TellsNode known graph cell true

-- the text leaves the end open, and the row's cell is no node, nor what the text gives at the
-- other end
pub record IsOutside
    (known : List Term) (graph : Graph) (text other bound : Option Cell) : Type 0 where
  pub cell : Cell
  pub free : text ≡ None
  pub has : bound ≡ Some cell
  pub apart : other ≡ Some cell → ⊥
  pub node : TellsNode known graph cell false

-- the end that a path is given, by the text's ends at this and the other side, and by the row's
-- cell; none where no pair has that
abbrev pub IsGiven :
    List Term → Graph → Option Cell → Option Cell → Option Cell → Option (Option Cell) → Type 0
IsGiven known graph text other bound None = IsOutside known graph text other bound
IsGiven known graph text other bound (Some end) =
    (end ≡ text) ⊎ IsNodeGiven known graph text bound end

-- The pairs of a path pattern that are kept.
use Rattle.std.specs.Prelude.{◌≡◌, Bool, true, false, not, ◌||◌, List, [], ◌∷◌, ◌++◌, None, Some}
use Rattle.std.specs.Prelude.{Ok, if◌then◌else◌}
use Rattle.std.specs.List.{filter}
use Rattle.qs_terms.specs.Term.{same_term}
use Rattle.qs_terms.specs.declared.term.Term.{Term}
use Rattle.qs_store.specs.Content.{Content}
use Rattle.qs_store.specs.declared.default_graph.DefaultGraph.{DefaultGraph}
use Rattle.qs_paths_meaning.specs.Pair.{Pair}
use Rattle.qs_expr.specs.declared.cell.Cell.{Cell}
use Rattle.qs_expr.specs.inner.Cell.{same_cell}
use Rattle.qs_expr.specs.inner.Scratch.{IsTable}
use Rattle.qs_paths.specs.inner.Coming.{GivesPair, IsToCome}
use Rattle.qs_paths.specs.declared.stream.Pairs.{Pairs}
use Rattle.qs_paths.specs.inner.Seen.{known_in}
use Rattle.qs_ops_scans.specs.inner.Paths.{ArePairs}

-- both ends are one term, where they are to be
abbrev pub keeps : Bool → Pair → Bool
keeps repeated e = not repeated || same_term e.left e.right

abbrev pub kept_with : Bool → List (Cell × Cell) → Cell × Cell → List (Cell × Cell)
kept_with repeated kept cells =
    if not repeated || same_cell cells.0 cells.1 then kept ++ cells ∷ [] else kept

-- by each table the cells denote those of the pairs still to come that are kept
abbrev pub AreCollected : {V : Type 0} → (V → Content) → (V → DefaultGraph) → Pairs V → Bool
    → List (Cell × Cell) → Type 0
AreCollected content default pairs repeated kept =
    (table : List Term) (ps : List Pair) → IsTable (known_in content pairs.edges) table
    → IsToCome content default table pairs ps
    → ArePairs (known_in content pairs.edges) table kept (filter (keeps repeated) ps)

-- the next pair was taken, and is kept where its ends are as they are to be
pub record TakesOne {V : Type 0} (content : V → Content) (default : V → DefaultGraph)
    (repeated : Bool) (old : Pairs V) (kept : List (Cell × Cell)) (new : Pairs V)
    (kept' : List (Cell × Cell)) : Type 0 where
  pub cells : Cell × Cell
  pub gives : GivesPair content default old (Some (Ok cells)) new
  pub is : kept' ≡ kept_with repeated kept cells

-- there was none
pub record TakesNone {V : Type 0} (content : V → Content) (default : V → DefaultGraph)
    (old : Pairs V) (kept : List (Cell × Cell)) (new : Pairs V) (kept' : List (Cell × Cell)) : Type
    0 where
  pub gives : GivesPair content default old None new
  pub is : kept' ≡ kept

abbrev pub IsTaken : {V : Type 0} → (V → Content) → (V → DefaultGraph) → Bool → Pairs V
    → List (Cell × Cell) → Bool → Pairs V → List (Cell × Cell) → Type 0
IsTaken content default repeated old kept true new kept' =
    TakesOne content default repeated old kept new kept'
IsTaken content default repeated old kept false new kept' =
    TakesNone content default old kept new kept'

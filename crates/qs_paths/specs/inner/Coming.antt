-- The pairs of cells that `pairs` hands out (SPARQL 1.1 Query, 9 and 18.4).
use Rattle.std.specs.Prelude.{◌≡◌, ℕ, List, [], ◌∷◌, map, Option, None, Some, Result, Ok, Err}
use Rattle.qs_terms.specs.declared.fault.QFault.{QFault}
use Rattle.qs_terms.specs.declared.fault.QFault.TheVariants.{Memory}
use Rattle.qs_terms.specs.declared.term.Term.{Term}
use Rattle.qs_terms.specs.Bag.{SameBag}
use Rattle.qs_store.specs.Content.{Content}
use Rattle.qs_store.specs.declared.default_graph.DefaultGraph.{DefaultGraph}
use Rattle.qs_paths_meaning.specs.Pair.{Pair, pair}
use Rattle.qs_paths_meaning.specs.inner.Walk.{IsIn}
use Rattle.qs_expr.specs.declared.cell.Cell.{Cell}
use Rattle.qs_expr.specs.inner.Cell.{denoted}
use Rattle.qs_paths.specs.declared.stream.Pairs.{Pairs}
use Rattle.qs_paths.specs.inner.Nodes.{IsNaming, IsTooFar, cell_of}
use Rattle.qs_paths.specs.inner.Seen.{graph_in, known_in}
use Rattle.qs_paths.specs.inner.State.{HasFailedIn, IsLeftIn}

-- a number's cell denotes what the number names, where that is an end of one of these pairs
pub record AreDenoted (known table : List Term) (name : ℕ → Term) (ps : List Pair) : Type 0 where
  pub left : (n : ℕ) (e : Pair) → IsIn ps e → e.left ≡ name n → denoted known table (cell_of n)
      ≡ Some (name n)
  pub right : (n : ℕ) (e : Pair) → IsIn ps e → e.right ≡ name n → denoted known table (cell_of n)
      ≡ Some (name n)

-- by this scratch table these are the pairs still to come, in any order. Nothing but the clauses of
-- `pairs` and of `next` need be known of it: it holds of the path's bag at first, and then of what
-- an answer leaves
pub record IsToCome {V : Type 0} (content : V → Content) (default : V → DefaultGraph)
    (table : List Term) (pairs : Pairs V) (ps : List Pair) : Type 0 where
  pub name : ℕ → Term
  pub naming : IsNaming (known_in content pairs.edges) name
  pub denoted : AreDenoted (known_in content pairs.edges) table name ps
  pub left : IsLeftIn (graph_in content default pairs.edges) name pairs.request pairs.turned
      pairs.state ps

-- an end is so late a place of the scratch table that no number is left for it; no table of this
-- machine has a term there
abbrev pub IsEndTooFar : Option Cell → Type 0
IsEndTooFar None = ⊥
IsEndTooFar (Some cell) = IsTooFar cell

-- a fault was answered, and will be from now on
abbrev pub HasFailed : {V : Type 0} → Pairs V → Type 0
HasFailed pairs = HasFailedIn pairs.request pairs.state

-- the cells denote one of these pairs, and the others are still to come
pub record HandsOut {V : Type 0} (content : V → Content) (default : V → DefaultGraph)
    (table : List Term) (ps : List Pair) (cells : Cell × Cell) (new : Pairs V) : Type 0 where
  pub pair : Pair
  pub rest : List Pair
  pub left : denoted (known_in content new.edges) table cells.0 ≡ Some pair.left
  pub right : denoted (known_in content new.edges) table cells.1 ≡ Some pair.right
  pub bag : SameBag ps (pair ∷ rest)
  pub others : IsToCome content default table new rest

-- none is left, and none will be
pub record IsOver {V : Type 0} (content : V → Content) (default : V → DefaultGraph)
    (table : List Term) (ps : List Pair) (new : Pairs V) : Type 0 where
  pub none : ps ≡ []
  pub over : IsToCome content default table new []

-- what the next answer says, by each scratch table
abbrev pub Answers : {V : Type 0} → (V → Content) → (V → DefaultGraph) → Pairs V
    → Option (Result (Cell × Cell) QFault) → Pairs V → Type 0
Answers content default old None new = (table : List Term) (ps : List Pair)
    → IsToCome content default table old ps → IsOver content default table ps new
Answers content default old (Some (Ok cells)) new = (table : List Term) (ps : List Pair)
    → IsToCome content default table old ps → HandsOut content default table ps cells new
Answers content default old (Some (Err fault)) new = (fault ≡ Memory) × HasFailed new

-- an answer, which is a fault again after a fault, by the same dictionary
pub record GivesPair {V : Type 0} (content : V → Content) (default : V → DefaultGraph)
    (old : Pairs V) (answer : Option (Result (Cell × Cell) QFault)) (new : Pairs V) : Type 0 where
  pub answers : Answers content default old answer new
  pub again : HasFailed old → answer ≡ Some (Err Memory)
  pub known : known_in content new.edges ≡ known_in content old.edges

-- the pair of terms that two cells denote
abbrev pub pair_if : Option Term → Option Term → Option Pair
pair_if None right = None
pair_if (Some x) None = None
pair_if (Some x) (Some y) = Some (pair x y)

abbrev pub denoted_pair : List Term → List Term → Cell × Cell → Option Pair
denoted_pair known table cells = pair_if (denoted known table cells.0) (denoted known table cells.1)

-- by each scratch table the cells denote the pairs still to come, in any order
abbrev pub AreAll : {V : Type 0} → (V → Content) → (V → DefaultGraph) → Pairs V → List (Cell × Cell)
    → Type 0
AreAll content default pairs cells = (table : List Term) (ps : List Pair)
    → IsToCome content default table pairs ps
    → SameBag (map (denoted_pair (known_in content pairs.edges) table) cells) (map Some ps)

-- What the states of `Pairs` have still to give.
use Rattle.std.specs.Prelude.{◌≡◌, ◌≢◌, ◌≤◌, ℕ, Bool, true, false, not, List, [], ◌∷◌, ◌++◌, length}
use Rattle.std.specs.Prelude.{map, take, drop, Option, None, Some}
use Rattle.std.specs.List.{filter, list_any}
use Rattle.qs_terms.specs.declared.term.Term.{Term}
use Rattle.qs_terms.specs.Bag.{SameBag}
use Rattle.qs_terms.specs.Term.{same_term}
use Rattle.qs_syntax_tree.specs.declared.path.Repetition.{Repetition}
use Rattle.qs_syntax_tree.specs.declared.path.Repetition.TheVariants.{ZeroOrOne}
use Rattle.qs_syntax_ast.specs.declared.path.Path.{Path}
use Rattle.qs_paths_meaning.specs.Closure.{ends}
use Rattle.qs_paths_meaning.specs.inner.Steps.{from_start}
use Rattle.qs_paths_meaning.specs.Pair.{Pair, pair, swapped}
use Rattle.qs_paths_meaning.specs.Pairs.{AtEnds, is_step, pairs}
use Rattle.qs_paths_meaning.specs.Steps.{Graph, agrees, is_outside}
use Rattle.qs_paths_meaning.specs.inner.Steps.{against}
use Rattle.qs_paths_meaning.specs.inner.Found.{turned}
use Rattle.qs_paths_meaning.proofs.Near.{tied}
use Rattle.qs_paths_meaning.proofs.Search.{Searching}
use Rattle.qs_paths_meaning.proofs.Turned.{tied_turned}
use Rattle.qs_paths.specs.declared.node.NodePair.{NodePair}
use Rattle.qs_paths.specs.declared.walk.Walk.{Walk}
use Rattle.qs_paths.specs.declared.stretch.More.{More}
use Rattle.qs_paths.specs.declared.stretch.Stretch.{Stretch}
use Rattle.qs_paths.specs.declared.state.Request.{Request}
use Rattle.qs_paths.specs.declared.state.Rows.{Rows}
use Rattle.qs_paths.specs.declared.state.State.{State}
use Rattle.qs_paths.specs.declared.state.State.TheVariants as state
use Rattle.qs_expr.specs.declared.cell.Cell.{Cell}
use Rattle.qs_paths.specs.inner.Nodes.{IsNaming, named_end, named_pair, named_pairs, names}
use Rattle.qs_paths.specs.inner.Nodes.{node_cells, node_pair, swapped_nodes}
use Rattle.qs_paths.specs.inner.Scans.{edges_in}

-- ---- one pair after another

-- the pair is one of ps, and the others are left; none is answered only where there are none
abbrev pub GivesOne : {S : Type 0} → (S → List Pair → Type 0) → (ℕ → Term) → List Pair
    → Option NodePair → S → Type 0
GivesOne Left name ps None new = (ps ≡ []) × Left new []
GivesOne Left name ps (Some e) new =
    (rest : List Pair) × (SameBag ps (named_pair name e ∷ rest) × Left new rest)

abbrev pub turned_pairs : Bool → List Pair → List Pair
turned_pairs false ps = ps
turned_pairs true ps = map swapped ps

-- ---- walks

-- a walk's pair: backwards, it leads into the start
abbrev pub pair_towards : Bool → ℕ → ℕ → NodePair
pair_towards false start n = node_pair start n
pair_towards true start n = node_pair n start

abbrev pub walked_pair : Walk → ℕ → NodePair
walked_pair walk n = pair_towards walk.backward walk.start n

-- what a walk follows: the path, or its inverse
abbrev pub followed : Graph → Walk → AtEnds
followed graph walk = turned walk.backward (pairs graph walk.path.now)

-- the search of a walk, between two steps
abbrev pub IsSearch : Graph → (ℕ → Term) → Walk → Type 0
IsSearch graph name walk =
    Searching graph (followed graph walk)
    (tied_turned graph walk.backward (pairs graph walk.path.now) (tied graph walk.path.now))
    (name walk.start) walk.repetition (names name walk.found.nodes.keys) walk.at

-- a term that wasn't handed out yet
abbrev pub is_new : (ℕ → Term) → Walk → Term → Bool
is_new name walk y =
    not (list_any (same_term y) (names name (take walk.given walk.found.nodes.keys)))

-- the pairs with those ends of the closure that weren't handed out yet
abbrev pub walk_left : Graph → (ℕ → Term) → Walk → List Pair
walk_left graph name walk =
    turned_pairs walk.backward
    (map (pair (name walk.start))
    (filter (agrees (named_end name walk.end))
    (filter (is_new name walk) (ends walk.repetition (is_step (followed graph walk)) graph
    (name walk.start)))))

-- the pairs that the walk has still to give
pub record IsWalking (graph : Graph) (name : ℕ → Term) (walk : Walk) (ps : List Pair) : Type 0 where
  pub closing : walk.repetition ≢ ZeroOrOne
  pub search : IsSearch graph name walk
  pub given : walk.given ≤ length walk.found.nodes.keys
  pub left : SameBag ps (walk_left graph name walk)

-- a walk that begins has all pairs of the closure from its start to give
abbrev pub Starts : List Term → Graph → Path → Repetition → Bool → ℕ → Option ℕ → Walk → Type 0
Starts known graph path repetition backward start end walk =
    (name : ℕ → Term) → IsNaming known name → (ps : List Pair)
    → SameBag ps
    (turned_pairs backward (from_start repetition (is_step (turned backward (pairs graph path)))
    graph (named_end name end) (name start)))
    → IsWalking graph name walk ps

-- the walk still has the same pairs to give, of which none is left where the answer is no
abbrev pub FindsNext : List Term → Graph → Walk → Bool → Walk → Type 0
FindsNext known graph old b new = (name : ℕ → Term) → IsNaming known name → (ps : List Pair)
    → IsWalking graph name old ps → IsWalking graph name new ps × (b ≡ false → ps ≡ [])

abbrev pub GivesWalked : List Term → Graph → Walk → Option NodePair → Walk → Type 0
GivesWalked known graph old o new = (name : ℕ → Term) → IsNaming known name → (ps : List Pair)
    → IsWalking graph name old ps → GivesOne (IsWalking graph name) name ps o new

-- ---- scans

abbrev pub more_pairs : Graph → (ℕ → Term) → Option More → List Pair
more_pairs graph name None = []
more_pairs graph name (Some more) =
    against (is_outside true more.members.now) graph (named_end name more.left)
    (named_end name more.right)

-- the pairs of the scan, and those of the inverse part of a negated set
pub record IsStretch (graph : Graph) (name : ℕ → Term) (s : Stretch) (ps : List Pair) : Type 0 where
  pub left : SameBag ps (turned_pairs s.turned (named_pairs name (edges_in s.scan))
      ++ more_pairs graph name s.more)

-- the stretch has all pairs at these ends to give
abbrev pub OpensStretch : List Term → Graph → AtEnds → Option ℕ → Option ℕ → Stretch → Type 0
OpensStretch known graph f left right s = (name : ℕ → Term) → IsNaming known name → (ps : List Pair)
    → SameBag ps (f (named_end name left) (named_end name right)) → IsStretch graph name s ps

abbrev pub GivesEdge : List Term → Graph → Stretch → Option NodePair → Stretch → Type 0
GivesEdge known graph old o new = (name : ℕ → Term) → IsNaming known name → (ps : List Pair)
    → IsStretch graph name old ps → GivesOne (IsStretch graph name) name ps o new

-- ---- pairs that were found whole

pub record AreRows (name : ℕ → Term) (r : Rows) (ps : List Pair) : Type 0 where
  pub left : SameBag ps (named_pairs name (drop r.at r.rows.items))

abbrev pub GivesRow : Rows → Option NodePair → Rows → Type 0
GivesRow old o new = (name : ℕ → Term) (ps : List Pair) → AreRows name old ps
    → GivesOne (AreRows name) name ps o new

-- ---- states

abbrev pub IsLeft : Graph → (ℕ → Term) → State → List Pair → Type 0
IsLeft graph name (state.Whole rows) ps = AreRows name rows ps
IsLeft graph name (state.Edges stretch) ps = IsStretch graph name stretch ps
IsLeft graph name (state.Walked walk) ps = IsWalking graph name walk ps
IsLeft graph name state.Failed ps = Unit {0}

-- before the first pair is asked for, and afterwards
abbrev pub IsLeftIn : Graph → (ℕ → Term) → Option Request → Bool → State → List Pair → Type 0
IsLeftIn graph name (Some q) turned s ps =
    SameBag ps (pairs graph q.path.now (named_end name q.left) (named_end name q.right))
IsLeftIn graph name None turned s ps = IsLeft graph name s (turned_pairs turned ps)

-- what a request is opened as
abbrev pub Opens : List Term → Graph → Request → Bool → State → Type 0
Opens known graph q turned s = (name : ℕ → Term) → IsNaming known name → (ps : List Pair)
    → SameBag ps (pairs graph q.path.now (named_end name q.left) (named_end name q.right))
    → IsLeft graph name s (turned_pairs turned ps)

-- what a path is opened as, at these ends
abbrev pub OpensAt : List Term → Graph → Path → Option ℕ → Option ℕ → State → Type 0
OpensAt known graph path left right s = (name : ℕ → Term) → IsNaming known name → (ps : List Pair)
    → SameBag ps (pairs graph path (named_end name left) (named_end name right))
    → IsLeft graph name s ps

abbrev pub GivesLeft : List Term → Graph → State → Option NodePair → State → Type 0
GivesLeft known graph old o new = (name : ℕ → Term) → IsNaming known name → (ps : List Pair)
    → IsLeft graph name old ps → GivesOne (IsLeft graph name) name ps o new

abbrev pub turn : Bool → NodePair → NodePair
turn false e = e
turn true e = swapped_nodes e

abbrev pub turned_cells : Bool → NodePair → Cell × Cell
turned_cells b e = node_cells (turn b e)

-- one step of all: the pair that is answered is turned as the state says afterwards
abbrev pub GivesStep : List Term → Graph → Option Request → Bool → State → Option NodePair
    → Option Request → Bool → State → Type 0
GivesStep known graph q t s None q' t' s' = (name : ℕ → Term) → IsNaming known name
    → (ps : List Pair) → IsLeftIn graph name q t s ps → (ps ≡ []) × IsLeftIn graph name q' t' s' []
GivesStep known graph q t s (Some e) q' t' s' = (name : ℕ → Term) → IsNaming known name
    → (ps : List Pair) → IsLeftIn graph name q t s ps → (rest : List Pair)
    × (SameBag ps (named_pair name (turn t' e) ∷ rest) × IsLeftIn graph name q' t' s' rest)

abbrev pub HasFailedIn : Option Request → State → Type 0
HasFailedIn q s = (q ≡ None) × (s ≡ state.Failed)

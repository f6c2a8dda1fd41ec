-- Nodes by numbers, and the terms that the numbers name.
use Rattle.std.specs.Prelude.{◌≡◌, ◌≢◌, ℕ, ◌+◌, ◌-◌, ◌^◌, ◌≤◌, ◌==◌, Bool, true, false, ◌||◌, List}
use Rattle.std.specs.Prelude.{[], ◌∷◌, map, Option, None, Some, nat_lt, if◌then◌else◌}
use Rattle.std.specs.List.{filter, flat_map, list_any}
use Rattle.qs_terms.specs.declared.term.Term.{Term}
use Rattle.qs_terms.specs.Bag.{SameBag}
use Rattle.qs_terms.specs.Dataset.{nodes_of}
use Rattle.qs_terms.specs.Term.{same_term}
use Rattle.qs_dict.specs.inner.Dict.{term_at}
use Rattle.qs_syntax_tree.specs.declared.path.Repetition.{Repetition}
use Rattle.qs_syntax_ast.specs.declared.path.NegatedIri.{NegatedIri}
use Rattle.qs_syntax_ast.specs.declared.path.Path.{Path}
use Rattle.qs_paths_meaning.specs.Closure.{ends}
use Rattle.qs_paths_meaning.specs.inner.Steps.{from_start}
use Rattle.qs_paths_meaning.specs.Pair.{Pair, pair}
use Rattle.qs_paths_meaning.specs.Pairs.{AtEnds, is_step, pairs}
use Rattle.qs_paths_meaning.specs.Steps.{Graph, along, composed, is_none, is_of}
use Rattle.qs_paths_meaning.specs.inner.Steps.{against}
use Rattle.qs_paths_meaning.specs.Steps.{is_outside}
use Rattle.qs_paths_meaning.specs.inner.Found.{Holds, begins}
use Rattle.qs_paths_meaning.specs.inner.Links as starting
use Rattle.qs_paths_meaning.specs.inner.Links.{same_number}
use Rattle.qs_expr.specs.declared.cell.Cell.{Cell}
use Rattle.qs_expr.specs.declared.cell.Cell.TheVariants.{Known, Scratch}
use Rattle.qs_paths.specs.declared.node.NodePair.{NodePair}

-- the cell of a node's number: the numbers of known terms come first, then the places of the
-- scratch table
abbrev pub cell_of : ℕ → Cell
cell_of n = if nat_lt n 4294967296 then Known n else Scratch (n - 4294967296)

-- the cell has no number, since that would be past the greatest
abbrev pub IsTooFar : Cell → Type 0
IsTooFar (Known n) = ⊥
IsTooFar (Scratch place) = 2 ^ 64 ≤ place + 2 ^ 32

-- numbers name the same term only where they are equal
abbrev pub AreApart : (ℕ → Term) → Type 0
AreApart name = (n m : ℕ) → same_term (name n) (name m) ≡ same_number n m

-- they do, and a known term has the name of its number
pub record IsNaming (known : List Term) (name : ℕ → Term) : Type 0 where
  pub apart : AreApart name
  pub own : (n : ℕ) (t : Term) → term_at known n ≡ Some t → name n ≡ t

abbrev pub names : (ℕ → Term) → List ℕ → List Term
names name ns = map name ns

abbrev pub named_end : (ℕ → Term) → Option ℕ → Option Term
named_end name None = None
named_end name (Some n) = Some (name n)

abbrev pub node_pair : ℕ → ℕ → NodePair
node_pair x y = record { left = x; right = y }

abbrev pub swapped_nodes : NodePair → NodePair
swapped_nodes e = node_pair e.right e.left

abbrev pub named_pair : (ℕ → Term) → NodePair → Pair
named_pair name e = pair (name e.left) (name e.right)

abbrev pub named_pairs : (ℕ → Term) → List NodePair → List Pair
named_pairs name es = map (named_pair name) es

abbrev pub node_cells : NodePair → Cell × Cell
node_cells e = (cell_of e.left, cell_of e.right)

abbrev pub both_ends : NodePair → List ℕ
both_ends e = e.left ∷ e.right ∷ []

-- ---- pairs put together

-- (x, z) for each (y, z), where the first is (x, y)
abbrev pub from_nodes : List NodePair → NodePair → List NodePair
from_nodes qs e = map (λ f. node_pair e.left f.right) (filter (λ f. same_number e.right f.left) qs)

-- (x, z) for each (x, y), where the second is (y, z)
abbrev pub into_nodes : List NodePair → NodePair → List NodePair
into_nodes ps f = map (λ e. node_pair e.left f.right) (filter (λ e. same_number e.right f.left) ps)

-- an end is this number, or open
abbrev pub agrees_node : Option ℕ → ℕ → Bool
agrees_node None n = true
agrees_node (Some e) n = same_number e n

-- the right end of the parts up to this place of a sequence of so many
abbrev pub end_at : ℕ → ℕ → Option ℕ → Option ℕ
end_at at count right = if at == count then right else None

-- the pairs of all the paths, one after another
abbrev pub any_of : Graph → List Path → AtEnds
any_of graph parts left right = flat_map (λ part. pairs graph part left right) parts

-- ---- the two parts of a negated set

abbrev pub forward_pairs : List NegatedIri → Graph → AtEnds
forward_pairs members graph left right = if list_any (is_of false) members || is_none members
    then along (is_outside false members) graph left right else []

abbrev pub inverse_pairs : List NegatedIri → Graph → AtEnds
inverse_pairs members graph left right = if list_any (is_of true) members
    then against (is_outside true members) graph left right else []

-- ---- what the program finds, under each naming

-- these are the pairs at these ends
abbrev pub ArePairs : List Term → AtEnds → Option ℕ → Option ℕ → List NodePair → Type 0
ArePairs known f left right es = (name : ℕ → Term) → IsNaming known name
    → SameBag (named_pairs name es) (f (named_end name left) (named_end name right))

-- these are the rows, each led on by the pairs that follow
abbrev pub AreBehind : List Term → AtEnds → Option ℕ → List NodePair → List NodePair → Type 0
AreBehind known f right rows es = (name : ℕ → Term) → IsNaming known name
    → SameBag (named_pairs name es)
    (composed (named_pairs name rows) (f None (named_end name right)))

-- these are the rows, each led to by the pairs that come before
abbrev pub AreBefore : List Term → AtEnds → List NodePair → List NodePair → Type 0
AreBefore known f rows es = (name : ℕ → Term) → IsNaming known name
    → SameBag (named_pairs name es) (composed (f None None) (named_pairs name rows))

-- these are led to from the start by a closure, each once
abbrev pub AreEnds : List Term → Repetition → AtEnds → Graph → ℕ → List ℕ → Type 0
AreEnds known repetition f graph start ns = (name : ℕ → Term) → IsNaming known name
    → SameBag (names name ns) (ends repetition (is_step f) graph (name start))

-- these are the pairs of a closure from the start
abbrev pub AreFrom : List Term → Repetition → AtEnds → Graph → Option ℕ → ℕ → List NodePair → Type 0
AreFrom known repetition f graph end start es = (name : ℕ → Term) → IsNaming known name
    → SameBag (named_pairs name es) (from_start repetition (is_step f) graph (named_end name end)
    (name start))

-- these are led to before the first pass of a search
abbrev pub AreBegun : List Term → Repetition → AtEnds → ℕ → List ℕ → Type 0
AreBegun known repetition f start ns = (name : ℕ → Term) → IsNaming known name
    → Holds (names name ns) (begins repetition (is_step f) (name start))

-- these are the nodes of the graph, each once
abbrev pub AreNodes : List Term → Graph → List ℕ → Type 0
AreNodes known graph ns =
    (name : ℕ → Term) → IsNaming known name → SameBag (names name ns) (nodes_of graph)

-- from these nodes, with both ends open, all pairs of the closure lead
abbrev pub AreStarts : List Term → Graph → AtEnds → Repetition → List ℕ → Type 0
AreStarts known graph f repetition ns = (name : ℕ → Term) → IsNaming known name
    → starting.AreStarts graph f repetition (names name ns)

-- the number names a node of the graph
abbrev pub NamesNode : List Term → Graph → ℕ → Type 0
NamesNode known graph n = (name : ℕ → Term) → IsNaming known name
    → list_any (same_term (name n)) (nodes_of graph) ≡ true

-- the answer tells whether the number names a node of the graph
abbrev pub TellsNode : List Term → Graph → ℕ → Bool → Type 0
TellsNode known graph n b =
    (name : ℕ → Term) → IsNaming known name → b ≡ list_any (same_term (name n)) (nodes_of graph)

-- a node is given, and another number is left open
abbrev pub IsNodeOrOpen : List Term → Graph → ℕ → Option ℕ → Type 0
IsNodeOrOpen known graph n o = (name : ℕ → Term) → IsNaming known name
    → named_end name o ≡ (if list_any (same_term (name n)) (nodes_of graph) then Some (name n)
    else None)

-- the number names no node of the graph, and isn't this end
abbrev pub IsApartFrom : List Term → Graph → ℕ → Option ℕ → Type 0
IsApartFrom known graph n end = TellsNode known graph n false × (end ≢ Some n)

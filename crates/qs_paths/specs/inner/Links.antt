-- The nodes that steps lead to, kept at those that they lead from, by places.
use Rattle.std.specs.Prelude.{◌≡◌, ℕ, ◌<◌, true, List, length, map, All, slice_index_or}
use Rattle.std.specs.List.{list_any}
use Rattle.qs_terms.specs.declared.term.Term.{Term}
use Rattle.qs_terms.specs.Bag.{Distinct}
use Rattle.qs_syntax_tree.specs.declared.path.Repetition.{Repetition}
use Rattle.qs_paths_meaning.specs.Pairs.{AtEnds}
use Rattle.qs_paths_meaning.specs.Steps.{Graph}
use Rattle.qs_paths_meaning.specs.inner.Links.{AreBelow, AreLinks, HasSteps, leads_to, same_number}
use Rattle.qs_paths.specs.declared.node.NodePair.{NodePair}
use Rattle.qs_paths.specs.inner.Nodes.{AreApart, AreEnds, IsNaming, named_pairs, names}

-- the number stands at this place of the list
abbrev pub StandsAt : List ℕ → ℕ → ℕ → Type 0
StandsAt nodes at n = (at < length nodes) × (slice_index_or nodes at n ≡ n)

-- the nodes at these places; the first denotes one that has none
abbrev pub nodes_at : ℕ → List ℕ → List ℕ → List ℕ
nodes_at d nodes places = map (λ at. slice_index_or nodes at d) places

-- each node has one place, and a row of places
pub record IsWeb (nodes : List ℕ) (rows : List (List ℕ)) : Type 0 where
  pub distinct : Distinct same_number nodes
  pub long : length rows ≡ length nodes
  pub below : All (AreBelow (length nodes)) rows

-- under each naming the links lead where they led before
abbrev pub LeadAlike : List ℕ → List (List ℕ) → List ℕ → List (List ℕ) → Type 0
LeadAlike nodes rows nodes' rows' = (name : ℕ → Term) → AreApart name → (x : Term)
    → leads_to (names name nodes') rows' x ≡ leads_to (names name nodes) rows x

-- from each node links lead to the right ends of the pairs from it, in their order
abbrev pub LinkPairs : List ℕ → List (List ℕ) → List NodePair → Type 0
LinkPairs nodes rows es =
    (name : ℕ → Term) → AreApart name → AreLinks (names name nodes) rows (named_pairs name es)

-- these are the links of a path
abbrev pub LinkSteps : List Term → List ℕ → List (List ℕ) → AtEnds → Type 0
LinkSteps known nodes rows f =
    (name : ℕ → Term) → IsNaming known name → HasSteps (names name nodes) rows f

-- from the nodes at these places a closure leads to the nodes at those places, each once
abbrev pub AreAlike : List Term → Repetition → AtEnds → Graph → List ℕ → List ℕ → List ℕ → Type 0
AreAlike known repetition f graph nodes found alike = (at n : ℕ) → StandsAt nodes at n
    → list_any (same_number at) alike ≡ true → AreEnds known repetition f graph n
    (nodes_at n nodes found)

-- The pairs that were found whole, all at once.
use Rattle.std.proofs.Common.{◌≡◌, ℕ, Bool, List, [], ◌∷◌, map, drop, Option, Some, None, refl, sym, ◌∙◌, ap, subst, inl, inr}
use Rattle.std.proofs.lemmas.List.Sorted.{IsPermutation-map, IsPermutation-sym}
use Rattle.qs_terms.specs.declared.term.Term.{Term}
use Rattle.qs_terms.specs.Bag.{SameBag}
use Rattle.qs_store.specs.Content.{Content}
use Rattle.qs_store.specs.declared.default_graph.DefaultGraph.{DefaultGraph}
use Rattle.qs_paths_meaning.specs.Pair.{Pair}
use Rattle.qs_paths_meaning.specs.inner.Pair.{same_pair}
use Rattle.qs_paths_meaning.specs.inner.Walk.{IsIn}
use Rattle.qs_paths_meaning.proofs.Arms.{same_pair-Decides}
use Rattle.qs_paths_meaning.proofs.Members.{Mem, mem_in, mem_map}
use Rattle.qs_expr.specs.declared.cell.Cell.{Cell}
use Rattle.qs_expr.specs.inner.Cell.{denoted}
use Rattle.qs_paths.specs.declared.node.NodePair.{NodePair}
use Rattle.qs_paths.specs.declared.state.Rows.{Rows}
use Rattle.qs_paths.specs.declared.state.State.TheVariants as state
use Rattle.qs_paths.specs.declared.stream.Pairs.{Pairs}
use Rattle.qs_paths.specs.inner.Coming.{AreAll, AreDenoted, denoted_pair}
use Rattle.qs_paths.specs.inner.Nodes.{cell_of, named_pair, named_pairs, node_cells}
use Rattle.qs_paths.specs.inner.Seen.{graph_in, known_in}
use Rattle.qs_paths.specs.inner.State.{IsLeftIn, turn, turned_cells, turned_pairs}
use Rattle.qs_paths.proofs.Names.{map_map}
use Rattle.qs_paths.proofs.Opening.{in_bag, none_turned}
use Rattle.qs_paths.proofs.Streamed.{turned_bag, turned_first, turned_twice}

turned_all : (b : Bool) (name : ℕ → Term) (es : List NodePair) → turned_pairs b (named_pairs name es) ≡ named_pairs name (map (turn b) es)
turned_all b name [] = sym (none_turned b)
turned_all b name (e ∷ es) = turned_first b name e (named_pairs name es) ∙ ap (λ l. named_pair name (turn b e) ∷ l) (turned_all b name es)

turned_back : (b : Bool) (ps qs : List Pair) → SameBag (turned_pairs b ps) qs → SameBag ps (turned_pairs b qs)
turned_back b ps qs h = subst (λ (l : List Pair). SameBag l (turned_pairs b qs)) (turned_twice b ps) (turned_bag b (turned_pairs b ps) qs h)

module _ (known table : List Term) (name : ℕ → Term) (ps : List Pair) (a : AreDenoted known table name ps) where
  one_denoted : (e : NodePair) → IsIn ps (named_pair name e) → denoted_pair known table (node_cells e) ≡ Some (named_pair name e)
  one_denoted e i =
      let l : denoted known table (cell_of e.left) ≡ Some (name e.left) = a.left e.left (named_pair name e) i refl in
      let r : denoted known table (cell_of e.right) ≡ Some (name e.right) = a.right e.right (named_pair name e) i refl in
      rw (l, r) refl

  each_denoted : (es : List NodePair) → ((e : NodePair) → Mem e es → IsIn ps (named_pair name e)) → map (denoted_pair known table) (map node_cells es) ≡ map Some (named_pairs name es)
  each_denoted [] h = refl
  each_denoted (e ∷ es) h =
      ap (λ z. z ∷ map (denoted_pair known table) (map node_cells es)) (one_denoted e (h e (inl refl)))
      ∙ ap (λ l. Some (named_pair name e) ∷ l) (each_denoted es (λ d m. h d (inr m)))

  pub rest_denotes : (es : List NodePair) → SameBag ps (named_pairs name es) → SameBag (map (denoted_pair known table) (map node_cells es)) (map Some ps)
  rest_denotes es h =
      subst (λ (l : List (Option Pair)). SameBag l (map Some ps))
      (sym (each_denoted es (λ e m. in_bag (named_pair name e) ps (named_pairs name es) h (mem_in same_pair same_pair-Decides (named_pair name e) (named_pairs name es) (mem_map (named_pair name) e es m)))))
      (IsPermutation-map Some (named_pairs name es) ps (IsPermutation-sym ps (named_pairs name es) h))

pub all_rest : {V : Type 0} (content : V → Content) (default : V → DefaultGraph) (pairs : Pairs V) (rows : Rows) (cells : List (Cell × Cell)) → pairs.request ≡ None → pairs.state ≡ state.Whole rows → cells ≡ map (turned_cells pairs.turned) (drop rows.at rows.rows.items)
    → AreAll content default pairs cells
all_rest content default pairs rows cells q s e table ps h =
    let known = known_in content pairs.edges in
    let graph = graph_in content default pairs.edges in
    let ds = drop rows.at rows.rows.items in
    let l = subst (λ z. IsLeftIn graph h.name z pairs.turned (state.Whole rows) ps) q (subst (λ z. IsLeftIn graph h.name pairs.request pairs.turned z ps) s h.left) in
    let b : SameBag ps (named_pairs h.name (map (turn pairs.turned) ds)) =
    subst (λ (z : List Pair). SameBag ps z) (turned_all pairs.turned h.name ds) (turned_back pairs.turned ps (named_pairs h.name ds) l.left) in
    subst (λ (z : List (Cell × Cell)). SameBag (map (denoted_pair known table) z) (map Some ps)) (map_map node_cells (turn pairs.turned) ds ∙ sym e) (rest_denotes known table h.name ps h.denoted (map (turn pairs.turned) ds) b)

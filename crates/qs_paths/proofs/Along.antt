-- The search along the links of a path, under every naming.
use Rattle.std.proofs.Common.{◌≡◌, ◌≢◌, ℕ, zero, suc, ◌+◌, ◌<◌, ◌≤◌, false, List, [], ◌∷◌, ◌++◌, length, map, take, get_or, None, refl, sym, ◌∙◌, ap, subst, arith, ◌⊎◌, inl, inr}
use Rattle.std.specs.List.{filter, flat_map}
use Rattle.std.specs.List.Sorted.{IsPermutation}
use Rattle.std.proofs.Math.ListN.{get_or-map}
use Rattle.std.proofs.lemmas.Grind.{flat_map-append}
use Rattle.std.proofs.lemmas.List.{append-nil, get_or_default, take_all, take_more}
use Rattle.std.proofs.lemmas.List.Elements.{All-get_or}
use Rattle.std.proofs.lemmas.List.Sorted.{IsPermutation-append, IsPermutation-map, IsPermutation-refl, IsPermutation-sym, IsPermutation-trans, list_any-IsPermutation}
use Rattle.qs_terms.specs.declared.term.Term.{Term}
use Rattle.qs_terms.specs.Bag.{SameBag, with_new}
use Rattle.qs_terms.specs.Dataset.{nodes_of}
use Rattle.qs_terms.specs.inner.Dataset.{ends_of}
use Rattle.qs_terms.specs.Term.{same_term}
use Rattle.qs_terms.proofs.SameTerm.{same_term-Decides}
use Rattle.qs_syntax_tree.specs.declared.path.Repetition.{Repetition}
use Rattle.qs_syntax_tree.specs.declared.path.Repetition.TheVariants.{ZeroOrOne, ZeroOrMore, OneOrMore}
use Rattle.qs_syntax_ast.specs.declared.path.Path.{Path}
use Rattle.qs_paths_meaning.specs.Closure.{closure}
use Rattle.qs_paths_meaning.specs.inner.Steps.{from_start, pair_of}
use Rattle.qs_paths_meaning.specs.Pair.{Pair}
use Rattle.qs_paths_meaning.specs.inner.Pair.{same_pair}
use Rattle.qs_paths_meaning.specs.Pairs.{AtEnds, is_step, pairs}
use Rattle.qs_paths_meaning.specs.Steps.{Graph, along, is_outside}
use Rattle.qs_paths_meaning.specs.inner.Found.{with_all}
use Rattle.qs_paths_meaning.specs.inner.Links.{AreBelow, leads_to, named, same_number, with_numbers}
use Rattle.qs_paths_meaning.proofs.AlongLinks.{linked_both, linked_on, linked_steps, named_at}
use Rattle.qs_paths_meaning.proofs.Arms.{flat_map_same, same_as, same_at, same_pair-Decides}
use Rattle.qs_paths_meaning.proofs.Finds.{map-append}
use Rattle.qs_paths_meaning.proofs.Members.{Mem, distinct_once, in_mem, mem_at, mem_flat, mem_in, mem_map, mem_of_flat, mem_of_map, mem_of_once, mem_once, same_bag}
use Rattle.qs_paths_meaning.proofs.Numbers.{named_all, named_default, named_new, row_at}
use Rattle.qs_paths_meaning.proofs.Near.{tied}
use Rattle.qs_paths_meaning.proofs.Search.{distinct_with_all, mem_with_all, optional_at, search_begins, search_result, with_all_has}
use Rattle.qs_paths_meaning.proofs.Starts.{lefts_start, nodes_start}
use Rattle.qs_paths.specs.declared.node.NodePair.{NodePair}
use Rattle.qs_paths.specs.inner.Links.{IsWeb, LinkPairs, LinkSteps, StandsAt, nodes_at}
use Rattle.qs_paths.specs.inner.Nodes.{AreApart, AreBegun, AreEnds, AreNodes, ArePairs, AreStarts, IsNaming, NamesNode, agrees_node, both_ends, named_pair, named_pairs, names, node_pair}
use Rattle.qs_paths.proofs.Followed.{AreFollowed}
use Rattle.qs_paths.proofs.LinkLaws.{at_named}
use Rattle.qs_paths.proofs.Listed.{filter_all}
use Rattle.qs_paths.proofs.Names.{lefts_named, map_long, names_all, names_at, names_distinct}
use Rattle.qs_paths.proofs.Whole.{begun_none, ends_from}

module _ (nodes : List ℕ) (rows : List (List ℕ)) (web : IsWeb nodes rows) (name : ℕ → Term) (apart : AreApart name) where
  abbrev ts : List Term
  ts = names name nodes

  long : (n : ℕ) → n < length nodes → n < length (names name nodes)
  long n lt = let l : length (names name nodes) ≡ length nodes = map_long name nodes in omega (arith, l, lt)

  below : (ns : List ℕ) → AreBelow (length nodes) ns → AreBelow (length (names name nodes)) ns
  below ns h = subst (λ n. AreBelow n ns) (sym (map_long name nodes)) h

  -- what a place leads to
  pub lead_names : (start u at : ℕ) (ns ns' : List ℕ) → StandsAt nodes at u → AreBelow (length nodes) ns → ns' ≡ with_numbers ns (get_or rows at []) → names name (nodes_at start nodes ns') ≡ with_all (names name (nodes_at start nodes ns)) (leads_to (names name nodes) rows (name u))
  lead_names start u at ns ns' h b e =
      let r : AreBelow (length nodes) (get_or rows at []) = All-get_or (AreBelow (length nodes)) rows at [] (omega (arith, h.0, web.long)) web.below in
      let d = names_distinct name apart nodes web.distinct in
      names_at name start nodes ns'
      ∙ (ap (named (name start) ts) e
      ∙ (named_all ts d (name start) ns (get_or rows at []) (below ns b) (below (get_or rows at []) r)
      ∙ (ap (λ l. with_all l (named (name start) ts (get_or rows at []))) (sym (names_at name start nodes ns))
      ∙ ap (with_all (names name (nodes_at start nodes ns))) (named_default (name start) (name u) ts (get_or rows at []) (below (get_or rows at []) r)
      ∙ ap (named (name u) ts) (sym (row_at ts rows at (name u) d (web.long ∙ sym (map_long name nodes)) (at_named name nodes at u h)))))))

  pub start_names : (start at : ℕ) (ns ns' : List ℕ) → StandsAt nodes at start → AreBelow (length nodes) ns → ns' ≡ with_new same_number ns at → names name (nodes_at start nodes ns') ≡ with_new same_term (names name (nodes_at start nodes ns)) (name start)
  start_names start at ns ns' h b e =
      names_at name start nodes ns'
      ∙ (ap (named (name start) ts) e
      ∙ (named_new ts (names_distinct name apart nodes web.distinct) at (name start) (name start) (at_named name nodes at start h) ns (below ns b)
      ∙ ap (λ l. with_new same_term l (name start)) (sym (names_at name start nodes ns))))

module _ (known : List Term) (graph : Graph) (p : Path) (nodes : List ℕ) (rows : List (List ℕ)) (web : IsWeb nodes rows) (links : LinkSteps known nodes rows (pairs graph p)) (start : ℕ) (repetition : Repetition) where
  pub begun_alone : (at : ℕ) (ns ns' : List ℕ) → StandsAt nodes at start → repetition ≡ ZeroOrMore → ns ≡ [] → ns' ≡ with_new same_number ns at → AreBegun known repetition (pairs graph p) start (nodes_at start nodes ns')
  begun_alone at ns ns' h r z e =
      begun_none known graph p repetition false start [] (nodes_at start nodes ns') r refl (ap (nodes_at start nodes) (e ∙ ap (λ l. with_new same_number l at) z) ∙ ap (λ n. n ∷ []) h.1)

  module _ (node : NamesNode known graph start) where
    pub begun_with : (at : ℕ) (ns ns' ns'' : List ℕ) → StandsAt nodes at start → AreBelow (length nodes) ns → AreBelow (length nodes) ns' → repetition ≡ ZeroOrOne → ns ≡ [] → ns' ≡ with_new same_number ns at → ns'' ≡ with_numbers ns' (get_or rows at []) → AreBegun known repetition (pairs graph p) start (nodes_at start nodes ns'')
    begun_with at ns ns' ns'' h b b' r z e k name n =
        linked_both graph p (names name nodes) rows (links name n) (name start) (node name n) repetition (names name (nodes_at start nodes ns)) (names name (nodes_at start nodes ns')) (names name (nodes_at start nodes ns'')) r (ap (λ l. names name (nodes_at start nodes l)) z)
        (start_names nodes rows web name n.apart start at ns ns' h b e) (lead_names nodes rows web name n.apart start start at ns' ns'' h b' k)

    pub begun_by : (at : ℕ) (ns ns' : List ℕ) → StandsAt nodes at start → AreBelow (length nodes) ns → repetition ≡ OneOrMore → ns ≡ [] → ns' ≡ with_numbers ns (get_or rows at []) → AreBegun known repetition (pairs graph p) start (nodes_at start nodes ns')
    begun_by at ns ns' h b r z k name n =
        linked_steps graph p (names name nodes) rows (links name n) (name start) (node name n) repetition (names name (nodes_at start nodes ns)) (names name (nodes_at start nodes ns')) r (ap (λ l. names name (nodes_at start nodes l)) z) (lead_names nodes rows web name n.apart start start at ns ns' h b k)

    pub followed_none : (ns : List ℕ) → AreBegun known repetition (pairs graph p) start (nodes_at start nodes ns) → AreFollowed known graph p nodes repetition start ns 0
    followed_none ns h name n = search_begins graph (pairs graph p) (tied graph p) (name start) repetition (names name (nodes_at start nodes ns)) (h name n)

    long_at : (name : ℕ → Term) (ns : List ℕ) → length (names name (nodes_at start nodes ns)) ≡ length ns
    long_at name ns = map_long name (nodes_at start nodes ns) ∙ map_long (λ (a : ℕ). get_or nodes a start) ns

    pub followed_next : (ns ns' : List ℕ) (at place : ℕ) → repetition ≢ ZeroOrOne → AreFollowed known graph p nodes repetition start ns at → at < length ns → place ≡ get_or ns at place → AreBelow (length nodes) ns → ns' ≡ with_numbers ns (get_or rows place []) → AreFollowed known graph p nodes repetition start ns' (at + 1)
    followed_next ns ns' at place ne was lt is b e name n =
        let d = name start in
        let w = named_at d (names name nodes) ns at place lt is (below nodes rows web name n.apart ns b) in
        let k : place < length nodes = subst (λ m. m < length nodes) (sym is) (All-get_or (λ m. m < length nodes) ns at place lt b) in
        let u = get_or nodes place start in
        let i : get_or (names name nodes) place d ≡ name u = get_or-map name nodes place start in
        linked_on graph p (names name nodes) rows (links name n) d (node name n) repetition (names name (nodes_at start nodes ns)) (names name (nodes_at start nodes ns')) at (get_or (names name nodes) place d) ne (was name n)
        (let l : length (names name (nodes_at start nodes ns)) ≡ length ns = long_at name ns in omega (arith, l, lt))
        (subst (λ l. get_or (names name nodes) place d ≡ get_or l at (get_or (names name nodes) place d)) (sym (names_at name start nodes ns)) w.1)
        (lead_names nodes rows web name n.apart start u place ns ns' (k, get_or_default nodes place u start k) b e ∙ ap (λ z. with_all (names name (nodes_at start nodes ns)) (leads_to (names name nodes) rows z)) (sym i))

    pub followed_all : (ns : List ℕ) (at : ℕ) → repetition ≢ ZeroOrOne → AreFollowed known graph p nodes repetition start ns at → length ns ≤ at → AreEnds known repetition (pairs graph p) graph start (nodes_at start nodes ns)
    followed_all ns at ne was le name n =
        search_result graph (pairs graph p) (tied graph p) (name start) repetition (names name (nodes_at start nodes ns)) (names name (nodes_at start nodes ns)) at ne (was name n) (let l : length (names name (nodes_at start nodes ns)) ≡ length ns = long_at name ns in omega (arith, l, le)) refl

    pub followed_one : (ns : List ℕ) → repetition ≡ ZeroOrOne → AreBegun known repetition (pairs graph p) start (nodes_at start nodes ns) → AreEnds known repetition (pairs graph p) graph start (nodes_at start nodes ns)
    followed_one ns r h name n = optional_at graph (pairs graph p) (tied graph p) (name start) repetition (names name (nodes_at start nodes ns)) (names name (nodes_at start nodes ns)) r refl (h name n)

-- ---- the links of the pairs of a path

pub steps_linked : (known : List Term) (nodes : List ℕ) (rows : List (List ℕ)) (f : AtEnds) (es : List NodePair) → ArePairs known f None None es → LinkPairs nodes rows es → LinkSteps known nodes rows f
steps_linked known nodes rows f es h k name n = (named_pairs name es, (h name n, k name n.apart))

pub links_alike : (nodes nodes' : List ℕ) (rows rows' : List (List ℕ)) (es : List NodePair) → ((name : ℕ → Term) → AreApart name → (x : Term) → leads_to (names name nodes') rows' x ≡ leads_to (names name nodes) rows x) → LinkPairs nodes rows es → LinkPairs nodes' rows' es
links_alike nodes nodes' rows rows' es h k name apart x = h name apart x ∙ k name apart x

-- ---- starts

pub lefts_named_start : (known : List Term) (graph : Graph) (p : Path) (repetition : Repetition) (steps : List NodePair) (ns : List ℕ) → ArePairs known (pairs graph p) None None steps → repetition ≡ OneOrMore → ns ≡ with_numbers [] (map (λ (e : NodePair). e.left) steps) → AreStarts known graph (pairs graph p) repetition ns
lefts_named_start known graph p repetition steps ns h r e name n =
    lefts_start graph p (named_pairs name steps) (h name n) repetition (names name ns) r
    (ap (names name) e ∙ (names_all name n.apart [] (map (λ (e : NodePair). e.left) steps) ∙ ap (with_all []) (lefts_named name steps)))

pub nodes_named_start : (known : List Term) (graph : Graph) (f : AtEnds) (repetition : Repetition) (ns : List ℕ) → AreNodes known graph ns → AreStarts known graph f repetition ns
nodes_named_start known graph f repetition ns h name n = nodes_start graph f repetition (names name ns) (h name n)

-- in another order they are starts
pub starts_named : {Z : Type 0} (known : List Term) (graph : Graph) (f : AtEnds) (repetition : Repetition) (node : Z → ℕ) (ss ts : List Z) (ns : List ℕ) → IsPermutation ss ts → map node ss ≡ ns → AreStarts known graph f repetition ns → AreStarts known graph f repetition (map node ts)
starts_named known graph f repetition node ss ts ns p e h name n =
    let q : SameBag (names name (map node ss)) (names name (map node ts)) = IsPermutation-map name (map node ss) (map node ts) (IsPermutation-map node ss ts p) in
    let k = subst (λ (l : List ℕ). AreStarts known graph f repetition l) (sym e) h in
    let j = k name n in (
      λ x t. j.0 x (list_any-IsPermutation (same_term x) (names name (map node ss)) (names name (map node ts)) q ∙ t),
      IsPermutation-trans (flat_map (from_start repetition (is_step f) graph None) (names name (map node ts))) (flat_map (from_start repetition (is_step f) graph None) (names name (map node ss))) (closure repetition (is_step f) graph None None)
          (flat_map_same (from_start repetition (is_step f) graph None) (from_start repetition (is_step f) graph None) (names name (map node ts)) (names name (map node ss)) (IsPermutation-sym (names name (map node ss)) (names name (map node ts)) q) (λ t. IsPermutation-refl _))
          j.1,
    )

mem_got : (xs : List ℕ) (i d : ℕ) → i < length xs → Mem (get_or xs i d) xs
mem_got [] i d lt = absurd (omega (arith, lt))
mem_got (x ∷ xs) zero d lt = inl refl
mem_got (x ∷ xs) (suc i) d lt = inr (mem_got xs i d (omega (arith, lt)))

pub start_names_node : {Z : Type 0} (known : List Term) (graph : Graph) (f : AtEnds) (repetition : Repetition) (node : Z → ℕ) (ts us : List Z) (i : ℕ) (s : Z) → us ≡ ts → i < length us → s ≡ get_or us i s → AreStarts known graph f repetition (map node ts) → NamesNode known graph (node s)
start_names_node known graph f repetition node ts us i s e lt is h name n =
    let l : length (map node us) ≡ length us = map_long node us in
    let j : node s ≡ get_or (map node us) i (node s) = ap node is ∙ sym (get_or-map node us i s) in
    let m : Mem (node s) (map node us) = subst (λ z. Mem z (map node us)) (sym j) (mem_got (map node us) i (node s) (omega (arith, l, lt))) in
    (h name n).0 (name (node s)) (mem_in same_term same_term-Decides (name (node s)) (names name (map node ts)) (mem_map name (node s) (map node ts) (subst (λ (l : List _). Mem (node s) (map node l)) e m)))

-- ---- from one start after another

abbrev pub AreFromStarts : List Term → Graph → AtEnds → Repetition → List ℕ → List NodePair → Type 0
AreFromStarts known graph f repetition ns rows = (name : ℕ → Term) → IsNaming known name → SameBag (named_pairs name rows) (flat_map (from_start repetition (is_step f) graph None) (names name ns))

pub from_none : (known : List Term) (graph : Graph) (f : AtEnds) (repetition : Repetition) (ns : List ℕ) (rows : List NodePair) → rows ≡ [] → AreFromStarts known graph f repetition (take 0 ns) rows
from_none known graph f repetition [] rows e name n = same_as (named_pairs name rows) [] (ap (named_pairs name) e)
from_none known graph f repetition (m ∷ ns) rows e name n = same_as (named_pairs name rows) [] (ap (named_pairs name) e)

open_filter : (ns : List ℕ) → filter (agrees_node None) ns ≡ ns
open_filter ns = filter_all (agrees_node None) ns (λ x k. refl)

pub from_next : {Z : Type 0} (known : List Term) (graph : Graph) (p : Path) (repetition : Repetition) (node : Z → ℕ) (ss : List Z) (i : ℕ) (s : Z) (rows rows' : List NodePair) (es : List ℕ) → i < length ss → s ≡ get_or ss i s → AreFromStarts known graph (pairs graph p) repetition (take i (map node ss)) rows
    → AreEnds known repetition (pairs graph p) graph (node s) es → rows' ≡ rows ++ map (node_pair (node s)) es → AreFromStarts known graph (pairs graph p) repetition (take (i + 1) (map node ss)) rows'
from_next known graph p repetition node ss i s rows rows' es lt is was h e name n =
    let g = from_start repetition (is_step (pairs graph p)) graph None in
    let more : SameBag (named_pairs name (map (node_pair (node s)) es)) (g (name (node s))) =
    ends_from known graph p repetition false (node s) None es es [] (map (node_pair (node s)) es) refl refl h (ap (map (node_pair (node s))) (sym (open_filter es))) name n in
    let l : length (map node ss) ≡ length ss = map_long node ss in
    let t : take (i + 1) (map node ss) ≡ take i (map node ss) ++ node s ∷ [] = take_more (map node ss) i (node s) (omega (arith, l, lt)) ∙ ap (λ z. take i (map node ss) ++ z ∷ []) (get_or-map node ss i s ∙ sym (ap node is)) in
    same_at _ _ _ _ (ap (named_pairs name) e ∙ map-append (named_pair name) rows (map (node_pair (node s)) es)) (IsPermutation-append _ _ _ _ (was name n) more)
    (ap (λ z. flat_map g (names name z)) t ∙ (ap (flat_map g) (map-append name (take i (map node ss)) (node s ∷ [])) ∙ (flat_map-append g (names name (take i (map node ss))) (name (node s) ∷ []) ∙ ap (λ z. flat_map g (names name (take i (map node ss))) ++ z) (append-nil (g (name (node s)))))))

pub from_all : {Z : Type 0} (known : List Term) (graph : Graph) (f : AtEnds) (repetition : Repetition) (node : Z → ℕ) (ss ts : List Z) (i : ℕ) (rows : List NodePair) → length ss ≤ i → ss ≡ ts → AreStarts known graph f repetition (map node ts) → AreFromStarts known graph f repetition (take i (map node ss)) rows → ArePairs known (closure repetition (is_step f) graph) None None rows
from_all known graph f repetition node ss ts i rows le e h was name n =
    let l : length (map node ss) ≡ length ss = map_long node ss in
    IsPermutation-trans (named_pairs name rows) _ _
    (subst (λ z. SameBag (named_pairs name rows) (flat_map (from_start repetition (is_step f) graph None) (names name z))) (take_all i (map node ss) (omega (arith, l, le)) ∙ ap (map node) e) (was name n))
    (h name n).1

-- ---- the nodes of the graph

ends_both : (name : ℕ → Term) (es : List NodePair) (x : Term) → Mem x (names name (flat_map both_ends es)) → (e : Pair) × (Mem e (named_pairs name es) × ((x ≡ e.left) ⊎ (x ≡ e.right)))
ends_both name [] x m = elim m [ ]
ends_both name (e ∷ es) x (inl i) = (named_pair name e, (inl refl, inl i))
ends_both name (e ∷ es) x (inr (inl i)) = (named_pair name e, (inl refl, inr i))
ends_both name (e ∷ es) x (inr (inr m)) = let w = ends_both name es x m in (w.0, (inr w.1.0, w.1.1))

both_ends_in : (name : ℕ → Term) (es : List NodePair) (e : Pair) → Mem e (named_pairs name es) → Mem e.left (names name (flat_map both_ends es)) × Mem e.right (names name (flat_map both_ends es))
both_ends_in name [] e m = elim m [ ]
both_ends_in name (f ∷ es) e (inl i) = (inl (ap (λ (g : Pair). g.left) i), inr (inl (ap (λ (g : Pair). g.right) i)))
both_ends_in name (f ∷ es) e (inr m) = let w = both_ends_in name es e m in (inr (inr w.0), inr (inr w.1))

-- all triples pass where nothing is left out
all_along : (graph : Graph) → along (is_outside false []) graph None None ≡ map pair_of graph
all_along [] = refl
all_along (t ∷ graph) = ap (λ l. pair_of t ∷ l) (all_along graph)

pub nodes_found : (known : List Term) (graph : Graph) (es : List NodePair) (ns : List ℕ) → ArePairs known (along (is_outside false []) graph) None None es → ns ≡ with_numbers [] (flat_map both_ends es) → AreNodes known graph ns
nodes_found known graph es ns h e name n =
    subst (λ (l : List Term). SameBag l (nodes_of graph)) (sym (ap (names name) e ∙ names_all name n.apart [] (flat_map both_ends es)))
    (same_bag same_term same_term-Decides (with_all [] (names name (flat_map both_ends es))) (nodes_of graph) (distinct_with_all [] (names name (flat_map both_ends es)) tt) (distinct_once same_term same_term-Decides (flat_map ends_of graph)) into out)
  where
    bag : SameBag (named_pairs name es) (map pair_of graph)
    bag = subst (SameBag (named_pairs name es)) (all_along graph) (h name n)

    moved : (x : Pair) (xs ys : List Pair) → SameBag xs ys → Mem x xs → Mem x ys
    moved x xs ys s m = in_mem same_pair same_pair-Decides x ys (sym (list_any-IsPermutation (same_pair x) xs ys s) ∙ mem_in same_pair same_pair-Decides x xs m)

    into : (x : Term) → Mem x (with_all [] (names name (flat_map both_ends es))) → Mem x (nodes_of graph)
    into x m =
        mem_once same_term same_term-Decides x (flat_map ends_of graph)
        (elim (mem_with_all x [] (names name (flat_map both_ends es)) m) [
          | inl k ↦ elim k [ ]
          | inr k ↦
              let w = ends_both name es x k in
              let v = mem_of_map pair_of w.0 graph (moved w.0 (named_pairs name es) (map pair_of graph) bag w.1.0) in
              elim w.1.1 [
                | inl i ↦ mem_flat ends_of v.0 x graph v.1.0 (inl (i ∙ ap (λ (g : Pair). g.left) v.1.1))
                | inr i ↦ mem_flat ends_of v.0 x graph v.1.0 (inr (inl (i ∙ ap (λ (g : Pair). g.right) v.1.1)))
              ]
        ])

    out : (x : Term) → Mem x (nodes_of graph) → Mem x (with_all [] (names name (flat_map both_ends es)))
    out x m =
        let w = mem_of_flat ends_of x graph (mem_of_once same_term same_term-Decides x (flat_map ends_of graph) m) in
        let k : Mem (pair_of w.0) (named_pairs name es) = moved (pair_of w.0) (map pair_of graph) (named_pairs name es) (IsPermutation-sym (named_pairs name es) (map pair_of graph) bag) (mem_map pair_of w.0 graph w.1.0) in
        let b = both_ends_in name es (pair_of w.0) k in
        with_all_has x [] (names name (flat_map both_ends es))
        (inr (elim w.1.1 [
          | inl i ↦ mem_at w.0.subject x (names name (flat_map both_ends es)) (sym i) b.0
          | inr i ↦ elim i [ inl j ↦ mem_at w.0.object x (names name (flat_map both_ends es)) (sym j) b.1 | inr f ↦ elim f [ ] ]
        ]))

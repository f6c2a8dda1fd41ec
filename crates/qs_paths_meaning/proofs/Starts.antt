-- The nodes from which the pairs of a closure lead.
use Rattle.std.proofs.Common.{◌≡◌, ◌≤◌, Bool, true, false, cond, inl, inr, List, [], ◌∷◌, ◌++◌, length, Some, None, refl, sym, ◌∙◌, ap, subst, arith}
use Rattle.std.specs.List.{filter, flat_map, list_any}
use Rattle.std.proofs.lemmas.List.Sorted.{IsPermutation-trans, IsPermutation-refl, list_any-IsPermutation}
use Rattle.qs_terms.specs.declared.term.Term.{Term}
use Rattle.qs_terms.specs.Bag.{SameBag}
use Rattle.qs_terms.specs.Term.{same_term}
use Rattle.qs_terms.specs.Dataset.{nodes_of}
use Rattle.qs_terms.specs.inner.Dataset.{ends_of}
use Rattle.qs_terms.proofs.SameTerm.{same_term-Decides}
use Rattle.qs_syntax_tree.specs.declared.path.Repetition.{Repetition}
use Rattle.qs_syntax_tree.specs.declared.path.Repetition.TheVariants.{OneOrMore}
use Rattle.qs_syntax_ast.specs.declared.path.Path.{Path}
use Rattle.qs_paths_meaning.specs.Pair.{Pair, pair}
use Rattle.qs_paths_meaning.specs.inner.Pair.{same_pair}
use Rattle.qs_paths_meaning.specs.Steps.{Graph, agrees}
use Rattle.qs_paths_meaning.specs.Closure.{candidates, leads, repeats, ends, closure}
use Rattle.qs_paths_meaning.specs.inner.Steps.{from_start}
use Rattle.qs_paths_meaning.specs.Pairs.{AtEnds, is_step, pairs}
use Rattle.qs_paths_meaning.specs.inner.Walk.{IsWalk}
use Rattle.qs_paths_meaning.specs.inner.Found.{with_all, lefts}
use Rattle.qs_paths_meaning.specs.inner.Links.{AreStarts}
use Rattle.qs_paths_meaning.proofs.Arms.{same_pair-Decides, same_as, flat_map_same}
use Rattle.qs_paths_meaning.proofs.ClosureLaws.{step_pair}
use Rattle.qs_paths_meaning.proofs.Members.{Mem, mem_at, mem_map, mem_of_map, mem_filter, mem_of_filter, in_mem, mem_in, not_both, same_bag, distinct_filter, distinct_once}
use Rattle.qs_paths_meaning.proofs.Near.{Node, tied}
use Rattle.qs_paths_meaning.proofs.Search.{mem_with_all, with_all_has, distinct_with_all}
use Rattle.qs_paths_meaning.proofs.Steady.{steady, at_left}
use Rattle.qs_paths_meaning.proofs.WalkLaws.{leads_walk}

-- all nodes
pub nodes_start : (graph : Graph) (f : AtEnds) (repetition : Repetition) (ts : List Term) → SameBag ts (nodes_of graph) → AreStarts graph f repetition ts
nodes_start graph f repetition ts h = (
  λ x t. sym (list_any-IsPermutation (same_term x) ts (nodes_of graph) h) ∙ t,
  flat_map_same (from_start repetition (is_step f) graph None) (from_start repetition (is_step f) graph None) ts (nodes_of graph) h (λ t. IsPermutation-refl _),
)

-- those left out that give nothing
flat_filter : (g : Term → List Pair) (q : Term → Bool) (xs : List Term) → ((x : Term) → Mem x xs → q x ≡ false → g x ≡ []) → flat_map g (filter q xs) ≡ flat_map g xs
flat_filter g q [] k = refl
flat_filter g q (x ∷ xs) k = by (q x) refl (flat_filter g q xs (λ y m. k y (inr m)))
  where
    by : (b : Bool) → q x ≡ b → flat_map g (filter q xs) ≡ flat_map g xs → flat_map g (cond b (x ∷ filter q xs) (filter q xs)) ≡ g x ++ flat_map g xs
    by true e h = ap (λ l. g x ++ l) h
    by false e h = h ∙ sym (ap (λ l. l ++ flat_map g xs) (k x (inl refl) e))

no_member : (es : List Pair) → ((e : Pair) → Mem e es → ⊥) → es ≡ []
no_member [] h = refl
no_member (e ∷ es) h = absurd (h e (inl refl))

mem_bag : (e : Pair) (xs ys : List Pair) → SameBag xs ys → Mem e xs → Mem e ys
mem_bag e xs ys h m = in_mem same_pair same_pair-Decides e ys (sym (list_any-IsPermutation (same_pair e) xs ys h) ∙ mem_in same_pair same_pair-Decides e xs m)

bag_mem : (e : Pair) (xs ys : List Pair) → SameBag xs ys → Mem e ys → Mem e xs
bag_mem e xs ys h m = in_mem same_pair same_pair-Decides e xs (list_any-IsPermutation (same_pair e) xs ys h ∙ mem_in same_pair same_pair-Decides e ys m)

module _ (graph : Graph) (p : Path) (steps : List Pair) (same : SameBag steps (pairs graph p None None)) where
  abbrev step : Term → Term → Bool
  step = is_step (pairs graph p)

  abbrev found : List Term
  found = with_all [] (lefts steps)

  -- a pair begins at a node
  begins_at : (x : Term) → Mem x found → Node graph x
  begins_at x m =
      elim (mem_with_all x [] (lefts steps) m) [
        | inl k ↦ elim k [ ]
        | inr k ↦
            let w = mem_of_map (λ (e : Pair). e.left) x steps k in
            mem_at w.0.left x (nodes_of graph) (sym w.1.1) ((steady graph p).within w.0 (mem_bag w.0 steps (pairs graph p None None) same w.1.0)).0
      ]

  -- a node from which a step leads is one
  steps_from : (x y : Term) → Node graph x → step x y ≡ true → Mem x found
  steps_from x y n h =
      let m : Mem (pair x y) (at_left x (pairs graph p None None)) = mem_bag (pair x y) (pairs graph p (Some x) None) (at_left x (pairs graph p None None)) ((steady graph p).left x None n) (step_pair graph (pairs graph p) (tied graph p) x y h) in
      let k : Mem (pair x y) steps = bag_mem (pair x y) steps (pairs graph p None None) same (mem_of_filter (λ (e : Pair). same_term x e.left) (pair x y) (pairs graph p None None) m).1 in
      with_all_has x [] (lefts steps) (inr (mem_map (λ (e : Pair). e.left) (pair x y) steps k))

  abbrev more_from : Term → List Pair
  more_from x = from_start OneOrMore step graph None x

  walk_from : (x y : Term) (us : List Term) → Node graph x → 1 ≤ length us → IsWalk (λ a b. step a b ≡ true) x us y → Mem x found
  walk_from x y [] n k w = absurd (omega arith)
  walk_from x y (u ∷ us) n k w = steps_from x u n w.0

  none_from : (x : Term) → Node graph x → list_any (same_term x) found ≡ false → more_from x ≡ []
  none_from x n f =
      no_member (more_from x) (λ e m.
      let w = mem_of_map (pair x) e (filter (agrees None) (ends OneOrMore step graph x)) m in
      let r = (mem_of_filter (agrees None) w.0 (ends OneOrMore step graph x) w.1.0).1 in
      let t : leads step (candidates graph x) x w.0 ≡ true = (mem_of_filter (repeats OneOrMore step (candidates graph x) x) w.0 (candidates graph x) r).0 in
      let k = leads_walk step (candidates graph x) x w.0 t in
      not_both (list_any (same_term x) found) (mem_in same_term same_term-Decides x found (walk_from x w.0 k.0 n k.1.0 k.1.1)) f)

  found_nodes : SameBag found (filter (λ x. list_any (same_term x) found) (nodes_of graph))
  found_nodes =
      same_bag same_term same_term-Decides found (filter (λ x. list_any (same_term x) found) (nodes_of graph)) (distinct_with_all [] (lefts steps) tt)
      (distinct_filter same_term same_term-Decides (λ x. list_any (same_term x) found) (nodes_of graph) (distinct_once same_term same_term-Decides (flat_map ends_of graph)))
      (λ y m. mem_filter (λ x. list_any (same_term x) found) y (nodes_of graph) (mem_in same_term same_term-Decides y found m) (begins_at y m))
      (λ y m. in_mem same_term same_term-Decides y found (mem_of_filter (λ x. list_any (same_term x) found) y (nodes_of graph) m).0)

  all_from : SameBag (flat_map more_from found) (closure OneOrMore step graph None None)
  all_from =
      IsPermutation-trans (flat_map more_from found) (flat_map more_from (filter (λ x. list_any (same_term x) found) (nodes_of graph))) (closure OneOrMore step graph None None)
      (flat_map_same more_from more_from found _ found_nodes (λ t. IsPermutation-refl _))
      (same_as _ _ (flat_filter more_from (λ x. list_any (same_term x) found) (nodes_of graph) (λ x m f. none_from x m f)))

  -- the left ends of the path's pairs
  pub lefts_start : (repetition : Repetition) (ts : List Term) → repetition ≡ OneOrMore → ts ≡ with_all [] (lefts steps) → AreStarts graph (pairs graph p) repetition ts
  lefts_start repetition ts r e =
      subst (λ (s : Repetition). AreStarts graph (pairs graph p) s ts) (sym r)
      (subst (λ (l : List Term). AreStarts graph (pairs graph p) OneOrMore l) (sym e) (
        λ x t. mem_in same_term same_term-Decides x (nodes_of graph) (begins_at x (in_mem same_term same_term-Decides x found t)),
        all_from,
      ))

-- The breadth-first search along the links of a path.
use Rattle.std.proofs.Common.{◌≡◌, ◌≢◌, ℕ, ◌+◌, ◌<◌, true, inl, inr, List, [], ◌∷◌, length, get_or, Some, None, refl, sym, ◌∙◌, ap, subst, arith}
use Rattle.std.specs.Prelude.{All}
use Rattle.std.specs.List.{list_any}
use Rattle.std.proofs.Math.ListN.{get_or-map}
use Rattle.std.proofs.lemmas.List.{length-map, get_or_default}
use Rattle.std.proofs.lemmas.List.Elements.{All-get_or}
use Rattle.std.specs.List.Sorted.{IsPermutation}
use Rattle.std.proofs.lemmas.List.Sorted.{All-permutation, IsPermutation-sym, IsPermutation-trans}
use Rattle.qs_terms.specs.declared.term.Term.{Term}
use Rattle.qs_terms.specs.Bag.{SameBag, with_new}
use Rattle.qs_terms.specs.Term.{same_term}
use Rattle.qs_terms.specs.Dataset.{nodes_of}
use Rattle.qs_terms.proofs.SameTerm.{same_term-Decides}
use Rattle.qs_syntax_tree.specs.declared.path.Repetition.{Repetition}
use Rattle.qs_syntax_tree.specs.declared.path.Repetition.TheVariants.{ZeroOrOne, OneOrMore}
use Rattle.qs_syntax_ast.specs.declared.path.Path.{Path}
use Rattle.qs_paths_meaning.specs.Pair.{Pair}
use Rattle.qs_paths_meaning.specs.inner.Pair.{same_pair}
use Rattle.qs_paths_meaning.specs.Steps.{Graph}
use Rattle.qs_paths_meaning.specs.Closure.{candidates}
use Rattle.qs_paths_meaning.specs.Pairs.{is_step, pairs}
use Rattle.qs_paths_meaning.specs.inner.Found.{with_all, rights, begins, Holds}
use Rattle.qs_paths_meaning.specs.inner.Links.{AreBelow, HasSteps, IsAt, leads_to, named}
use Rattle.qs_paths_meaning.proofs.Arms.{same_pair-Decides, filter_same_by}
use Rattle.qs_paths_meaning.proofs.Members.{Mem, mem_at, mem_of_once, in_mem, mem_in}
use Rattle.qs_paths_meaning.proofs.Near.{tied}
use Rattle.qs_paths_meaning.proofs.Numbers.{get_at}
use Rattle.qs_paths_meaning.proofs.Search.{Searching, begun_both, begun_steps, inside, get_mem, mem_take, search_on}
use Rattle.qs_paths_meaning.proofs.Steady.{steady, at_left}

module _ (graph : Graph) (p : Path) (names : List Term) (rows : List (List ℕ)) (has : HasSteps names rows (pairs graph p)) where
  abbrev IsNode : Term → Type 0
  IsNode x = list_any (same_term x) (nodes_of graph) ≡ true

  -- the pairs from a node are those with it at the left
  from_node : (x : Term) → IsNode x → SameBag (at_left x has.0) (pairs graph p (Some x) None)
  from_node x n =
      IsPermutation-trans (at_left x has.0) (at_left x (pairs graph p None None)) (pairs graph p (Some x) None)
      (filter_same_by same_pair same_pair-Decides (λ (e : Pair). same_term x e.left) has.0 (pairs graph p None None) has.1.0)
      (IsPermutation-sym _ _ ((steady graph p).left x None (in_mem same_term same_term-Decides x (nodes_of graph) n)))

  put_from : (x : Term) (t t' ls : List Term) → ls ≡ leads_to names rows x → t' ≡ with_all t ls → t' ≡ with_all t (rights (at_left x has.0))
  put_from x t t' ls l e = e ∙ ap (with_all t) (l ∙ has.1.1 x)

  module _ (x : Term) (n : IsNode x) (repetition : Repetition) where
    pub linked_both : (t0 t1 t2 : List Term) → repetition ≡ ZeroOrOne → t0 ≡ [] → t1 ≡ with_new same_term t0 x → t2 ≡ with_all t1 (leads_to names rows x) → Holds t2 (begins repetition (is_step (pairs graph p)) x)
    linked_both t0 t1 t2 r e w h =
        begun_both graph (pairs graph p) (tied graph p) x repetition (at_left x has.0) (at_left x has.0) t0 t1 t2 r e w (from_node x n) refl (put_from x t1 t2 (leads_to names rows x) refl h)

    pub linked_steps : (t0 t2 : List Term) → repetition ≡ OneOrMore → t0 ≡ [] → t2 ≡ with_all t0 (leads_to names rows x) → Holds t2 (begins repetition (is_step (pairs graph p)) x)
    linked_steps t0 t2 r e h =
        begun_steps graph (pairs graph p) (tied graph p) x repetition (at_left x has.0) (at_left x has.0) t0 t2 r e (from_node x n) refl (put_from x t0 t2 (leads_to names rows x) refl h)

    -- what is reached from a node is a node
    node_found : (terms : List Term) (at : ℕ) (u : Term) → Searching graph (pairs graph p) (tied graph p) x repetition terms at → at < length terms → u ≡ get_or terms at u → IsNode u
    node_found terms at u was lt is =
        let m : Mem u terms = mem_take graph (pairs graph p) (tied graph p) x (at + 1) u terms (get_mem graph (pairs graph p) (tied graph p) x terms at u lt is) in
        let c : Mem u (candidates graph x) = inside graph (pairs graph p) (tied graph p) x repetition u (was.sound u m) in
        mem_in same_term same_term-Decides u (nodes_of graph)
        (elim (mem_of_once same_term same_term-Decides u (x ∷ nodes_of graph) c) [
          | inl i ↦ mem_at x u (nodes_of graph) (sym i) (in_mem same_term same_term-Decides x (nodes_of graph) n)
          | inr k ↦ k
        ])

    pub linked_on : (terms terms' : List Term) (at : ℕ) (u : Term) → repetition ≢ ZeroOrOne → Searching graph (pairs graph p) (tied graph p) x repetition terms at → at < length terms → u ≡ get_or terms at u → terms' ≡ with_all terms (leads_to names rows u)
        → Searching graph (pairs graph p) (tied graph p) x repetition terms' (at + 1)
    linked_on terms terms' at u ne was lt is e =
        search_on graph (pairs graph p) (tied graph p) x repetition terms terms' at u (at_left u has.0) ne was lt is (from_node u (node_found terms at u was lt is)) (put_from u terms terms' (leads_to names rows u) refl e)

-- the term at the search's place
pub named_at : (d : Term) (names : List Term) (ns : List ℕ) (at n : ℕ) → at < length ns → n ≡ get_or ns at n → AreBelow (length names) ns → IsAt names n (get_or names n d) × (get_or names n d ≡ get_or (named d names ns) at (get_or names n d))
named_at d names ns at n lt is b =
    let k : n < length names = subst (λ m. m < length names) (sym is) (All-get_or (λ m. m < length names) ns at n lt b) in (
      get_at names n d k,
      ap (λ m. get_or names m d) is
          ∙ (sym (get_or-map (λ (m : ℕ). get_or names m d) ns at n)
          ∙ get_or_default (named d names ns) at (get_or names n d) (get_or names n d) (let s : length (named d names ns) ≡ length ns = length-map ns (λ (m : ℕ). get_or names m d) in omega (arith, lt, s))),
    )

pub start_at : {Z : Type 0} (P : Z → Type 0) (ss ts us : List Z) (i : ℕ) (s : Z) → IsPermutation ss ts → us ≡ ts → i < length us → s ≡ get_or us i s → All P ss → P s
start_at P ss ts us i s p e lt is h = subst P (sym is) (All-get_or P us i s lt (subst (All P) (sym e) (All-permutation P ss ts p h)))

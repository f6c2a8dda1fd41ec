-- A node leads to just what another leads to, where each leads to the other.
use Rattle.std.proofs.Common.{◌≡◌, ◌≢◌, ℕ, suc, ◌<◌, true, false, inl, inr, List, [], ◌∷◌, ◌++◌, length, get_or, Option, Some, None, refl, sym, ◌∙◌, ap, subst, arith, length-append}
use Rattle.std.specs.Prelude.{IfSome}
use Rattle.std.specs.List.{list_any}
use Rattle.std.specs.Option.{is_some}
use Rattle.std.proofs.lemmas.Bool.Decides.{Decides-eqb}
use Rattle.std.proofs.lemmas.List.{get_or_default}
use Rattle.std.proofs.lemmas.List.Elements.{All-get_or}
use Rattle.std.proofs.lemmas.List.Sorted.{IsPermutation-sym, IsPermutation-trans, list_any-IsPermutation}
use Rattle.qs_terms.specs.declared.term.Term.{Term}
use Rattle.qs_terms.specs.Bag.{Distinct, SameBag, with_new}
use Rattle.qs_terms.specs.Dataset.{nodes_of}
use Rattle.qs_terms.specs.Term.{same_term}
use Rattle.qs_terms.proofs.SameTerm.{same_term-Decides}
use Rattle.qs_syntax_tree.specs.declared.path.Repetition.{Repetition}
use Rattle.qs_syntax_tree.specs.declared.path.Repetition.TheVariants.{ZeroOrOne, ZeroOrMore, OneOrMore}
use Rattle.qs_syntax_ast.specs.declared.path.Path.{Path}
use Rattle.qs_paths_meaning.specs.Closure.{candidates, ends, repeats}
use Rattle.qs_paths_meaning.specs.Pair.{Pair}
use Rattle.qs_paths_meaning.specs.inner.Pair.{same_pair}
use Rattle.qs_paths_meaning.specs.Pairs.{AtEnds, is_step, pairs}
use Rattle.qs_paths_meaning.specs.Steps.{Graph}
use Rattle.qs_paths_meaning.specs.inner.Walk.{IsWalk, Leads}
use Rattle.qs_paths_meaning.specs.inner.Links.{AreBelow, leads_to, named, same_number}
use Rattle.qs_paths_meaning.proofs.Arms.{same_pair-Decides, filter_same_by}
use Rattle.qs_paths_meaning.proofs.Members.{Mem, distinct_filter, distinct_once, in_mem, mem_filter, mem_in, mem_map, mem_of_filter, mem_with_new, same_bag}
use Rattle.qs_paths_meaning.proofs.Near.{Tied, candidates_closed, start_candidate, tied}
use Rattle.qs_paths_meaning.proofs.Numbers.{named_default, row_at}
use Rattle.qs_paths_meaning.proofs.Search.{inside, stepped}
use Rattle.qs_paths_meaning.proofs.Steady.{steady, at_left}
use Rattle.qs_paths_meaning.proofs.WalkLaws.{repeat_walks, walks_repeat}
use Rattle.qs_paths.specs.inner.Links.{AreAlike, IsWeb, LinkSteps, StandsAt, nodes_at}
use Rattle.qs_paths.specs.inner.Nodes.{AreEnds, IsNaming, NamesNode, names}
use Rattle.qs_paths.proofs.LinkLaws.{at_named}
use Rattle.qs_paths.proofs.Names.{map_long, names_at, names_distinct}

-- ---- terms that lead to each other

module _ (graph : Graph) (f : AtEnds) (t : Tied graph f) where
  abbrev Step : Term → Term → Type 0
  Step x y = is_step f x y ≡ true

  abbrev Reaches : Repetition → Term → Term → Type 0
  Reaches repetition x y = repeats repetition (is_step f) (candidates graph x) x y ≡ true

  walk_of : (repetition : Repetition) (x y : Term) → Reaches repetition x y → Leads repetition Step x y
  walk_of repetition x y h = repeat_walks (is_step f) (candidates graph x) (candidates_closed graph f t x) repetition x y h

  of_walk : (repetition : Repetition) (x y : Term) → Leads repetition Step x y → Reaches repetition x y
  of_walk repetition x y w = walks_repeat (is_step f) (candidates graph x) (candidates_closed graph f t x) repetition x y (start_candidate graph x) w

  joined : (x z y : Term) (us vs : List Term) → IsWalk Step x us z → IsWalk Step z vs y → IsWalk Step x (us ++ vs) y
  joined x z y [] vs h k = subst (λ (u : Term). IsWalk Step u vs y) (sym h) k
  joined x z y (u ∷ us) vs h k = (h.0, joined u z y us vs h.1 k)

  led_on : (repetition : Repetition) → repetition ≢ ZeroOrOne → (x z y : Term) → Leads repetition Step x z → Leads repetition Step z y → Leads repetition Step x y
  led_on ZeroOrOne ne x z y h k = absurd (ne refl)
  led_on ZeroOrMore ne x z y h k = (h.0 ++ k.0, (omega arith, joined x z y h.0 k.0 h.1.1 k.1.1))
  led_on OneOrMore ne x z y h k = (h.0 ++ k.0, (omega (arith, h.1.0, length-append h.0 k.0), joined x z y h.0 k.0 h.1.1 k.1.1))

  led_from : (repetition : Repetition) → repetition ≢ ZeroOrOne → (x z y : Term) → Step x z → Leads repetition Step z y → Leads repetition Step x y
  led_from ZeroOrOne ne x z y s k = absurd (ne refl)
  led_from ZeroOrMore ne x z y s k = (z ∷ k.0, (omega arith, (s, k.1.1)))
  led_from OneOrMore ne x z y s k = (z ∷ k.0, (omega arith, (s, k.1.1)))

  ends_distinct : (repetition : Repetition) (x : Term) → Distinct same_term (ends repetition (is_step f) graph x)
  ends_distinct repetition x = distinct_filter same_term same_term-Decides (repeats repetition (is_step f) (candidates graph x) x) (candidates graph x) (distinct_once same_term same_term-Decides (x ∷ nodes_of graph))

  at_end : (repetition : Repetition) (x y : Term) → Mem y (ends repetition (is_step f) graph x) → Reaches repetition x y
  at_end repetition x y m = (mem_of_filter (repeats repetition (is_step f) (candidates graph x) x) y (candidates graph x) m).0

  end_at : (repetition : Repetition) (x y : Term) → Reaches repetition x y → Mem y (ends repetition (is_step f) graph x)
  end_at repetition x y h = mem_filter (repeats repetition (is_step f) (candidates graph x) x) y (candidates graph x) h (inside graph f t x repetition y h)

  pub ends_alike : (repetition : Repetition) → repetition ≢ ZeroOrOne → (x y : Term) → Step x y → Mem x (ends repetition (is_step f) graph y) → SameBag (ends repetition (is_step f) graph y) (ends repetition (is_step f) graph x)
  ends_alike repetition ne x y s m =
      same_bag same_term same_term-Decides (ends repetition (is_step f) graph y) (ends repetition (is_step f) graph x) (ends_distinct repetition y) (ends_distinct repetition x)
      (λ z k. end_at repetition x z (of_walk repetition x z (led_from repetition ne x y z s (walk_of repetition y z (at_end repetition y z k)))))
      (λ z k. end_at repetition y z (of_walk repetition y z (led_on repetition ne y x z (walk_of repetition y x (at_end repetition y x m)) (walk_of repetition x z (at_end repetition x z k)))))

-- ---- places

place_of : (m : ℕ) (ns : List ℕ) → Mem m ns → (i : ℕ) × ((i < length ns) × (m ≡ get_or ns i m))
place_of m [] h = elim h [ ]
place_of m (n ∷ ns) (inl e) = (0, (omega arith, e))
place_of m (n ∷ ns) (inr h) = let w = place_of m ns h in (suc w.0, (omega (arith, w.1.0), w.1.1))

below_mem : (count m : ℕ) (ns : List ℕ) → AreBelow count ns → list_any (same_number m) ns ≡ true → m < count
below_mem count m ns b h =
    let w = place_of m ns (in_mem same_number Decides-eqb m ns h) in
    subst (λ k. k < count) (sym w.1.1) (All-get_or (λ k. k < count) ns w.0 m w.1.0 b)

same_place : (nodes : List ℕ) (at n m : ℕ) → StandsAt nodes at n → StandsAt nodes at m → n ≡ m
same_place nodes at n m h k = sym h.1 ∙ (get_or_default nodes at n m h.0 ∙ k.1)

pub none_alike : (known : List Term) (repetition : Repetition) (f : AtEnds) (graph : Graph) (nodes found alike : List ℕ) → alike ≡ [] → AreAlike known repetition f graph nodes found alike
none_alike known repetition f graph nodes found alike e at n s h = let k : false ≡ true = subst (λ l. list_any (same_number at) l ≡ true) e h in cc

pub alike_more : (known : List Term) (repetition : Repetition) (f : AtEnds) (graph : Graph) (nodes found alike alike' : List ℕ) (at x : ℕ) → StandsAt nodes at x → AreEnds known repetition f graph x (nodes_at x nodes found)
    → AreAlike known repetition f graph nodes found alike → alike' ≡ with_new same_number alike at → AreAlike known repetition f graph nodes found alike'
alike_more known repetition f graph nodes found alike alike' at x s ends was e m n k h =
    elim (mem_with_new same_number Decides-eqb m at alike (in_mem same_number Decides-eqb m (with_new same_number alike at) (subst (λ l. list_any (same_number m) l ≡ true) e h))) [
      | inl j ↦ was m n k (mem_in same_number Decides-eqb m alike j)
      | inr j ↦
          let i : x ≡ n = same_place nodes at x n s (subst (λ z. StandsAt nodes z n) j k) in
          subst (λ z. AreEnds known repetition f graph z (nodes_at z nodes found)) i ends
    ]

module _ (known : List Term) (graph : Graph) (p : Path) (nodes : List ℕ) (rows : List (List ℕ)) (web : IsWeb nodes rows) (links : LinkSteps known nodes rows (pairs graph p)) where
  module _ (name : ℕ → Term) (n : IsNaming known name) where
    abbrev terms : List Term
    terms = names name nodes

    abbrev steps : List Pair
    steps = (links name n).0

    -- the pairs from a node are those with it at the left
    from_node : (x : Term) → list_any (same_term x) (nodes_of graph) ≡ true → SameBag (at_left x steps) (pairs graph p (Some x) None)
    from_node x k =
        IsPermutation-trans (at_left x steps) (at_left x (pairs graph p None None)) (pairs graph p (Some x) None)
        (filter_same_by same_pair same_pair-Decides (λ (e : Pair). same_term x e.left) steps (pairs graph p None None) (links name n).1.0)
        (IsPermutation-sym _ _ ((steady graph p).left x None (in_mem same_term same_term-Decides x (nodes_of graph) k)))

    below : (ns : List ℕ) → AreBelow (length nodes) ns → AreBelow (length (names name nodes)) ns
    below ns h = subst (λ c. AreBelow c ns) (sym (map_long name nodes)) h

    -- a link is a step
    linked_step : (at x m u : ℕ) → StandsAt nodes at x → StandsAt nodes m u → NamesNode known graph x → list_any (same_number m) (get_or rows at []) ≡ true → is_step (pairs graph p) (name x) (name u) ≡ true
    linked_step at x m u s k node h =
        let d = names_distinct name n.apart nodes web.distinct in
        let e : leads_to (names name nodes) rows (name x) ≡ named (name x) (names name nodes) (get_or rows at []) =
        ap (named (name x) (names name nodes)) (row_at (names name nodes) rows at (name x) d (web.long ∙ sym (map_long name nodes)) (at_named name nodes at x s)) in
        let w = at_named name nodes m u k in
        let g : get_or (names name nodes) m (name x) ≡ name u = get_or_default (names name nodes) m (name x) (name u) w.0 ∙ w.1 in
        let j : Mem (name u) (named (name x) (names name nodes) (get_or rows at [])) =
        subst (λ z. Mem z (named (name x) (names name nodes) (get_or rows at []))) g (mem_map (λ (a : ℕ). get_or (names name nodes) a (name x)) m (get_or rows at []) (in_mem same_number Decides-eqb m (get_or rows at []) h)) in
        stepped graph (pairs graph p) (tied graph p) (name x) (name x) (name u) (at_left (name x) steps) (from_node (name x) (node name n)) (subst (λ l. Mem (name u) l) (sym e ∙ (links name n).1.1 (name x)) j)

  pub alike_ends : (repetition : Repetition) → repetition ≢ ZeroOrOne → (found alike : List ℕ) (at x m : ℕ) → StandsAt nodes at x → NamesNode known graph x → AreBelow (length nodes) found → list_any (same_number at) found ≡ true → list_any (same_number m) (get_or rows at []) ≡ true → list_any (same_number m) alike ≡ true
      → AreAlike known repetition (pairs graph p) graph nodes found alike → AreEnds known repetition (pairs graph p) graph x (nodes_at x nodes found)
  alike_ends repetition ne found alike at x m s node b h k a all name n =
      let r : AreBelow (length nodes) (get_or rows at []) = All-get_or (AreBelow (length nodes)) rows at [] (omega (arith, s.0, web.long)) web.below in
      let lt : m < length nodes = below_mem (length nodes) m (get_or rows at []) r k in
      let u : ℕ = get_or nodes m 0 in
      let v : StandsAt nodes m u = (lt, get_or_default nodes m u 0 lt) in
      let g : SameBag (names name (nodes_at u nodes found)) (ends repetition (is_step (pairs graph p)) graph (name u)) = all m u v a name n in
      let e : names name (nodes_at x nodes found) ≡ names name (nodes_at u nodes found) =
      names_at name x nodes found ∙ (named_default (name x) (name u) (names name nodes) found (below name n found b) ∙ sym (names_at name u nodes found)) in
      let i : get_or nodes at u ≡ x = get_or_default nodes at u x s.0 ∙ s.1 in
      let j : Mem (name x) (names name (nodes_at u nodes found)) =
      mem_map name x (nodes_at u nodes found) (subst (λ z. Mem z (nodes_at u nodes found)) i (mem_map (λ (c : ℕ). get_or nodes c u) at found (in_mem same_number Decides-eqb at found h))) in
      let o : Mem (name x) (ends repetition (is_step (pairs graph p)) graph (name u)) =
      in_mem same_term same_term-Decides (name x) (ends repetition (is_step (pairs graph p)) graph (name u)) (sym (list_any-IsPermutation (same_term (name x)) (names name (nodes_at u nodes found)) (ends repetition (is_step (pairs graph p)) graph (name u)) g) ∙ mem_in same_term same_term-Decides (name x) (names name (nodes_at u nodes found)) j) in
      subst (λ (l : List Term). SameBag l (ends repetition (is_step (pairs graph p)) graph (name x))) (sym e)
      (IsPermutation-trans (names name (nodes_at u nodes found)) (ends repetition (is_step (pairs graph p)) graph (name u)) (ends repetition (is_step (pairs graph p)) graph (name x)) g
      (ends_alike graph (pairs graph p) (tied graph p) repetition ne (name x) (name u) (linked_step name n at x m u s v node k) o))

  pub alike_if : (repetition : Repetition) (o : Option ℕ) → is_some o ≡ true → IfSome o (λ m. repetition ≢ ZeroOrOne) → (found alike : List ℕ) (at x : ℕ) → StandsAt nodes at x → NamesNode known graph x → AreBelow (length nodes) found
      → IfSome o (λ m. list_any (same_number at) found ≡ true) → IfSome o (λ m. list_any (same_number m) (get_or rows at []) ≡ true) → IfSome o (λ m. list_any (same_number m) alike ≡ true)
      → AreAlike known repetition (pairs graph p) graph nodes found alike → AreEnds known repetition (pairs graph p) graph x (nodes_at x nodes found)
  alike_if repetition None t ne found alike at x s node b h k a all = absurd (let f : false ≡ true = t in cc)
  alike_if repetition (Some m) t ne found alike at x s node b h k a all = alike_ends repetition ne found alike at x m s node b h k a all

-- A path leads from its left end to its right end; and where it does not lead from a term to itself, both are nodes of the graph.
use Rattle.std.proofs.Common.{◌≡◌, Bool, true, false, ◌||◌, if◌then◌else◌, ◌⊎◌, inl, inr, List, [], ◌∷◌, map, Option, Some, None, refl, sym, ap, subst}
use Rattle.std.specs.List.{filter, flat_map, list_any}
use Rattle.qs_terms.specs.declared.term.Term.{Term}
use Rattle.qs_terms.specs.declared.term.Term.TheVariants as term
use Rattle.qs_terms.specs.Term.{same_term}
use Rattle.qs_terms.specs.Dataset.{Triple, nodes_of}
use Rattle.qs_terms.specs.inner.Dataset.{ends_of}
use Rattle.qs_terms.proofs.SameTerm.{same_term-Decides}
use Rattle.qs_syntax_tree.specs.declared.path.Repetition.{Repetition}
use Rattle.qs_syntax_tree.specs.declared.path.Repetition.TheVariants.{ZeroOrOne, ZeroOrMore, OneOrMore}
use Rattle.qs_syntax_ast.specs.declared.path.NegatedIri.{NegatedIri}
use Rattle.qs_syntax_ast.specs.declared.path.Path.{Path, Path-F, map-Path, roll-Path, ind-Path}
use Rattle.qs_syntax_ast.specs.declared.path.Path.TheVariants.{rolls-Iri, rolls-NegatedSet, rolls-Alternative, rolls-Sequence, rolls-Inverse, rolls-Repeated}
use Rattle.qs_paths_meaning.specs.Pair.{Pair, pair, swapped}
use Rattle.qs_paths_meaning.specs.Steps.{Graph, agrees, is_between, along, negated, is_of, is_none, is_outside, composed}
use Rattle.qs_paths_meaning.specs.inner.Steps.{pair_of, against, from_pair, from_start}
use Rattle.qs_paths_meaning.specs.Closure.{candidates, leads, repeats, ends, starts, closure}
use Rattle.qs_paths_meaning.specs.Pairs.{AtEnds, in_sequence, is_step, pairs}
use Rattle.qs_paths_meaning.proofs.Meaning.{pairs_iri, pairs_negated, pairs_alternative, pairs_sequence, pairs_inverse, pairs_repeated}
use Rattle.qs_paths_meaning.proofs.Members.{Mem, mem_at, mem_split, mem_of_filter, mem_of_map, mem_of_flat, mem_flat, mem_once, or_cases}
use Rattle.qs_paths_meaning.proofs.WalkLaws.{both, cases}

module _ (graph : Graph) where
  abbrev pub Node : Term → Type 0
  Node t = Mem t (nodes_of graph)

  -- the same term, or two nodes
  abbrev pub Near : Term → Term → Type 0
  Near x y = (x ≡ y) ⊎ (Node x × Node y)

  pub near_on : (x y z : Term) → Near x y → Near y z → Near x z
  near_on x y z (inl e) h = subst (λ (u : Term). Near u z) (sym e) h
  near_on x y z (inr m) (inl e) = inr (m.0, mem_at y z (nodes_of graph) e m.1)
  near_on x y z (inr m) (inr n) = inr (m.0, n.1)

  pub near_back : (x y : Term) → Near x y → Near y x
  near_back x y (inl e) = inl (sym e)
  near_back x y (inr m) = inr (m.1, m.0)

  pub record Between (left right : Option Term) (e : Pair) : Type 0 where
    pub at_left : agrees left e.left ≡ true
    pub at_right : agrees right e.right ≡ true
    pub near : Near e.left e.right

  abbrev pub Tied : AtEnds → Type 0
  Tied f = (left right : Option Term) (e : Pair) → Mem e (f left right) → Between left right e

  tied_at : (left right : Option Term) (e f : Pair) → e ≡ f → Between left right f → Between left right e
  tied_at left right e f is b = subst (λ (g : Pair). Between left right g) (sym is) b

  pub subject_node : (t : Triple) → Mem t graph → Node t.subject
  subject_node t m = mem_once same_term same_term-Decides t.subject (flat_map ends_of graph) (mem_flat ends_of t t.subject graph m (inl refl))

  pub object_node : (t : Triple) → Mem t graph → Node t.object
  object_node t m = mem_once same_term same_term-Decides t.object (flat_map ends_of graph) (mem_flat ends_of t t.object graph m (inr (inl refl)))

  tied_along : (test : Term → Bool) → Tied (along test graph)
  tied_along test left right e h =
      let w = mem_of_filter (is_between left right) e (map pair_of (filter (λ t. test t.predicate) graph)) h in
      let a = both (agrees left e.left) (agrees right e.right) w.0 in
      let v = mem_of_map pair_of e (filter (λ t. test t.predicate) graph) w.1 in
      let m = (mem_of_filter (λ t. test t.predicate) v.0 graph v.1.0).1 in record {
        at_left = a.0;
        at_right = a.1;
        near = inr (
          mem_at v.0.subject e.left (nodes_of graph) (sym (ap (λ (f : Pair). f.left) v.1.1)) (subject_node v.0 m),
          mem_at v.0.object e.right (nodes_of graph) (sym (ap (λ (f : Pair). f.right) v.1.1)) (object_node v.0 m),
        );
      }

  pub tied_swapped : (f : AtEnds) → Tied f → Tied (λ left right. map swapped (f right left))
  tied_swapped f t left right e h =
      let w = mem_of_map swapped e (f right left) h in
      let b = t right left w.0 w.1.0 in
      tied_at left right e (swapped w.0) w.1.1 (record { at_left = b.at_right; at_right = b.at_left; near = near_back w.0.left w.0.right b.near })

  tied_part : (b : Bool) (f : AtEnds) → Tied f → (left right : Option Term) (e : Pair) → Mem e (if b then f left right else []) → Between left right e
  tied_part true f t left right e h = t left right e h
  tied_part false f t left right e h = elim h [ ]

  tied_negated : (members : List NegatedIri) → Tied (negated members graph)
  tied_negated members left right e h =
      elim
      (mem_split e
      (if list_any (is_of false) members || is_none members then along (is_outside false members) graph left right else [])
      (if list_any (is_of true) members then against (is_outside true members) graph left right else []) h) [
        | inl k ↦ tied_part (list_any (is_of false) members || is_none members) (along (is_outside false members) graph) (tied_along (is_outside false members)) left right e k
        | inr k ↦
            tied_part (list_any (is_of true) members) (against (is_outside true members) graph)
            (tied_swapped (along (is_outside true members) graph) (tied_along (is_outside true members))) left right e k
      ]

  tied_composed : (f g : AtEnds) → Tied f → Tied g → Tied (λ left right. composed (f left None) (g None right))
  tied_composed f g s t left right e h =
      let w = mem_of_flat (from_pair (g None right)) e (f left None) h in
      let v = mem_of_map (λ (q : Pair). pair w.0.left q.right) e (filter (λ (q : Pair). same_term w.0.right q.left) (g None right)) w.1.1 in
      let m = mem_of_filter (λ (q : Pair). same_term w.0.right q.left) v.0 (g None right) v.1.0 in
      let a = s left None w.0 w.1.0 in
      let b = t None right v.0 m.1 in
      let meet = (same_term-Decides w.0.right v.0.left).0 m.0 in
      tied_at left right e (pair w.0.left v.0.right) v.1.1 (record {
        at_left = a.at_left;
        at_right = b.at_right;
        near = near_on w.0.left v.0.left v.0.right (subst (λ (u : Term). Near w.0.left u) meet a.near) b.near;
      })

  abbrev Each : List AtEnds → Type 0
  Each fs = (f : AtEnds) → Mem f fs → Tied f

  pub tied_sequence : (fs : List AtEnds) → Each fs → Tied (in_sequence fs)
  tied_sequence [] each left right e h = elim h [ ]
  tied_sequence (f ∷ []) each left right e h = each f (inl refl) left right e h
  tied_sequence (f ∷ g ∷ fs) each left right e h =
      tied_composed f (in_sequence (g ∷ fs)) (each f (inl refl)) (tied_sequence (g ∷ fs) (λ k m. each k (inr m))) left right e h

  tied_any : (fs : List AtEnds) → Each fs → Tied (λ left right. flat_map (λ (f : AtEnds). f left right) fs)
  tied_any [] each left right e h = elim h [ ]
  tied_any (f ∷ fs) each left right e h =
      elim (mem_split e (f left right) (flat_map (λ (k : AtEnds). k left right) fs) h) [
        | inl k ↦ each f (inl refl) left right e k
        | inr k ↦ tied_any fs (λ g m. each g (inr m)) left right e k
      ]

  -- ---- closures

  pub step_near : (f : AtEnds) → Tied f → (u v : Term) → is_step f u v ≡ true → Near u v
  step_near f t u v h = by (f (Some u) None) (λ e m. t (Some u) None e m) h
    where
      by : (es : List Pair) → ((e : Pair) → Mem e es → Between (Some u) None e) → list_any (λ e. same_term v e.right) es ≡ true → Near u v
      by [] all k = let g : false ≡ true = k in cc
      by (e ∷ es) all k =
          elim (or_cases (same_term v e.right) (list_any (λ e. same_term v e.right) es) k) [
            | inl s ↦
                let b = all e (inl refl) in
                let i : u ≡ e.left = (same_term-Decides u e.left).0 b.at_left in
                let j : v ≡ e.right = (same_term-Decides v e.right).0 s in
                subst (λ (y : Term). Near u y) (sym j) (subst (λ (x : Term). Near x e.right) (sym i) b.near)
            | inr s ↦ by es (λ d m. all d (inr m)) s
          ]

  leads_near : (step : Term → Term → Bool) → ((u v : Term) → step u v ≡ true → Near u v) → (cs : List Term) (x y : Term) → leads step cs x y ≡ true → Near x y
  leads_near step near [] x y h = near x y h
  leads_near step near (c ∷ cs) x y h =
      elim (cases step c cs x y h) [
        | inl k ↦ leads_near step near cs x y k
        | inr k ↦ near_on x c y (leads_near step near cs x c k.0) (leads_near step near cs c y k.1)
      ]

  pub repeats_near : (repetition : Repetition) (step : Term → Term → Bool) → ((u v : Term) → step u v ≡ true → Near u v) → (cs : List Term) (x y : Term) → repeats repetition step cs x y ≡ true → Near x y
  repeats_near ZeroOrOne step near cs x y h = elim (or_cases (same_term x y) (step x y) h) [ inl k ↦ inl ((same_term-Decides x y).0 k) | inr k ↦ near x y k ]
  repeats_near ZeroOrMore step near cs x y h =
      elim (or_cases (same_term x y) (leads step cs x y) h) [ inl k ↦ inl ((same_term-Decides x y).0 k) | inr k ↦ leads_near step near cs x y k ]
  repeats_near OneOrMore step near cs x y h = leads_near step near cs x y h

  start_agrees : (left right : Option Term) (x : Term) → Mem x (starts graph left right) → agrees left x ≡ true
  start_agrees (Some a) right x (inl e) = (same_term-Decides a x).1 (sym e)
  start_agrees (Some a) right x (inr h) = elim h [ ]
  start_agrees None right x h = refl

  tied_closure : (repetition : Repetition) (f : AtEnds) → Tied f → Tied (closure repetition (is_step f) graph)
  tied_closure repetition f t left right e h =
      let step : Term → Term → Bool = is_step f in
      let w = mem_of_flat (from_start repetition (is_step f) graph right) e (starts graph left right) h in
      let v = mem_of_map (pair w.0) e (filter (agrees right) (ends repetition (is_step f) graph w.0)) w.1.1 in
      let a = mem_of_filter (agrees right) v.0 (ends repetition (is_step f) graph w.0) v.1.0 in
      let b = mem_of_filter (repeats repetition (is_step f) (candidates graph w.0) w.0) v.0 (candidates graph w.0) a.1 in
      tied_at left right e (pair w.0 v.0) v.1.1 (record {
        at_left = start_agrees left right w.0 w.1.0;
        at_right = a.0;
        near = repeats_near repetition (is_step f) (step_near f t) (candidates graph w.0) w.0 v.0 b.0;
      })

  -- ---- all paths

  abbrev IsTied : Path → Type 0
  IsTied p = Tied (pairs graph p)

  each_of : (ps : List ((p : Path) × IsTied p)) → Each (map (pairs graph) (map (λ e. e.0) ps))
  each_of [] f m = elim m [ ]
  each_of (p ∷ ps) f (inl e) = subst (λ (g : AtEnds). Tied g) (sym e) p.1
  each_of (p ∷ ps) f (inr m) = each_of ps f m

  tied_level : (y : Path-F ((p : Path) × IsTied p)) → IsTied (roll-Path (map-Path ((p : Path) × IsTied p) Path (λ e. e.0) y))
  tied_level (Path-F.Iri i) = subst IsTied (sym (rolls-Iri i)) (subst Tied (sym (pairs_iri graph i)) (tied_along (same_term (term.Iri i))))
  tied_level (Path-F.NegatedSet members) = subst IsTied (sym (rolls-NegatedSet members)) (subst Tied (sym (pairs_negated graph members)) (tied_negated members))
  tied_level (Path-F.Alternative ps) =
      subst IsTied (sym (rolls-Alternative (map (λ e. e.0) ps)))
      (subst Tied (sym (pairs_alternative graph (map (λ e. e.0) ps))) (tied_any (map (pairs graph) (map (λ e. e.0) ps)) (each_of ps)))
  tied_level (Path-F.Sequence ps) =
      subst IsTied (sym (rolls-Sequence (map (λ e. e.0) ps)))
      (subst Tied (sym (pairs_sequence graph (map (λ e. e.0) ps))) (tied_sequence (map (pairs graph) (map (λ e. e.0) ps)) (each_of ps)))
  tied_level (Path-F.Inverse p) = subst IsTied (sym (rolls-Inverse p.0)) (subst Tied (sym (pairs_inverse graph p.0)) (tied_swapped (pairs graph p.0) p.1))
  tied_level (Path-F.Repeated p repetition) =
      subst IsTied (sym (rolls-Repeated p.0 repetition)) (subst Tied (sym (pairs_repeated graph p.0 repetition)) (tied_closure repetition (pairs graph p.0) p.1))

  pub tied : (p : Path) → IsTied p
  tied = ind-Path IsTied (λ x y is. subst (λ z. IsTied (roll-Path z)) is (tied_level y))

  -- a path steps from a candidate to candidates alone
  pub candidate : (x y : Term) → (y ≡ x) ⊎ Node y → Mem y (candidates graph x)
  candidate x y (inl e) = mem_once same_term same_term-Decides y (x ∷ nodes_of graph) (inl e)
  candidate x y (inr m) = mem_once same_term same_term-Decides y (x ∷ nodes_of graph) (inr m)

  pub start_candidate : (x : Term) → Mem x (candidates graph x)
  start_candidate x = candidate x x (inl refl)

  pub candidates_closed : (f : AtEnds) → Tied f → (x u v : Term) → Mem u (candidates graph x) → is_step f u v ≡ true → Mem v (candidates graph x)
  candidates_closed f t x u v m h =
      elim (step_near f t u v h) [
        | inl e ↦ mem_at u v (candidates graph x) e m
        | inr n ↦ candidate x v (inr n.1)
      ]

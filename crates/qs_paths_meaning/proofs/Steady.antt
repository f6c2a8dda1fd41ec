-- An end that is a node may be given or filtered by, and a path leads from a term exactly where its inverse leads back.
use Rattle.std.proofs.Common.{◌≡◌, Bool, true, false, ◌&&◌, ◌||◌, cond, if◌then◌else◌, inl, inr, List, [], ◌∷◌, ◌++◌, map, Option, Some, None, refl, sym, ◌∙◌, ap, subst}
use Rattle.std.specs.List.{filter, flat_map, list_any}
use Rattle.std.proofs.lemmas.List.Sorted.{IsPermutation-append, IsPermutation-map, IsPermutation-refl, list_any-IsPermutation}
use Rattle.qs_terms.specs.declared.term.Term.{Term}
use Rattle.qs_terms.specs.declared.term.Term.TheVariants as term
use Rattle.qs_terms.specs.Bag.{SameBag, Distinct}
use Rattle.qs_terms.specs.Term.{same_term}
use Rattle.qs_terms.specs.Dataset.{nodes_of}
use Rattle.qs_terms.specs.inner.Dataset.{ends_of}
use Rattle.qs_terms.proofs.FirstOnes.{filter-append}
use Rattle.qs_terms.proofs.SameTerm.{same_term-Decides}
use Rattle.qs_syntax_tree.specs.declared.path.Repetition.{Repetition}
use Rattle.qs_syntax_ast.specs.declared.path.NegatedIri.{NegatedIri}
use Rattle.qs_syntax_ast.specs.declared.path.Path.{Path, Path-F, map-Path, roll-Path, ind-Path}
use Rattle.qs_syntax_ast.specs.declared.path.Path.TheVariants.{rolls-Iri, rolls-NegatedSet, rolls-Alternative, rolls-Sequence, rolls-Inverse, rolls-Repeated}
use Rattle.qs_paths_meaning.specs.Pair.{Pair, pair, swapped}
use Rattle.qs_paths_meaning.specs.inner.Pair.{same_pair}
use Rattle.qs_paths_meaning.specs.Steps.{Graph, agrees, is_between, along, negated, is_of, is_none, is_outside, composed}
use Rattle.qs_paths_meaning.specs.inner.Steps.{pair_of, against, from_pair, from_start}
use Rattle.qs_paths_meaning.specs.Closure.{candidates, ends, starts, closure}
use Rattle.qs_paths_meaning.specs.Pairs.{AtEnds, in_sequence, is_step, pairs}
use Rattle.qs_paths_meaning.proofs.Meaning.{pairs_iri, pairs_negated, pairs_alternative, pairs_sequence, pairs_inverse, pairs_repeated}
use Rattle.qs_paths_meaning.proofs.Members.{Mem, mem_at, mem_left, mem_right, mem_split, mem_filter, mem_of_filter, mem_map, mem_of_map, mem_flat, mem_of_flat, in_mem, mem_in, is_out, false_from, same_bag, distinct_once, mem_once, mem_of_once}
use Rattle.qs_paths_meaning.proofs.Near.{Near, Node, Tied, tied, tied_sequence, subject_node, object_node, candidate}
use Rattle.qs_paths_meaning.proofs.WalkLaws.{and_true}
use Rattle.qs_paths_meaning.proofs.Arms.{same_pair-Decides, same_as, flat_map_same, composed_same}
use Rattle.qs_paths_meaning.proofs.ClosureLaws.{closure_has, in_closure, reaches_near, lefts_are, rights_are, distinct_starts}

-- the pairs with this left or right end
abbrev pub at_left : Term → List Pair → List Pair
at_left x es = filter (λ (e : Pair). same_term x e.left) es

abbrev pub at_right : Term → List Pair → List Pair
at_right y es = filter (λ (e : Pair). same_term y e.right) es

-- ---- filters

-- a filter by two tests, the first of which comes last
filter_twice : {X : Type 0} (p q : X → Bool) (xs : List X) → filter (λ x. p x && q x) xs ≡ filter p (filter q xs)
filter_twice p q [] = refl
filter_twice p q (x ∷ xs) = by (p x) refl (q x) (filter_twice p q xs)
  where
    by : (a : Bool) → p x ≡ a → (b : Bool) → filter (λ x. p x && q x) xs ≡ filter p (filter q xs) → cond (a && b) (x ∷ filter (λ x. p x && q x) xs) (filter (λ x. p x && q x) xs) ≡ filter p (cond b (x ∷ filter q xs) (filter q xs))
    by true e true h = ap (λ l. x ∷ l) h ∙ sym (ap (λ c. cond c (x ∷ filter p (filter q xs)) (filter p (filter q xs))) e)
    by true e false h = h
    by false e true h = h ∙ sym (ap (λ c. cond c (x ∷ filter p (filter q xs)) (filter p (filter q xs))) e)
    by false e false h = h

and_swapped : (a b : Bool) → (a && b) ≡ (b && a)
and_swapped true true = refl
and_swapped true false = refl
and_swapped false true = refl
and_swapped false false = refl

pub filter_ap : {X : Type 0} (p q : X → Bool) → ((x : X) → p x ≡ q x) → (xs : List X) → filter p xs ≡ filter q xs
filter_ap p q h [] = refl
filter_ap p q h (x ∷ xs) = ap (λ c. cond c (x ∷ filter p xs) (filter p xs)) (h x) ∙ ap (λ l. cond (q x) (x ∷ l) l) (filter_ap p q h xs)

pub filters_swapped : {X : Type 0} (p q : X → Bool) (xs : List X) → filter p (filter q xs) ≡ filter q (filter p xs)
filters_swapped p q xs = sym (filter_twice p q xs) ∙ (filter_ap (λ x. p x && q x) (λ x. q x && p x) (λ x. and_swapped (p x) (q x)) xs ∙ filter_twice q p xs)

and_self : (a : Bool) → (a && a) ≡ a
and_self true = refl
and_self false = refl

pub filter_again : {X : Type 0} (p : X → Bool) (xs : List X) → filter p (filter p xs) ≡ filter p xs
filter_again p xs = sym (filter_twice p p xs) ∙ filter_ap (λ x. p x && p x) p (λ x. and_self (p x)) xs

filter_map : {X Y : Type 0} (p : Y → Bool) (f : X → Y) (xs : List X) → filter p (map f xs) ≡ map f (filter (λ x. p (f x)) xs)
filter_map p f [] = refl
filter_map p f (x ∷ xs) = by (p (f x)) (filter_map p f xs)
  where
    by : (b : Bool) → filter p (map f xs) ≡ map f (filter (λ x. p (f x)) xs) → cond b (f x ∷ filter p (map f xs)) (filter p (map f xs)) ≡ map f (cond b (x ∷ filter (λ x. p (f x)) xs) (filter (λ x. p (f x)) xs))
    by true h = ap (λ l. f x ∷ l) h
    by false h = h

filter_flat : {X Y : Type 0} (p : Y → Bool) (f : X → List Y) (xs : List X) → filter p (flat_map f xs) ≡ flat_map (λ x. filter p (f x)) xs
filter_flat p f [] = refl
filter_flat p f (x ∷ xs) = filter-append p (f x) (flat_map f xs) ∙ ap (λ l. filter p (f x) ++ l) (filter_flat p f xs)

flat_ap : {X Y : Type 0} (f g : X → List Y) → ((x : X) → f x ≡ g x) → (xs : List X) → flat_map f xs ≡ flat_map g xs
flat_ap f g h [] = refl
flat_ap f g h (x ∷ xs) = ap (λ l. l ++ flat_map f xs) (h x) ∙ ap (λ l. g x ++ l) (flat_ap f g h xs)

-- all or none pass
filter_same : {X : Type 0} (b : Bool) (xs : List X) → filter (λ x. b) xs ≡ cond b xs []
filter_same true [] = refl
filter_same true (x ∷ xs) = ap (λ l. x ∷ l) (filter_same true xs)
filter_same false [] = refl
filter_same false (x ∷ xs) = filter_same false xs

flat_cond : {X Y : Type 0} (p : X → Bool) (f : X → List Y) (xs : List X) → flat_map (λ x. cond (p x) (f x) []) xs ≡ flat_map f (filter p xs)
flat_cond p f [] = refl
flat_cond p f (x ∷ xs) = by (p x) (flat_cond p f xs)
  where
    by : (b : Bool) → flat_map (λ x. cond (p x) (f x) []) xs ≡ flat_map f (filter p xs) → cond b (f x) [] ++ flat_map (λ x. cond (p x) (f x) []) xs ≡ flat_map f (cond b (x ∷ filter p xs) (filter p xs))
    by true h = ap (λ l. f x ++ l) h
    by false h = h

not_at : (x y : Term) (xs : List Term) → same_term x y ≡ false → filter (same_term x) (y ∷ xs) ≡ filter (same_term x) xs
not_at x y xs e = ap (λ c. cond c (y ∷ filter (same_term x) xs) (filter (same_term x) xs)) e

is_at : (x y : Term) (xs : List Term) → same_term x y ≡ true → filter (same_term x) (y ∷ xs) ≡ y ∷ filter (same_term x) xs
is_at x y xs e = ap (λ c. cond c (y ∷ filter (same_term x) xs) (filter (same_term x) xs)) e

none_of : (x : Term) (xs : List Term) → (Mem x xs → ⊥) → filter (same_term x) xs ≡ []
none_of x [] h = refl
none_of x (y ∷ xs) h =
    not_at x y xs (false_from (same_term x y) (λ t. h (inl ((same_term-Decides x y).0 t)))) ∙ none_of x xs (λ m. h (inr m))

-- the one element of a list without repeats
one_of : (x : Term) (xs : List Term) → Distinct same_term xs → Mem x xs → filter (same_term x) xs ≡ x ∷ []
one_of x [] d m = elim m [ ]
one_of x (y ∷ xs) d (inl e) =
    is_at x y xs ((same_term-Decides x y).1 e)
    ∙ (ap (λ l. y ∷ l) (none_of x xs (λ m. is_out same_term same_term-Decides y xs d.0 (mem_at x y xs e m))) ∙ ap (λ z. z ∷ []) (sym e))
one_of x (y ∷ xs) d (inr m) =
    not_at x y xs (false_from (same_term x y) (λ t. is_out same_term same_term-Decides y xs d.0 (mem_at x y xs ((same_term-Decides x y).0 t) m)))
    ∙ one_of x xs d.1 m

-- ---- the law

module _ (graph : Graph) where
  pub record Steady (f : AtEnds) : Type 0 where
    pub left : (x : Term) (right : Option Term) → Node graph x → SameBag (f (Some x) right) (at_left x (f None right))
    pub right : (left : Option Term) (y : Term) → Node graph y → SameBag (f left (Some y)) (at_right y (f left None))
    pub within : (e : Pair) → Mem e (f None None) → Node graph e.left × Node graph e.right
    pub back : (u v : Term) → Mem (pair u v) (f (Some u) None) → Mem (pair u v) (f None (Some v))
    pub forth : (u v : Term) → Mem (pair u v) (f None (Some v)) → Mem (pair u v) (f (Some u) None)

  of_bag : (e : Pair) (xs ys : List Pair) → SameBag xs ys → Mem e xs → Mem e ys
  of_bag e xs ys h m = in_mem same_pair same_pair-Decides e ys (sym (list_any-IsPermutation (same_pair e) xs ys h) ∙ mem_in same_pair same_pair-Decides e xs m)

  to_bag : (e : Pair) (xs ys : List Pair) → SameBag xs ys → Mem e ys → Mem e xs
  to_bag e xs ys h m = in_mem same_pair same_pair-Decides e xs (list_any-IsPermutation (same_pair e) xs ys h ∙ mem_in same_pair same_pair-Decides e ys m)

  -- ---- single triples

  between_at : (test : Term → Bool) (l r : Option Term) (e : Pair) → Mem e (along test graph None None) → is_between l r e ≡ true → Mem e (along test graph l r)
  between_at test l r e m h =
      mem_filter (is_between l r) e (map pair_of (filter (λ t. test t.predicate) graph)) h
      (mem_of_filter (is_between None None) e (map pair_of (filter (λ t. test t.predicate) graph)) m).1

  open_along : (test : Term → Bool) (l r : Option Term) (e : Pair) → Mem e (along test graph l r) → Mem e (along test graph None None)
  open_along test l r e m =
      mem_filter (is_between None None) e (map pair_of (filter (λ t. test t.predicate) graph)) refl
      (mem_of_filter (is_between l r) e (map pair_of (filter (λ t. test t.predicate) graph)) m).1

  steady_along : (test : Term → Bool) → Steady (along test graph)
  steady_along test = record {
    left = λ x right n. same_as _ _ (filter_twice (λ (e : Pair). same_term x e.left) (λ (e : Pair). agrees right e.right) (map pair_of (filter (λ t. test t.predicate) graph)));
    right = λ left y n.
        same_as _ _
        (filter_ap (is_between left (Some y)) (λ (e : Pair). same_term y e.right && is_between left None e) (λ (e : Pair). by (agrees left e.left) (same_term y e.right)) (map pair_of (filter (λ t. test t.predicate) graph))
        ∙ filter_twice (λ (e : Pair). same_term y e.right) (is_between left None) (map pair_of (filter (λ t. test t.predicate) graph)));
    within = λ e m.
        let a = mem_of_filter (is_between None None) e (map pair_of (filter (λ t. test t.predicate) graph)) m in
        let v = mem_of_map pair_of e (filter (λ t. test t.predicate) graph) a.1 in
        let k = (mem_of_filter (λ t. test t.predicate) v.0 graph v.1.0).1 in (
          mem_at v.0.subject e.left (nodes_of graph) (sym (lefts_are e (pair_of v.0) v.1.1)) (subject_node graph v.0 k),
          mem_at v.0.object e.right (nodes_of graph) (sym (rights_are e (pair_of v.0) v.1.1)) (object_node graph v.0 k),
        );
    back = λ u v m. between_at test None (Some v) (pair u v) (open_along test (Some u) None (pair u v) m) ((same_term-Decides v v).1 refl);
    forth = λ u v m.
        between_at test (Some u) None (pair u v) (open_along test None (Some v) (pair u v) m)
        (and_true (same_term u u) true ((same_term-Decides u u).1 refl) refl);
  }
    where
      by : (a b : Bool) → (a && b) ≡ (b && (a && true))
      by true true = refl
      by true false = refl
      by false true = refl
      by false false = refl

  -- ---- two lists, and none

  steady_none : Steady (λ left right. [])
  steady_none = record {
    left = λ x right n. IsPermutation-refl [];
    right = λ left y n. IsPermutation-refl [];
    within = λ e m. elim m [ ];
    back = λ u v m. m;
    forth = λ u v m. m;
  }

  steady_two : (f g : AtEnds) → Steady f → Steady g → Steady (λ left right. f left right ++ g left right)
  steady_two f g s t = record {
    left = λ x right n.
        subst (λ (l : List Pair). SameBag (f (Some x) right ++ g (Some x) right) l) (sym (filter-append (λ (e : Pair). same_term x e.left) (f None right) (g None right)))
        (IsPermutation-append _ _ _ _ (s.left x right n) (t.left x right n));
    right = λ left y n.
        subst (λ (l : List Pair). SameBag (f left (Some y) ++ g left (Some y)) l) (sym (filter-append (λ (e : Pair). same_term y e.right) (f left None) (g left None)))
        (IsPermutation-append _ _ _ _ (s.right left y n) (t.right left y n));
    within = λ e m. elim (mem_split e (f None None) (g None None) m) [ inl k ↦ s.within e k | inr k ↦ t.within e k ];
    back = λ u v m.
        elim (mem_split (pair u v) (f (Some u) None) (g (Some u) None) m) [
          | inl k ↦ mem_left (pair u v) (f None (Some v)) (g None (Some v)) (s.back u v k)
          | inr k ↦ mem_right (pair u v) (f None (Some v)) (g None (Some v)) (t.back u v k)
        ];
    forth = λ u v m.
        elim (mem_split (pair u v) (f None (Some v)) (g None (Some v)) m) [
          | inl k ↦ mem_left (pair u v) (f (Some u) None) (g (Some u) None) (s.forth u v k)
          | inr k ↦ mem_right (pair u v) (f (Some u) None) (g (Some u) None) (t.forth u v k)
        ];
  }

  -- ---- the inverse

  swap_left : (x : Term) (es : List Pair) → at_left x (map swapped es) ≡ map swapped (at_right x es)
  swap_left x es = filter_map (λ (e : Pair). same_term x e.left) swapped es

  swap_right : (x : Term) (es : List Pair) → at_right x (map swapped es) ≡ map swapped (at_left x es)
  swap_right x es = filter_map (λ (e : Pair). same_term x e.right) swapped es

  swap_mem : (u v : Term) (es : List Pair) → Mem (pair u v) (map swapped es) → Mem (pair v u) es
  swap_mem u v es m =
      let w = mem_of_map swapped (pair u v) es m in
      mem_at w.0 (pair v u) es (ap swapped (sym w.1.1)) w.1.0

  steady_inverse : (f : AtEnds) → Steady f → Steady (λ left right. map swapped (f right left))
  steady_inverse f s = record {
    left = λ x right n.
        subst (λ (l : List Pair). SameBag (map swapped (f right (Some x))) l) (sym (swap_left x (f right None)))
        (IsPermutation-map swapped _ _ (s.right right x n));
    right = λ left y n.
        subst (λ (l : List Pair). SameBag (map swapped (f (Some y) left)) l) (sym (swap_right y (f None left)))
        (IsPermutation-map swapped _ _ (s.left y left n));
    within = λ e m.
        let w = mem_of_map swapped e (f None None) m in
        let k = s.within w.0 w.1.0 in (
          mem_at w.0.right e.left (nodes_of graph) (sym (lefts_are e (swapped w.0) w.1.1)) k.1,
          mem_at w.0.left e.right (nodes_of graph) (sym (rights_are e (swapped w.0) w.1.1)) k.0,
        );
    back = λ u v m. mem_map swapped (pair v u) (f (Some v) None) (s.forth v u (swap_mem u v (f None (Some u)) m));
    forth = λ u v m. mem_map swapped (pair v u) (f None (Some u)) (s.back v u (swap_mem u v (f (Some v) None) m));
  }

  -- ---- sequences

  left_from : (x : Term) (qs : List Pair) (e : Pair) → at_left x (from_pair qs e) ≡ cond (same_term x e.left) (from_pair qs e) []
  left_from x qs e =
      filter_map (λ (k : Pair). same_term x k.left) (λ (k : Pair). pair e.left k.right) (filter (λ (k : Pair). same_term e.right k.left) qs)
      ∙ (ap (map (λ (k : Pair). pair e.left k.right)) (filter_same (same_term x e.left) (filter (λ (k : Pair). same_term e.right k.left) qs))
      ∙ by (same_term x e.left))
    where
      by : (b : Bool) → map (λ (k : Pair). pair e.left k.right) (cond b (filter (λ (k : Pair). same_term e.right k.left) qs) []) ≡ cond b (from_pair qs e) []
      by true = refl
      by false = refl

  left_composed : (x : Term) (ps qs : List Pair) → at_left x (composed ps qs) ≡ composed (at_left x ps) qs
  left_composed x ps qs =
      filter_flat (λ (e : Pair). same_term x e.left) (from_pair qs) ps
      ∙ (flat_ap (λ e. at_left x (from_pair qs e)) (λ e. cond (same_term x e.left) (from_pair qs e) []) (left_from x qs) ps
      ∙ flat_cond (λ (e : Pair). same_term x e.left) (from_pair qs) ps)

  right_from : (y : Term) (qs : List Pair) (e : Pair) → at_right y (from_pair qs e) ≡ from_pair (at_right y qs) e
  right_from y qs e =
      filter_map (λ (k : Pair). same_term y k.right) (λ (k : Pair). pair e.left k.right) (filter (λ (k : Pair). same_term e.right k.left) qs)
      ∙ ap (map (λ (k : Pair). pair e.left k.right)) (filters_swapped (λ (k : Pair). same_term y k.right) (λ (k : Pair). same_term e.right k.left) qs)

  right_composed : (y : Term) (ps qs : List Pair) → at_right y (composed ps qs) ≡ composed ps (at_right y qs)
  right_composed y ps qs =
      filter_flat (λ (e : Pair). same_term y e.right) (from_pair qs) ps
      ∙ flat_ap (λ e. at_right y (from_pair qs e)) (from_pair (at_right y qs)) (right_from y qs) ps

  record Through (ps qs : List Pair) (e : Pair) : Type 0 where
    first : Pair
    second : Pair
    first_in : Mem first ps
    second_in : Mem second qs
    meets : first.right ≡ second.left
    is : e ≡ pair first.left second.right

  through : (ps qs : List Pair) (e : Pair) → Mem e (composed ps qs) → Through ps qs e
  through ps qs e h =
      let w = mem_of_flat (from_pair qs) e ps h in
      let v = mem_of_map (λ (q : Pair). pair w.0.left q.right) e (filter (λ (q : Pair). same_term w.0.right q.left) qs) w.1.1 in
      let m = mem_of_filter (λ (q : Pair). same_term w.0.right q.left) v.0 qs v.1.0 in
      record { first = w.0; second = v.0; first_in = w.1.0; second_in = m.1; meets = (same_term-Decides w.0.right v.0.left).0 m.0; is = v.1.1 }

  composed_has : (ps qs : List Pair) (a m b : Term) → Mem (pair a m) ps → Mem (pair m b) qs → Mem (pair a b) (composed ps qs)
  composed_has ps qs a m b h k =
      mem_flat (from_pair qs) (pair a m) (pair a b) ps h
      (mem_map (λ (q : Pair). pair a q.right) (pair m b) (filter (λ (q : Pair). same_term m q.left) qs)
      (mem_filter (λ (q : Pair). same_term m q.left) (pair m b) qs ((same_term-Decides m m).1 refl) k))

  steady_composed : (f g : AtEnds) → Tied graph f → Tied graph g → Steady f → Steady g → Steady (λ left right. composed (f left None) (g None right))
  steady_composed f g tf tg s t = record {
    left = λ x right n.
        subst (λ (l : List Pair). SameBag (composed (f (Some x) None) (g None right)) l) (sym (left_composed x (f None None) (g None right)))
        (composed_same _ _ _ _ (s.left x None n) (IsPermutation-refl (g None right)));
    right = λ left y n.
        subst (λ (l : List Pair). SameBag (composed (f left None) (g None (Some y))) l) (sym (right_composed y (f left None) (g None None)))
        (composed_same _ _ _ _ (IsPermutation-refl (f left None)) (t.right None y n));
    within = λ e m.
        let w = through (f None None) (g None None) e m in (
          mem_at w.first.left e.left (nodes_of graph) (sym (lefts_are e (pair w.first.left w.second.right) w.is)) (s.within w.first w.first_in).0,
          mem_at w.second.right e.right (nodes_of graph) (sym (rights_are e (pair w.first.left w.second.right) w.is)) (t.within w.second w.second_in).1,
        );
    back = λ u v m.
        let w = through (f (Some u) None) (g None None) (pair u v) m in
        let l : u ≡ w.first.left = lefts_are (pair u v) (pair w.first.left w.second.right) w.is in
        let r : v ≡ w.second.right = rights_are (pair u v) (pair w.first.left w.second.right) w.is in
        let n = t.within w.second w.second_in in
        let mid : Node graph w.first.right = mem_at w.second.left w.first.right (nodes_of graph) (sym w.meets) n.0 in
        let nu : Node graph u = mem_at w.first.left u (nodes_of graph) (sym l) (near_node w.first.left w.first.right mid (tf (Some u) None w.first w.first_in).near) in
        let nv : Node graph v = mem_at w.second.right v (nodes_of graph) (sym r) n.1 in
        composed_has (f None None) (g None (Some v)) u w.first.right v
        (mem_of_filter (λ (e : Pair). same_term u e.left) (pair u w.first.right) (f None None)
        (of_bag (pair u w.first.right) (f (Some u) None) (at_left u (f None None)) (s.left u None nu)
        (mem_at w.first (pair u w.first.right) (f (Some u) None) (ap (λ z. pair z w.first.right) (sym l)) w.first_in))).1
        (to_bag (pair w.first.right v) (g None (Some v)) (at_right v (g None None)) (t.right None v nv)
        (mem_filter (λ (e : Pair). same_term v e.right) (pair w.first.right v) (g None None) ((same_term-Decides v v).1 refl)
        (mem_at w.second (pair w.first.right v) (g None None) (ap (λ z. pair z w.second.right) (sym w.meets) ∙ ap (λ z. pair w.first.right z) (sym r)) w.second_in)));
    forth = λ u v m.
        let w = through (f None None) (g None (Some v)) (pair u v) m in
        let l : u ≡ w.first.left = lefts_are (pair u v) (pair w.first.left w.second.right) w.is in
        let r : v ≡ w.second.right = rights_are (pair u v) (pair w.first.left w.second.right) w.is in
        let n = s.within w.first w.first_in in
        let mid : Node graph w.second.left = mem_at w.first.right w.second.left (nodes_of graph) w.meets n.1 in
        let nu : Node graph u = mem_at w.first.left u (nodes_of graph) (sym l) n.0 in
        let nv : Node graph v = mem_at w.second.right v (nodes_of graph) (sym r) (node_near w.second.left w.second.right mid (tg None (Some v) w.second w.second_in).near) in
        composed_has (f (Some u) None) (g None None) u w.second.left v
        (to_bag (pair u w.second.left) (f (Some u) None) (at_left u (f None None)) (s.left u None nu)
        (mem_filter (λ (e : Pair). same_term u e.left) (pair u w.second.left) (f None None) ((same_term-Decides u u).1 refl)
        (mem_at w.first (pair u w.second.left) (f None None) (ap (λ z. pair z w.first.right) (sym l) ∙ ap (λ z. pair u z) w.meets) w.first_in)))
        (mem_of_filter (λ (e : Pair). same_term v e.right) (pair w.second.left v) (g None None)
        (of_bag (pair w.second.left v) (g None (Some v)) (at_right v (g None None)) (t.right None v nv)
        (mem_at w.second (pair w.second.left v) (g None (Some v)) (ap (λ z. pair w.second.left z) (sym r)) w.second_in))).1;
  }
    where
      near_node : (x y : Term) → Node graph y → Near graph x y → Node graph x
      near_node x y n (inl e) = mem_at y x (nodes_of graph) (sym e) n
      near_node x y n (inr k) = k.0

      node_near : (x y : Term) → Node graph x → Near graph x y → Node graph y
      node_near x y n (inl e) = mem_at x y (nodes_of graph) e n
      node_near x y n (inr k) = k.1

  -- ---- lists of paths

  abbrev pub Both : AtEnds → Type 0
  Both f = Tied graph f × Steady f

  abbrev AllBoth : List AtEnds → Type 0
  AllBoth fs = (f : AtEnds) → Mem f fs → Both f

  steady_any : (fs : List AtEnds) → AllBoth fs → Steady (λ left right. flat_map (λ (f : AtEnds). f left right) fs)
  steady_any [] all = steady_none
  steady_any (f ∷ fs) all = steady_two f (λ left right. flat_map (λ (k : AtEnds). k left right) fs) (all f (inl refl)).1 (steady_any fs (λ g m. all g (inr m)))

  steady_sequence : (fs : List AtEnds) → AllBoth fs → Steady (in_sequence fs)
  steady_sequence [] all = steady_none
  steady_sequence (f ∷ []) all = (all f (inl refl)).1
  steady_sequence (f ∷ g ∷ fs) all =
      steady_composed f (in_sequence (g ∷ fs)) (all f (inl refl)).0 (tied_sequence graph (g ∷ fs) (λ k m. (all k (inr m)).0)) (all f (inl refl)).1
      (steady_sequence (g ∷ fs) (λ k m. all k (inr m)))

  -- ---- negated sets

  steady_if : (b : Bool) (f : AtEnds) → Steady f → Steady (λ left right. if b then f left right else [])
  steady_if true f s = s
  steady_if false f s = steady_none

  steady_negated : (members : List NegatedIri) → Steady (negated members graph)
  steady_negated members =
      steady_two
      (λ left right. if list_any (is_of false) members || is_none members then along (is_outside false members) graph left right else [])
      (λ left right. if list_any (is_of true) members then against (is_outside true members) graph left right else [])
      (steady_if (list_any (is_of false) members || is_none members) (along (is_outside false members) graph) (steady_along (is_outside false members)))
      (steady_if (list_any (is_of true) members) (against (is_outside true members) graph)
      (steady_inverse (along (is_outside true members) graph) (steady_along (is_outside true members))))

  -- ---- closures

  agrees_open : (es : List Term) → filter (agrees None) es ≡ es
  agrees_open es = filter_same true es

  left_start : (repetition : Repetition) (step : Term → Term → Bool) (right : Option Term) (x s : Term) → at_left x (from_start repetition step graph right s) ≡ cond (same_term x s) (from_start repetition step graph right s) []
  left_start repetition step right x s =
      filter_map (λ (e : Pair). same_term x e.left) (pair s) (filter (agrees right) (ends repetition step graph s))
      ∙ (ap (map (pair s)) (filter_same (same_term x s) (filter (agrees right) (ends repetition step graph s))) ∙ by (same_term x s))
    where
      by : (b : Bool) → map (pair s) (cond b (filter (agrees right) (ends repetition step graph s)) []) ≡ cond b (from_start repetition step graph right s) []
      by true = refl
      by false = refl

  -- the pairs of a closure with one left end, among more
  left_closure : (repetition : Repetition) (step : Term → Term → Bool) (right : Option Term) (x : Term) (ss : List Term) → Distinct same_term ss → Mem x ss → at_left x (flat_map (from_start repetition step graph right) ss) ≡ flat_map (from_start repetition step graph right) (x ∷ [])
  left_closure repetition step right x ss d m =
      filter_flat (λ (e : Pair). same_term x e.left) (from_start repetition step graph right) ss
      ∙ (flat_ap (λ s. at_left x (from_start repetition step graph right s)) (λ s. cond (same_term x s) (from_start repetition step graph right s) []) (left_start repetition step right x) ss
      ∙ (flat_cond (same_term x) (from_start repetition step graph right) ss ∙ ap (flat_map (from_start repetition step graph right)) (one_of x ss d m)))

  right_start : (repetition : Repetition) (step : Term → Term → Bool) (y s : Term) → at_right y (from_start repetition step graph None s) ≡ from_start repetition step graph (Some y) s
  right_start repetition step y s =
      filter_map (λ (e : Pair). same_term y e.right) (pair s) (filter (agrees None) (ends repetition step graph s))
      ∙ ap (λ l. map (pair s) (filter (same_term y) l)) (agrees_open (ends repetition step graph s))

  right_closure : (repetition : Repetition) (step : Term → Term → Bool) (y : Term) (ss : List Term) → at_right y (flat_map (from_start repetition step graph None) ss) ≡ flat_map (from_start repetition step graph (Some y)) ss
  right_closure repetition step y ss =
      filter_flat (λ (e : Pair). same_term y e.right) (from_start repetition step graph None) ss
      ∙ flat_ap (λ s. at_right y (from_start repetition step graph None s)) (from_start repetition step graph (Some y)) (right_start repetition step y) ss

  node_start : (right : Option Term) (x : Term) → Node graph x → Mem x (starts graph None right)
  node_start None x n = n
  node_start (Some y) x n = mem_once same_term same_term-Decides x (y ∷ nodes_of graph) (inr n)

  starts_same : (left : Option Term) (y : Term) → Node graph y → SameBag (starts graph left (Some y)) (starts graph left None)
  starts_same (Some x) y n = IsPermutation-refl (x ∷ [])
  starts_same None y n =
      same_bag same_term same_term-Decides (candidates graph y) (nodes_of graph) (distinct_once same_term same_term-Decides (y ∷ nodes_of graph)) (distinct_once same_term same_term-Decides (flat_map ends_of graph))
      (λ z m. elim (mem_of_once same_term same_term-Decides z (y ∷ nodes_of graph) m) [ inl e ↦ mem_at y z (nodes_of graph) (sym e) n | inr k ↦ k ])
      (λ z m. mem_once same_term same_term-Decides z (y ∷ nodes_of graph) (inr m))

  steady_closure : (repetition : Repetition) (f : AtEnds) → Tied graph f → Steady (closure repetition (is_step f) graph)
  steady_closure repetition f t = record {
    left = λ x right n. same_as _ _ (sym (left_closure repetition (is_step f) right x (starts graph None right) (distinct_starts graph None right) (node_start right x n)));
    right = λ left y n.
        subst (λ (l : List Pair). SameBag (closure repetition (is_step f) graph left (Some y)) l) (sym (right_closure repetition (is_step f) y (starts graph left None)))
        (flat_map_same (from_start repetition (is_step f) graph (Some y)) (from_start repetition (is_step f) graph (Some y)) (starts graph left (Some y)) (starts graph left None) (starts_same left y n) (λ s. IsPermutation-refl _));
    within = λ e m.
        let c = in_closure graph f t repetition None None e m in (c.start, node_of e.left e.right c.start (reaches_near graph f t repetition e.left e.right c.reaches));
    back = λ u v m.
        let c = in_closure graph f t repetition (Some u) None (pair u v) m in
        closure_has graph f t repetition None (Some v) u v (record {
          start = candidate graph v u (elim (reaches_near graph f t repetition u v c.reaches) [ inl e ↦ inl e | inr k ↦ inr k.0 ]);
          end = (same_term-Decides v v).1 refl;
          reaches = c.reaches;
        });
    forth = λ u v m.
        let c = in_closure graph f t repetition None (Some v) (pair u v) m in
        closure_has graph f t repetition (Some u) None u v (record { start = inl refl; end = refl; reaches = c.reaches });
  }
    where
      node_of : (x y : Term) → Node graph x → Near graph x y → Node graph y
      node_of x y n (inl e) = mem_at x y (nodes_of graph) e n
      node_of x y n (inr k) = k.1

  -- ---- all paths

  abbrev IsSteady : Path → Type 0
  IsSteady p = Steady (pairs graph p)

  all_of : (ps : List ((p : Path) × IsSteady p)) → AllBoth (map (pairs graph) (map (λ e. e.0) ps))
  all_of [] f m = elim m [ ]
  all_of (p ∷ ps) f (inl e) = subst Both (sym e) (tied graph p.0, p.1)
  all_of (p ∷ ps) f (inr m) = all_of ps f m

  steady_level : (y : Path-F ((p : Path) × IsSteady p)) → IsSteady (roll-Path (map-Path ((p : Path) × IsSteady p) Path (λ e. e.0) y))
  steady_level (Path-F.Iri i) = subst IsSteady (sym (rolls-Iri i)) (subst Steady (sym (pairs_iri graph i)) (steady_along (same_term (term.Iri i))))
  steady_level (Path-F.NegatedSet members) = subst IsSteady (sym (rolls-NegatedSet members)) (subst Steady (sym (pairs_negated graph members)) (steady_negated members))
  steady_level (Path-F.Alternative ps) =
      subst IsSteady (sym (rolls-Alternative (map (λ e. e.0) ps)))
      (subst Steady (sym (pairs_alternative graph (map (λ e. e.0) ps))) (steady_any (map (pairs graph) (map (λ e. e.0) ps)) (all_of ps)))
  steady_level (Path-F.Sequence ps) =
      subst IsSteady (sym (rolls-Sequence (map (λ e. e.0) ps)))
      (subst Steady (sym (pairs_sequence graph (map (λ e. e.0) ps))) (steady_sequence (map (pairs graph) (map (λ e. e.0) ps)) (all_of ps)))
  steady_level (Path-F.Inverse p) = subst IsSteady (sym (rolls-Inverse p.0)) (subst Steady (sym (pairs_inverse graph p.0)) (steady_inverse (pairs graph p.0) p.1))
  steady_level (Path-F.Repeated p repetition) =
      subst IsSteady (sym (rolls-Repeated p.0 repetition)) (subst Steady (sym (pairs_repeated graph p.0 repetition)) (steady_closure repetition (pairs graph p.0) (tied graph p.0)))

  pub steady : (p : Path) → IsSteady p
  steady = ind-Path IsSteady (λ x y is. subst (λ z. IsSteady (roll-Path z)) is (steady_level y))

-- A closure has a pair exactly where a walk leads from its left to its right end, and each pair once.
use Rattle.std.proofs.Common.{◌≡◌, Bool, true, inl, inr, List, [], ◌∷◌, ◌++◌, map, Option, Some, None, refl, sym, ◌∙◌, ap, subst}
use Rattle.std.specs.List.{filter, flat_map, list_any}
use Rattle.qs_terms.specs.declared.term.Term.{Term}
use Rattle.qs_terms.specs.Bag.{Distinct}
use Rattle.qs_terms.specs.Term.{same_term}
use Rattle.qs_terms.specs.Dataset.{nodes_of}
use Rattle.qs_terms.specs.inner.Dataset.{ends_of}
use Rattle.qs_terms.proofs.SameTerm.{same_term-Decides}
use Rattle.qs_syntax_tree.specs.declared.path.Repetition.{Repetition}
use Rattle.qs_syntax_ast.specs.declared.path.Path.{Path}
use Rattle.qs_syntax_ast.specs.declared.path.Path.TheVariants.{Repeated}
use Rattle.qs_paths_meaning.specs.Pair.{Pair, pair}
use Rattle.qs_paths_meaning.specs.inner.Pair.{same_pair}
use Rattle.qs_paths_meaning.specs.Steps.{Graph, agrees}
use Rattle.qs_paths_meaning.specs.Closure.{candidates, repeats, ends, starts, closure}
use Rattle.qs_paths_meaning.specs.inner.Steps.{from_start}
use Rattle.qs_paths_meaning.specs.Pairs.{AtEnds, is_step, pairs}
use Rattle.qs_paths_meaning.specs.inner.Walk.{IsWalk, Leads, IsIn, IsStep, MayBegin, ClosuresAreWalks, ClosuresAreDistinct}
use Rattle.qs_paths_meaning.proofs.Meaning.{pairs_repeated}
use Rattle.qs_paths_meaning.proofs.Members.{Mem, mem_at, mem_split, mem_filter, mem_of_filter, mem_map, mem_of_map, mem_flat, mem_of_flat, in_mem, mem_in, not_in, is_out, distinct_filter, distinct_once}
use Rattle.qs_paths_meaning.proofs.Near.{Near, Tied, tied, step_near, repeats_near, start_candidate, candidate, candidates_closed}
use Rattle.qs_paths_meaning.proofs.Search.{inside, right_in, in_right}
use Rattle.qs_paths_meaning.proofs.Arms.{same_pair-Decides}
use Rattle.qs_paths_meaning.proofs.WalkLaws.{walks_repeat, repeat_walks}

pub lefts_are : (a b : Pair) → a ≡ b → a.left ≡ b.left
lefts_are a b e = ap (λ (q : Pair). q.left) e

pub rights_are : (a b : Pair) → a ≡ b → a.right ≡ b.right
rights_are a b e = ap (λ (q : Pair). q.right) e

-- ---- the pairs of a closure

module _ (graph : Graph) (f : AtEnds) (t : Tied graph f) (repetition : Repetition) where
  abbrev Reaches : Term → Term → Type 0
  Reaches x y = repeats repetition (is_step f) (candidates graph x) x y ≡ true

  pub mem_ends : (x y : Term) → Reaches x y → Mem y (ends repetition (is_step f) graph x)
  mem_ends x y h = mem_filter (repeats repetition (is_step f) (candidates graph x) x) y (candidates graph x) h (inside graph f t x repetition y h)

  pub ends_reach : (x y : Term) → Mem y (ends repetition (is_step f) graph x) → Reaches x y
  ends_reach x y m = (mem_of_filter (repeats repetition (is_step f) (candidates graph x) x) y (candidates graph x) m).0

  pub reaches_near : (x y : Term) → Reaches x y → Near graph x y
  reaches_near x y h = repeats_near graph repetition (is_step f) (step_near graph f t) (candidates graph x) x y h

  pub record InClosure (left right : Option Term) (x y : Term) : Type 0 where
    pub start : Mem x (starts graph left right)
    pub end : agrees right y ≡ true
    pub reaches : repeats repetition (is_step f) (candidates graph x) x y ≡ true

  pub closure_has : (left right : Option Term) (x y : Term) → InClosure left right x y → Mem (pair x y) (closure repetition (is_step f) graph left right)
  closure_has left right x y h =
      mem_flat (from_start repetition (is_step f) graph right) x (pair x y) (starts graph left right) h.start
      (mem_map (pair x) y (filter (agrees right) (ends repetition (is_step f) graph x))
      (mem_filter (agrees right) y (ends repetition (is_step f) graph x) h.end (mem_ends x y h.reaches)))

  pub in_closure : (left right : Option Term) (e : Pair) → Mem e (closure repetition (is_step f) graph left right) → InClosure left right e.left e.right
  in_closure left right e m =
      let w = mem_of_flat (from_start repetition (is_step f) graph right) e (starts graph left right) m in
      let v = mem_of_map (pair w.0) e (filter (agrees right) (ends repetition (is_step f) graph w.0)) w.1.1 in
      let a = mem_of_filter (agrees right) v.0 (ends repetition (is_step f) graph w.0) v.1.0 in
      let l : w.0 ≡ e.left = sym (lefts_are e (pair w.0 v.0) v.1.1) in
      let k : v.0 ≡ e.right = sym (rights_are e (pair w.0 v.0) v.1.1) in
      record {
        start = mem_at w.0 e.left (starts graph left right) l w.1.0;
        end = ap (agrees right) (sym k) ∙ a.0;
        reaches = subst (λ (z : Term). Reaches z e.right) l (subst (λ (z : Term). Reaches w.0 z) k (ends_reach w.0 v.0 a.1));
      }

-- ---- in plain words

pub walk_map : (S T : Term → Term → Type 0) → ((u v : Term) → S u v → T u v) → (x : Term) (us : List Term) (y : Term) → IsWalk S x us y → IsWalk T x us y
walk_map S T g x [] y w = w
walk_map S T g x (u ∷ us) y w = (g x u w.0, walk_map S T g u us y w.1)

-- a step is a pair
module _ (graph : Graph) (f : AtEnds) (t : Tied graph f) where
  pub step_pair : (u v : Term) → is_step f u v ≡ true → Mem (pair u v) (f (Some u) None)
  step_pair u v h =
      let m = in_right v (f (Some u) None) h in
      let w = mem_of_map (λ (e : Pair). e.right) v (f (Some u) None) m in
      let b = t (Some u) None w.0 w.1.0 in
      let l : u ≡ w.0.left = (same_term-Decides u w.0.left).0 b.at_left in
      mem_at w.0 (pair u v) (f (Some u) None) (sym (ap (λ z. pair z v) l ∙ ap (λ z. pair w.0.left z) w.1.1)) w.1.0

  pub pair_step : (u v : Term) → Mem (pair u v) (f (Some u) None) → is_step f u v ≡ true
  pair_step u v m = right_in v (f (Some u) None) (mem_map (λ (e : Pair). e.right) (pair u v) (f (Some u) None) m)

module _ (graph : Graph) (p : Path) where
  stepping : (u v : Term) → is_step (pairs graph p) u v ≡ true → IsStep graph p u v
  stepping u v h = mem_in same_pair same_pair-Decides (pair u v) (pairs graph p (Some u) None) (step_pair graph (pairs graph p) (tied graph p) u v h)

  stepped : (u v : Term) → IsStep graph p u v → is_step (pairs graph p) u v ≡ true
  stepped u v h = pair_step graph (pairs graph p) (tied graph p) u v (in_mem same_pair same_pair-Decides (pair u v) (pairs graph p (Some u) None) h)

  reach_walks : (repetition : Repetition) (x y : Term) → repeats repetition (is_step (pairs graph p)) (candidates graph x) x y ≡ true → Leads repetition (IsStep graph p) x y
  reach_walks repetition x y h =
      let w = repeat_walks (is_step (pairs graph p)) (candidates graph x) (candidates_closed graph (pairs graph p) (tied graph p) x) repetition x y h in (
        w.0,
        (w.1.0, walk_map (λ u v. is_step (pairs graph p) u v ≡ true) (IsStep graph p) stepping x w.0 y w.1.1),
      )

  walks_reach : (repetition : Repetition) (x y : Term) → Leads repetition (IsStep graph p) x y → repeats repetition (is_step (pairs graph p)) (candidates graph x) x y ≡ true
  walks_reach repetition x y w =
      walks_repeat (is_step (pairs graph p)) (candidates graph x) (candidates_closed graph (pairs graph p) (tied graph p) x) repetition x y (start_candidate graph x) (
        w.0,
        (w.1.0, walk_map (IsStep graph p) (λ u v. is_step (pairs graph p) u v ≡ true) stepped x w.0 y w.1.1),
      )

  begins_so : (left right : Option Term) (x : Term) → Mem x (starts graph left right) → MayBegin graph left right x
  begins_so (Some a) right x (inl e) = sym e
  begins_so (Some a) right x (inr h) = elim h [ ]
  begins_so None (Some b) x m = tt
  begins_so None None x m = mem_in same_term same_term-Decides x (nodes_of graph) m

  -- what leads to the right end is a node, or that end
  so_begins : (left right : Option Term) (x y : Term) → MayBegin graph left right x → agrees right y ≡ true → Near graph x y → Mem x (starts graph left right)
  so_begins (Some a) right x y e k n = inl (sym e)
  so_begins None (Some b) x y u k n =
      let i : b ≡ y = (same_term-Decides b y).0 k in
      candidate graph b x (elim n [ inl e ↦ inl (e ∙ sym i) | inr m ↦ inr m.0 ])
  so_begins None None x y h k n = in_mem same_term same_term-Decides x (nodes_of graph) h

module _ (graph : Graph) (p : Path) (repetition : Repetition) (left right : Option Term) where
  as_closure : pairs graph (Repeated p repetition) left right ≡ closure repetition (is_step (pairs graph p)) graph left right
  as_closure = ap (λ (k : AtEnds). k left right) (pairs_repeated graph p repetition)

  abbrev Walked : Term → Term → Type 0
  Walked x y = MayBegin graph left right x × ((agrees right y ≡ true) × Leads repetition (IsStep graph p) x y)

  closure_walks : (x y : Term) → IsIn (pairs graph (Repeated p repetition) left right) (pair x y) → Walked x y
  closure_walks x y h =
      let m = in_mem same_pair same_pair-Decides (pair x y) (closure repetition (is_step (pairs graph p)) graph left right) (sym (ap (list_any (same_pair (pair x y))) as_closure) ∙ h) in
      let c = in_closure graph (pairs graph p) (tied graph p) repetition left right (pair x y) m in (
        begins_so graph p left right x c.start,
        (c.end, reach_walks graph p repetition x y c.reaches),
      )

  walks_closure : (x y : Term) → Walked x y → IsIn (pairs graph (Repeated p repetition) left right) (pair x y)
  walks_closure x y h =
      let r = walks_reach graph p repetition x y h.1.1 in
      let m = closure_has graph (pairs graph p) (tied graph p) repetition left right x y (record {
        start = so_begins graph p left right x y h.0 h.1.0 (reaches_near graph (pairs graph p) (tied graph p) repetition x y r);
        end = h.1.0;
        reaches = r;
      }) in
      ap (list_any (same_pair (pair x y))) as_closure ∙ mem_in same_pair same_pair-Decides (pair x y) (closure repetition (is_step (pairs graph p)) graph left right) m

pub closures_are_walks : ClosuresAreWalks
closures_are_walks graph p repetition left right x y = (closure_walks graph p repetition left right x y, walks_closure graph p repetition left right x y)

-- ---- each pair once

distinct_append : (xs ys : List Pair) → Distinct same_pair xs → Distinct same_pair ys → ((e : Pair) → Mem e xs → Mem e ys → ⊥) → Distinct same_pair (xs ++ ys)
distinct_append [] ys d k apart = k
distinct_append (x ∷ xs) ys d k apart = (
  not_in same_pair same_pair-Decides x (xs ++ ys) (λ m.
      elim (mem_split x xs ys m) [ inl a ↦ is_out same_pair same_pair-Decides x xs d.0 a | inr b ↦ apart x (inl refl) b ]),
  distinct_append xs ys d.1 k (λ e a b. apart e (inr a) b),
)

pub distinct_map : (s : Term) (ts : List Term) → Distinct same_term ts → Distinct same_pair (map (pair s) ts)
distinct_map s [] d = tt
distinct_map s (t ∷ ts) d = (
  not_in same_pair same_pair-Decides (pair s t) (map (pair s) ts) (λ m.
      let w = mem_of_map (pair s) (pair s t) ts m in
      is_out same_term same_term-Decides t ts d.0 (mem_at w.0 t ts (sym (rights_are (pair s t) (pair s w.0) w.1.1)) w.1.0)),
  distinct_map s ts d.1,
)

pub distinct_from : (repetition : Repetition) (step : Term → Term → Bool) (graph : Graph) (right : Option Term) (ss : List Term) → Distinct same_term ss → Distinct same_pair (flat_map (from_start repetition step graph right) ss)
distinct_from repetition step graph right [] d = tt
distinct_from repetition step graph right (s ∷ ss) d =
    distinct_append (from_start repetition step graph right s) (flat_map (from_start repetition step graph right) ss)
    (distinct_map s (filter (agrees right) (ends repetition step graph s))
    (distinct_filter same_term same_term-Decides (agrees right) (ends repetition step graph s)
    (distinct_filter same_term same_term-Decides (repeats repetition step (candidates graph s) s) (candidates graph s) (distinct_once same_term same_term-Decides (s ∷ nodes_of graph)))))
    (distinct_from repetition step graph right ss d.1)
    (λ e a b.
    let v = mem_of_map (pair s) e (filter (agrees right) (ends repetition step graph s)) a in
    let w = mem_of_flat (from_start repetition step graph right) e ss b in
    let u = mem_of_map (pair w.0) e (filter (agrees right) (ends repetition step graph w.0)) w.1.1 in
    is_out same_term same_term-Decides s ss d.0 (mem_at w.0 s ss (sym (lefts_are e (pair w.0 u.0) u.1.1) ∙ lefts_are e (pair s v.0) v.1.1) w.1.0))

pub distinct_starts : (graph : Graph) (left right : Option Term) → Distinct same_term (starts graph left right)
distinct_starts graph (Some x) right = (refl, tt)
distinct_starts graph None (Some y) = distinct_once same_term same_term-Decides (y ∷ nodes_of graph)
distinct_starts graph None None = distinct_once same_term same_term-Decides (flat_map ends_of graph)

pub closures_are_distinct : ClosuresAreDistinct
closures_are_distinct graph p repetition left right =
    subst (Distinct same_pair) (sym (as_closure graph p repetition left right))
    (distinct_from repetition (is_step (pairs graph p)) graph right (starts graph left right) (distinct_starts graph left right))

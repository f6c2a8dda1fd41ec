-- How many cells solutions have, and their first ones.
use Rattle.std.proofs.Common.{◌≡◌, ℕ, zero, suc, ◌+◌, ◌≤◌, Bool, true, false, ◌&&◌, cond, if◌then◌else◌, not, List, [], ◌∷◌, ◌++◌, map, take, length, Option, Some, None, slice_set, refl, sym, ◌∙◌, ap, subst, arith}
use Rattle.std.specs.List.{AllByRecursion, filter, flat_map, fold, list_any}
use Rattle.std.proofs.lemmas.List.{length-set, length-take-le, take_all, get_or_past}
use Rattle.qs_terms.specs.declared.term.Term.{Term}
use Rattle.qs_terms.specs.Term.{same_term}
use Rattle.qs_terms.specs.Dataset.{graph_of, names_of}
use Rattle.qs_terms.specs.Statement.{Statement}
use Rattle.qs_paths_meaning.specs.Pair.{Pair}
use Rattle.qs_paths_meaning.specs.Pairs.{pairs}
use Rattle.qs_expr_meaning.specs.declared.expr.Expr.{Expr}
use Rattle.qs_expr_meaning.specs.Meaning.{meaning}
use Rattle.qs_algebra_solutions.specs.Solution.{Solution, term_at, unbound, binding, bind_all, compatible_terms, compatible, merge}
use Rattle.qs_algebra_solutions.specs.inner.Solution.{first_bound}
use Rattle.qs_algebra_solutions.specs.Operators.{merges, join, or_alone, excludes}
use Rattle.qs_algebra_patterns.specs.declared.pattern.Slot.{Slot}
use Rattle.qs_algebra_patterns.specs.declared.pattern.Slot.TheVariants as slot
use Rattle.qs_algebra_patterns.specs.declared.pattern.PathPattern.{PathPattern}
use Rattle.qs_algebra_patterns.specs.declared.pattern.TriplePattern.{TriplePattern}
use Rattle.qs_algebra_patterns.specs.declared.pattern.BasicPattern.{BasicPattern}
use Rattle.qs_algebra_patterns.specs.declared.table.Table.{Table}
use Rattle.qs_algebra_patterns.specs.declared.pattern.Step.{Step, map-Step, roll-Step}
use Rattle.qs_algebra_patterns.specs.declared.pattern.Step.TheVariants.{Join, LeftJoin, Minus, Extend, rolls-Join, rolls-LeftJoin, rolls-Minus, rolls-Extend}
use Rattle.qs_algebra_patterns.specs.declared.pattern.PatternNode.{PatternNode, map-PatternNode, roll-PatternNode, ind-PatternNode}
use Rattle.qs_algebra_patterns.specs.declared.pattern.PatternNode.TheOpen as level
use Rattle.qs_algebra_patterns.specs.declared.pattern.PatternNode.TheVariants.{Basic, rolls-Basic, rolls-Group, rolls-Union, rolls-Graph, rolls-EachGraph, rolls-Values}
use Rattle.qs_algebra_patterns.specs.Basic.{Graph as Triples, mentions, puts_into, terms_of, all_maps, matches, end_of, fits, with_term, ends_bound, path_solutions, with_paths}
use Rattle.qs_algebra_patterns.specs.Eval.{eval, all_hold, extended, in_each}
use Rattle.qs_algebra_patterns.specs.inner.Eval.{bound_to, rows_of, step}
use Rattle.qs_algebra_patterns.proofs.Meaning.{eval_basic, eval_group, eval_union, eval_graph, eval_each_graph, eval_values, step_join, step_left_join, step_minus, step_extend}
use Rattle.qs_plan.proofs.Commutes.{all_map}

abbrev pub IsWide : ℕ → Solution → Type 0
IsWide n m = length m ≡ n

-- ---- lists

module _ {X : Type 0} (P : X → Type 0) where
  pub all_of : ((x : X) → P x) → (xs : List X) → AllByRecursion P xs
  all_of h [] = tt
  all_of h (x ∷ xs) = (h x, all_of h xs)

  pub all_append : (xs ys : List X) → AllByRecursion P xs → AllByRecursion P ys → AllByRecursion P (xs ++ ys)
  all_append [] ys h k = k
  all_append (x ∷ xs) ys h k = (h.0, all_append xs ys h.1 k)

  kept : (x : X) (xs : List X) (b : Bool) → P x → AllByRecursion P xs → AllByRecursion P (cond b (x ∷ xs) xs)
  kept x xs true h k = (h, k)
  kept x xs false h k = k

  pub all_filter : (test : X → Bool) (xs : List X) → AllByRecursion P xs → AllByRecursion P (filter test xs)
  all_filter test [] h = tt
  all_filter test (x ∷ xs) h = kept x (filter test xs) (test x) h.0 (all_filter test xs h.1)

module _ {X Y : Type 0} (P : X → Type 0) (Q : Y → Type 0) where
  pub all_mapped : (f : X → Y) → ((x : X) → P x → Q (f x)) → (xs : List X) → AllByRecursion P xs → AllByRecursion Q (map f xs)
  all_mapped f h [] k = tt
  all_mapped f h (x ∷ xs) k = (h x k.0, all_mapped f h xs k.1)

  pub all_flat : (f : X → List Y) → ((x : X) → P x → AllByRecursion Q (f x)) → (xs : List X) → AllByRecursion P xs → AllByRecursion Q (flat_map f xs)
  all_flat f h [] k = tt
  all_flat f h (x ∷ xs) k = all_append Q (f x) (flat_map f xs) (h x k.0) (all_flat f h xs k.1)

-- ---- one solution

pub length_unbound : (n : ℕ) → length (unbound n) ≡ n
length_unbound zero = refl
length_unbound (suc n) = ap suc (length_unbound n)

pub unbound_at : (n v : ℕ) → term_at (unbound n) v ≡ None
unbound_at zero v = refl
unbound_at (suc n) zero = refl
unbound_at (suc n) (suc v) = unbound_at n v

pub merge_width : (n : ℕ) (a b : Solution) → IsWide n a → length b ≤ n → IsWide n (merge a b)
merge_width n [] [] e h = e
merge_width n [] (y ∷ b) e h = absurd (omega (arith, e, h))
merge_width n (x ∷ a) [] e h = e
merge_width n (x ∷ a) (y ∷ b) e h = let k : length (merge a b) ≡ length a = merge_width (length a) a b refl (omega (arith, e, h)) in ap suc k ∙ e

pub merge_unbound : (n : ℕ) (b : Solution) → IsWide n b → merge (unbound n) b ≡ b
merge_unbound zero b e = refl
merge_unbound (suc n) [] e = absurd (omega (arith, e))
merge_unbound (suc n) (y ∷ b) e = ap (λ l. y ∷ l) (merge_unbound n b (omega (arith, e)))

pub compatible_unbound : (n : ℕ) (b : Solution) → compatible (unbound n) b ≡ true
compatible_unbound zero b = refl
compatible_unbound (suc n) [] = refl
compatible_unbound (suc n) (y ∷ b) = compatible_unbound n b

pub none_right : (x : Option Term) → compatible_terms x None ≡ true
none_right None = refl
none_right (Some x) = refl

pub first_none : (x : Option Term) → first_bound x None ≡ x
first_none None = refl
first_none (Some x) = refl

-- merged with the solution that binds nothing
pub unbound_compatible : (n : ℕ) (a : Solution) → compatible a (unbound n) ≡ true
unbound_compatible zero [] = refl
unbound_compatible zero (x ∷ a) = refl
unbound_compatible (suc n) [] = refl
unbound_compatible (suc n) (x ∷ a) = rw (none_right x) (unbound_compatible n a)

pub unbound_merge : (a : Solution) → merge a (unbound (length a)) ≡ a
unbound_merge [] = refl
unbound_merge (x ∷ a) = ap (λ y. y ∷ merge a (unbound (length a))) (first_none x) ∙ ap (λ l. x ∷ l) (unbound_merge a)

pub merge_at : (a b : Solution) (v : ℕ) → term_at (merge a b) v ≡ first_bound (term_at a v) (term_at b v)
merge_at [] b zero = refl
merge_at [] b (suc v) = refl
merge_at (x ∷ a) [] zero = sym (first_none x)
merge_at (x ∷ a) [] (suc v) = sym (first_none (term_at a v))
merge_at (x ∷ a) (y ∷ b) zero = refl
merge_at (x ∷ a) (y ∷ b) (suc v) = merge_at a b v

pub past_end : (m : Solution) (v : ℕ) → length m ≤ v → term_at m v ≡ None
past_end m v h = get_or_past m v None h

-- a cell past those that are merged is as it was
pub merge_past : (a b : Solution) (v : ℕ) → length b ≤ v → term_at (merge a b) v ≡ term_at a v
merge_past a b v h = merge_at a b v ∙ (ap (first_bound (term_at a v)) (past_end b v h) ∙ first_none (term_at a v))

-- ---- merges

-- all merges of a row that binds nothing
pub merges_unbound : (n : ℕ) (xs : List Solution) → AllByRecursion (IsWide n) xs → merges xs (unbound n) ≡ xs
merges_unbound n [] h = refl
merges_unbound n (x ∷ xs) h =
    let c : compatible (unbound n) x ≡ true = compatible_unbound n x in
    simp c (ap (λ y. y ∷ merges xs (unbound n)) (merge_unbound n x h.0) ∙ ap (λ l. x ∷ l) (merges_unbound n xs h.1))

pub merges_width : (n : ℕ) (xs : List Solution) (a : Solution) → IsWide n a → AllByRecursion (λ x. length x ≤ n) xs → AllByRecursion (IsWide n) (merges xs a)
merges_width n xs a e h = all_mapped (λ x. length x ≤ n) (IsWide n) (merge a) (λ x k. merge_width n a x e k) (filter (compatible a) xs) (all_filter (λ x. length x ≤ n) (compatible a) xs h)

wide_short : (n : ℕ) (xs : List Solution) → AllByRecursion (IsWide n) xs → AllByRecursion (λ x. length x ≤ n) xs
wide_short n xs h = all_map (IsWide n) (λ x. length x ≤ n) (λ x e. omega (arith, e)) xs h

-- ---- the first cells

pub take_merge : (n : ℕ) (a b : Solution) → take n (merge a b) ≡ merge (take n a) (take n b)
take_merge zero a b = refl
take_merge (suc n) [] b = refl
take_merge (suc n) (x ∷ a) [] = refl
take_merge (suc n) (x ∷ a) (y ∷ b) = ap (λ l. first_bound x y ∷ l) (take_merge n a b)

left_unbound : (a b : Solution) → ((v : ℕ) → term_at a v ≡ None) → compatible a b ≡ true
left_unbound [] b h = refl
left_unbound (x ∷ a) [] h = refl
left_unbound (x ∷ a) (y ∷ b) h = rw (h 0) (left_unbound a b (λ v. h (suc v)))

-- a row of which none but the first cells are bound
pub take_compatible : (n : ℕ) (a b : Solution) → ((v : ℕ) → n ≤ v → term_at a v ≡ None) → compatible (take n a) (take n b) ≡ compatible a b
take_compatible zero a b h = sym (left_unbound a b (λ v. h v (omega arith)))
take_compatible (suc n) [] b h = refl
take_compatible (suc n) (x ∷ a) [] h = refl
take_compatible (suc n) (x ∷ a) (y ∷ b) h = ap (λ c. compatible_terms x y && c) (take_compatible n a b (λ v l. h (suc v) (omega (arith, l))))

pub take_merges : (n : ℕ) (xs : List Solution) (a : Solution) → ((v : ℕ) → n ≤ v → term_at a v ≡ None) → map (take n) (merges xs a) ≡ merges (map (take n) xs) (take n a)
take_merges n [] a h = refl
take_merges n (x ∷ xs) a h = at (compatible a x) refl (take_merges n xs a h)
  where
    at : (b : Bool) → compatible a x ≡ b → map (take n) (merges xs a) ≡ merges (map (take n) xs) (take n a) → map (take n) (merges (x ∷ xs) a) ≡ merges (map (take n) (x ∷ xs)) (take n a)
    at true e i =
        let f : compatible (take n a) (take n x) ≡ true = take_compatible n a x h ∙ e in
        simp (e, f) (ap (λ y. y ∷ map (take n) (merges xs a)) (take_merge n a x) ∙ ap (λ l. merge (take n a) (take n x) ∷ l) i)
    at false e i =
        let f : compatible (take n a) (take n x) ≡ false = take_compatible n a x h ∙ e in
        simp (e, f) i

-- solutions that have no other cells
pub short_compatible : (n : ℕ) (a b : Solution) → length b ≤ n → compatible (take n a) b ≡ compatible a b
short_compatible zero a [] h = nil_right a
  where
    nil_right : (a : Solution) → true ≡ compatible a []
    nil_right [] = refl
    nil_right (x ∷ a) = refl
short_compatible zero a (y ∷ b) h = absurd (omega (arith, h))
short_compatible (suc n) [] b h = refl
short_compatible (suc n) (x ∷ a) [] h = refl
short_compatible (suc n) (x ∷ a) (y ∷ b) h = ap (λ c. compatible_terms x y && c) (short_compatible n a b (omega (arith, h)))

pub short_merges : (n : ℕ) (xs : List Solution) (a : Solution) → AllByRecursion (λ x. length x ≤ n) xs → map (take n) (merges xs a) ≡ merges xs (take n a)
short_merges n [] a h = refl
short_merges n (x ∷ xs) a h = at (compatible a x) refl (short_merges n xs a h.1)
  where
    merged : take n (merge a x) ≡ merge (take n a) x
    merged = take_merge n a x ∙ ap (merge (take n a)) (take_all n x h.0)

    at : (b : Bool) → compatible a x ≡ b → map (take n) (merges xs a) ≡ merges xs (take n a) → map (take n) (merges (x ∷ xs) a) ≡ merges (x ∷ xs) (take n a)
    at true e i =
        let f : compatible (take n a) x ≡ true = short_compatible n a x h.0 ∙ e in
        simp (e, f) (ap (λ y. y ∷ map (take n) (merges xs a)) merged ∙ ap (λ l. merge (take n a) x ∷ l) i)
    at false e i =
        let f : compatible (take n a) x ≡ false = short_compatible n a x h.0 ∙ e in
        simp (e, f) i

take_length : (n : ℕ) (m : Solution) → length (take n m) ≤ n
take_length zero m = omega arith
take_length (suc n) [] = omega arith
take_length (suc n) (x ∷ m) = let h = take_length n m in omega (arith, h)

pub taken_short : (n : ℕ) (xs : List Solution) → AllByRecursion (λ x. length x ≤ n) (map (take n) xs)
taken_short n [] = tt
taken_short n (x ∷ xs) = (take_length n x, taken_short n xs)

-- ---- solutions of patterns

all_bound_width : (a : Solution) (vs : List ℕ) (terms : List (Option Term)) → length (bind_all a vs terms) ≡ length a
all_bound_width a [] terms = refl
all_bound_width a (v ∷ vs) [] = refl
all_bound_width a (v ∷ vs) (t ∷ terms) = all_bound_width (slice_set a v t) vs terms ∙ length-set a v t

pub binding_width : (n : ℕ) (vs : List ℕ) (terms : List (Option Term)) → IsWide n (binding n vs terms)
binding_width n vs terms = all_bound_width (unbound n) vs terms ∙ length_unbound n

pub table_width : (n : ℕ) (table : Table) → AllByRecursion (IsWide n) (rows_of n table)
table_width n table = rows table.rows
  where
    rows : (rs : List (List (Option Term))) → AllByRecursion (IsWide n) (map (binding n table.variables) rs)
    rows [] = tt
    rows (r ∷ rs) = (binding_width n table.variables r, rows rs)

maps_width : (f : ℕ → Bool) (ts : List Term) (v n : ℕ) → AllByRecursion (IsWide n) (all_maps f ts v n)
maps_width f ts v zero = (refl, tt)
maps_width f ts v (suc n) = at (f v) (maps_width f ts (v + 1) n)
  where
    at : (b : Bool) → AllByRecursion (IsWide n) (all_maps f ts (v + 1) n) → AllByRecursion (IsWide (suc n)) (if b then flat_map (λ t. map (λ m. Some t ∷ m) (all_maps f ts (v + 1) n)) ts else map (λ m. None ∷ m) (all_maps f ts (v + 1) n))
    at true h = all_flat (λ (t : Term). t ≡ t) (IsWide (suc n)) (λ t. map (λ m. Some t ∷ m) (all_maps f ts (v + 1) n)) (λ t e. all_mapped (IsWide n) (IsWide (suc n)) (λ m. Some t ∷ m) (λ m k. ap suc k) _ h) ts (all_of (λ (t : Term). t ≡ t) (λ t. refl) ts)
    at false h = all_mapped (IsWide n) (IsWide (suc n)) (λ m. None ∷ m) (λ m k. ap suc k) _ h

pub matches_width : (n : ℕ) (triples : List TriplePattern) (graph : Triples) → AllByRecursion (IsWide n) (matches n triples graph)
matches_width n triples graph = all_filter (IsWide n) (puts_into graph triples) (all_maps (mentions triples) (terms_of graph) 0 n) (maps_width (mentions triples) (terms_of graph) 0 n)

with_width : (s : Slot) (t : Term) (a : Solution) → length (with_term s t a) ≡ length a
with_width (slot.Term c) t a = refl
with_width (slot.Variable w) t a = length-set a w (Some t)

pub ends_width : (n : ℕ) (p : PathPattern) (e : Pair) → IsWide n (ends_bound n p e)
ends_width n p e = with_width p.object e.right (with_term p.subject e.left (unbound n)) ∙ (with_width p.subject e.left (unbound n) ∙ length_unbound n)

pub path_width : (n : ℕ) (graph : Triples) (p : PathPattern) → AllByRecursion (IsWide n) (path_solutions n graph p)
path_width n graph p = pairs_of (filter (fits p) (pairs graph p.path (end_of p.subject) (end_of p.object)))
  where
    pairs_of : (es : List Pair) → AllByRecursion (IsWide n) (map (ends_bound n p) es)
    pairs_of [] = tt
    pairs_of (e ∷ es) = (ends_width n p e, pairs_of es)

pub join_width : (n : ℕ) (left right : List Solution) → AllByRecursion (IsWide n) left → AllByRecursion (IsWide n) right → AllByRecursion (IsWide n) (join left right)
join_width n left right h k = all_flat (IsWide n) (IsWide n) (merges right) (λ a e. merges_width n right a e (wide_short n right k)) left h

pub paths_width : (n : ℕ) (graph : Triples) (ps : List PathPattern) (left : List Solution) → AllByRecursion (IsWide n) left → AllByRecursion (IsWide n) (with_paths n graph ps left)
paths_width n graph [] left h = h
paths_width n graph (p ∷ ps) left h = paths_width n graph ps _ (join_width n left (path_solutions n graph p) h (path_width n graph p))

pub extended_width : (n v : ℕ) (e : Expr) (m : Solution) → IsWide n m → IsWide n (extended v e m)
extended_width n v e m h = at (meaning m e)
  where
    at : (o : Option Term) → IsWide n (bound_to m v o)
    at None = h
    at (Some t) = length-set m v (Some t) ∙ h

module _ (width : ℕ) (quads : List Statement) where
  abbrev Wide : PatternNode → Type 0
  Wide p = (graph : Triples) → AllByRecursion (IsWide width) (eval width quads p graph)

  abbrev WideOn : Step → Type 0
  WideOn s = (graph : Triples) (left : List Solution) → AllByRecursion (IsWide width) left → AllByRecursion (IsWide width) (step width quads s graph left)

  basic_wide : (b : BasicPattern) → Wide (Basic b)
  basic_wide b graph =
      subst (AllByRecursion (IsWide width)) (sym (eval_basic width quads graph b))
      (all_mapped (IsWide (width + b.hidden)) (IsWide width) (take width) (λ m e. length-take-le width m (omega (arith, e)))
      (with_paths (width + b.hidden) graph b.paths (matches (width + b.hidden) b.triples graph))
      (paths_width (width + b.hidden) graph b.paths (matches (width + b.hidden) b.triples graph) (matches_width (width + b.hidden) b.triples graph)))

  alone_width : (a : Solution) (ms : List Solution) → IsWide width a → AllByRecursion (IsWide width) ms → AllByRecursion (IsWide width) (or_alone a ms)
  alone_width a [] h k = (h, tt)
  alone_width a (m ∷ ms) h k = k

  join_wide : (part : PatternNode) → Wide part → WideOn (Join part)
  join_wide part ih graph left h =
      subst (AllByRecursion (IsWide width)) (sym (step_join width quads graph part left)) (join_width width left (eval width quads part graph) h (ih graph))

  left_join_wide : (part : PatternNode) (conditions : List Expr) → Wide part → WideOn (LeftJoin part conditions)
  left_join_wide part conditions ih graph left h =
      subst (AllByRecursion (IsWide width)) (sym (step_left_join width quads graph part conditions left))
      (all_flat (IsWide width) (IsWide width) (λ a. or_alone a (filter (all_hold conditions) (merges (eval width quads part graph) a)))
      (λ a e. alone_width a (filter (all_hold conditions) (merges (eval width quads part graph) a)) e
      (all_filter (IsWide width) (all_hold conditions) (merges (eval width quads part graph) a)
      (merges_width width (eval width quads part graph) a e (wide_short width (eval width quads part graph) (ih graph)))))
      left h)

  minus_wide : (part : PatternNode) → WideOn (Minus part)
  minus_wide part graph left h =
      subst (AllByRecursion (IsWide width)) (sym (step_minus width quads graph part left)) (all_filter (IsWide width) (λ a. not (list_any (excludes a) (eval width quads part graph))) left h)

  extend_wide : (v : ℕ) (e : Expr) → WideOn (Extend v e)
  extend_wide v e graph left h =
      subst (AllByRecursion (IsWide width)) (sym (step_extend width quads graph v e left)) (all_mapped (IsWide width) (IsWide width) (extended v e) (λ m k. extended_width width v e m k) left h)

  steps_wide : (es : List ((s : Step) × WideOn s)) (graph : Triples) (first : List Solution) → AllByRecursion (IsWide width) first → AllByRecursion (IsWide width) (fold (λ left s. step width quads s graph left) first (map (λ e. e.0) es))
  steps_wide [] graph first h = h
  steps_wide (e ∷ es) graph first h = steps_wide es graph (step width quads e.0 graph first) (e.1 graph first h)

  union_wide : (es : List ((p : PatternNode) × Wide p)) (graph : Triples) → AllByRecursion (IsWide width) (flat_map (λ p. eval width quads p graph) (map (λ e. e.0) es))
  union_wide [] graph = tt
  union_wide (e ∷ es) graph = all_append (IsWide width) (eval width quads e.0 graph) _ (e.1 graph) (union_wide es graph)

  in_one : (b : Bool) (xs : List Solution) → AllByRecursion (IsWide width) xs → AllByRecursion (IsWide width) (if b then xs else [])
  in_one true xs h = h
  in_one false xs h = tt

  each_wide : (v : ℕ) (part : PatternNode) (names : List Term) → Wide part → AllByRecursion (IsWide width) (in_each width quads v (eval width quads part) names)
  each_wide v part [] ih = tt
  each_wide v part (name ∷ names) ih =
      all_append (IsWide width) (join (eval width quads part (graph_of quads (Some name))) (binding width (v ∷ []) (Some name ∷ []) ∷ [])) _
      (join_width width (eval width quads part (graph_of quads (Some name))) (binding width (v ∷ []) (Some name ∷ []) ∷ []) (ih (graph_of quads (Some name))) (binding_width width (v ∷ []) (Some name ∷ []), tt))
      (each_wide v part names ih)

  wide_level : (y : level.PatternNode-F ((p : PatternNode) × Wide p) ((s : Step) × WideOn s)) → Wide (roll-PatternNode (map-PatternNode ((p : PatternNode) × Wide p) ((s : Step) × WideOn s) PatternNode Step (λ e. e.0) (λ e. e.0) y))
  wide_level (level.Basic b) = subst Wide (sym (rolls-Basic b)) (basic_wide b)
  wide_level (level.Group es conditions) = subst Wide (sym (rolls-Group (map (λ e. e.0) es) conditions)) (λ graph.
      subst (AllByRecursion (IsWide width)) (sym (eval_group width quads graph (map (λ e. e.0) es) conditions))
      (all_filter (IsWide width) (all_hold conditions) _ (steps_wide es graph (unbound width ∷ []) (length_unbound width, tt))))
  wide_level (level.Union es) = subst Wide (sym (rolls-Union (map (λ e. e.0) es))) (λ graph.
      subst (AllByRecursion (IsWide width)) (sym (eval_union width quads graph (map (λ e. e.0) es))) (union_wide es graph))
  wide_level (level.Graph name e) = subst Wide (sym (rolls-Graph name e.0)) (λ graph.
      subst (AllByRecursion (IsWide width)) (sym (eval_graph width quads graph name e.0)) (in_one (list_any (same_term name) (names_of quads)) _ (e.1 (graph_of quads (Some name)))))
  wide_level (level.EachGraph w e) = subst Wide (sym (rolls-EachGraph w e.0)) (λ graph.
      subst (AllByRecursion (IsWide width)) (sym (eval_each_graph width quads graph w e.0)) (each_wide w e.0 (names_of quads) e.1))
  wide_level (level.Values table) = subst Wide (sym (rolls-Values table)) (λ graph.
      subst (AllByRecursion (IsWide width)) (sym (eval_values width quads graph table)) (table_width width table))

  wide_on_level : (y : level.Step-F ((p : PatternNode) × Wide p) ((s : Step) × WideOn s)) → WideOn (roll-Step (map-Step ((p : PatternNode) × Wide p) ((s : Step) × WideOn s) PatternNode Step (λ e. e.0) (λ e. e.0) y))
  wide_on_level (level.Join e) = subst WideOn (sym (rolls-Join e.0)) (join_wide e.0 e.1)
  wide_on_level (level.LeftJoin e conditions) = subst WideOn (sym (rolls-LeftJoin e.0 conditions)) (left_join_wide e.0 conditions e.1)
  wide_on_level (level.Minus e) = subst WideOn (sym (rolls-Minus e.0)) (minus_wide e.0)
  wide_on_level (level.Extend w e) = subst WideOn (sym (rolls-Extend w e)) (extend_wide w e)

  -- each solution of a pattern has as many cells as there are named variables
  pub eval_wide : (p : PatternNode) → Wide p
  eval_wide = ind-PatternNode Wide WideOn (λ x y is. subst (λ z. Wide (roll-PatternNode z)) is (wide_level y)) (λ x y is. subst (λ z. WideOn (roll-Step z)) is (wide_on_level y))

  pub eval_merges : (p : PatternNode) (graph : Triples) → merges (eval width quads p graph) (unbound width) ≡ eval width quads p graph
  eval_merges p graph = merges_unbound width (eval width quads p graph) (eval_wide p graph)

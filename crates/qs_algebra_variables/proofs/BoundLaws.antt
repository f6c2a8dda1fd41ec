-- Each solution binds what is certain, and nothing that isn't possible: by induction on the pattern.
use Rattle.std.proofs.Common.{◌≡◌, ℕ, ◌+◌, ◌<◌, Bool, true, false, ◌&&◌, ◌||◌, ◌==◌, List, [], ◌∷◌, map, take, nat_lt, Option, Some, IsSome, if◌then◌else◌, refl, sym, ap, subst, ◌∙◌, arith}
use Rattle.std.specs.List.{All, AllByRecursion, flat_map, fold, list_any, list_all}
use Rattle.std.specs.Option.{is_some}
use Rattle.std.proofs.lemmas.Bool.{ltb-true, ltb-false}
use Rattle.std.proofs.lemmas.List.Elements.{All-from_recursion}
use Rattle.qs_terms.specs.Dataset.{graph_of, names_of}
use Rattle.qs_terms.specs.Statement.{Statement}
use Rattle.qs_terms.specs.Term.{same_term}
use Rattle.qs_terms.specs.declared.term.Term.{Term}
use Rattle.qs_algebra_solutions.specs.Solution.{Solution, term_at, unbound, binding}
use Rattle.qs_algebra_solutions.specs.Operators.{join}
use Rattle.qs_expr_meaning.specs.declared.expr.Expr.{Expr}
use Rattle.qs_algebra_patterns.specs.declared.pattern.BasicPattern.{BasicPattern}
use Rattle.qs_algebra_patterns.specs.declared.table.Table.{Table}
use Rattle.qs_algebra_patterns.specs.declared.pattern.Step.{Step, map-Step, roll-Step}
use Rattle.qs_algebra_patterns.specs.declared.pattern.Step.TheVariants.{Join, LeftJoin, Minus, Extend, rolls-Join, rolls-LeftJoin, rolls-Minus, rolls-Extend}
use Rattle.qs_algebra_patterns.specs.declared.pattern.PatternNode.{PatternNode, map-PatternNode, roll-PatternNode, ind-PatternNode}
use Rattle.qs_algebra_patterns.specs.declared.pattern.PatternNode.TheOpen as level
use Rattle.qs_algebra_patterns.specs.declared.pattern.PatternNode.TheVariants.{Basic, Values, rolls-Basic, rolls-Group, rolls-Union, rolls-Graph, rolls-EachGraph, rolls-Values}
use Rattle.qs_algebra_patterns.specs.Basic.{Graph as Triples, mentions, puts_into, terms_of, all_maps, matches, with_paths}
use Rattle.qs_algebra_patterns.specs.inner.Basic.{is_end, occurs}
use Rattle.qs_algebra_patterns.specs.Eval.{eval, all_hold, extended, in_each}
use Rattle.qs_algebra_patterns.specs.inner.Eval.{rows_of, step}
use Rattle.qs_algebra_patterns.proofs.Meaning.{eval_basic, eval_group, eval_union, eval_graph, eval_each_graph, eval_values, step_join, step_left_join, step_minus, step_extend}
use Rattle.qs_expr_meaning.specs.Meaning.{meaning}
use Rattle.qs_algebra.specs.inner.Certain.{is_certain, is_certain_step, is_column, is_set}
use Rattle.qs_algebra.specs.inner.Possible.{is_possible, is_possible_step}
use Rattle.qs_algebra.proofs.Variants.{certain_basic, certain_group, certain_union, certain_graph, certain_each_graph, certain_values, certain_join, certain_left_join, certain_minus, certain_extend, possible_basic, possible_group, possible_union, possible_graph, possible_each_graph, possible_values, possible_join, possible_left_join, possible_extend}
use Rattle.qs_algebra_variables.proofs.BoundCells.{Bound, Unbound, each_append, each_of, each_filter, each_map, join_left, join_right, join_neither, left_join_left, left_join_neither, minus_each, unbound_at, maps_bind, maps_leave, take_bound, take_unbound, take_past}
use Rattle.qs_algebra_variables.proofs.PathCells.{still_bound as paths_keep, paths_bind, paths_leave}
use Rattle.qs_algebra_variables.proofs.SetCells.{bound_keeps, unbound_keeps, named_bound, named_other, named_past, row_other, row_past}

both_hold : (a b : Bool) → (a && b) ≡ true → (a ≡ true) × (b ≡ true)
both_hold true b h = (refl, h)
both_hold false b h = let f : false ≡ true = h in cc

neither : (a b : Bool) → (a || b) ≡ false → (a ≡ false) × (b ≡ false)
neither true b h = let f : true ≡ false = h in cc
neither false b h = (refl, h)

module _ (width : ℕ) (quads : List Statement) (v : ℕ) where
  -- ---- what is certain

  abbrev Binds : PatternNode → Type 0
  Binds p = is_certain width p v ≡ true → (graph : Triples) → AllByRecursion (Bound v) (eval width quads p graph)

  -- a step keeps what is bound, and one that is certain binds it
  abbrev BindsOn : Step → Type 0
  BindsOn s = (graph : Triples) (left : List Solution)
      → (AllByRecursion (Bound v) left → AllByRecursion (Bound v) (step width quads s graph left))
      × (is_certain_step width s v ≡ true → AllByRecursion (Bound v) (step width quads s graph left))

  basic_binds : (b : BasicPattern) → Binds (Basic b)
  basic_binds b h graph =
      let e = both_hold (nat_lt v width) (occurs b v) (sym (certain_basic width v b) ∙ h) in
      let lt : v < width = ltb-true v width e.0 in
      subst (AllByRecursion (Bound v)) (sym (eval_basic width quads graph b))
      (each_map (Bound v) (Bound v) (take width) (λ m. take_bound width v m lt) _ (by lt (mentions b.triples v) refl e.1))
    where
      by : v < width → (t : Bool) → mentions b.triples v ≡ t → (t || is_end b.paths v) ≡ true → AllByRecursion (Bound v) (with_paths (width + b.hidden) graph b.paths (matches (width + b.hidden) b.triples graph))
      by lt true is k =
          paths_keep v (width + b.hidden) graph b.paths (matches (width + b.hidden) b.triples graph)
          (each_filter (Bound v) (puts_into graph b.triples) (all_maps (mentions b.triples) (terms_of graph) 0 (width + b.hidden))
          (maps_bind (mentions b.triples) (terms_of graph) v 0 (width + b.hidden) (omega (arith, lt)) (ap (mentions b.triples) (omega arith) ∙ is)))
      by lt false is k = paths_bind v (width + b.hidden) graph b.paths (matches (width + b.hidden) b.triples graph) (omega (arith, lt)) k

  join_binds : (part : PatternNode) → Binds part → BindsOn (Join part)
  join_binds part ih graph left = (
    λ h. subst (AllByRecursion (Bound v)) (sym (step_join width quads graph part left)) (join_left v left (eval width quads part graph) h),
    λ h. subst (AllByRecursion (Bound v)) (sym (step_join width quads graph part left)) (join_right v left (eval width quads part graph) (ih (sym (certain_join width v part) ∙ h) graph)),
  )

  left_join_binds : (part : PatternNode) (conditions : List Expr) → BindsOn (LeftJoin part conditions)
  left_join_binds part conditions graph left = (
    λ h. subst (AllByRecursion (Bound v)) (sym (step_left_join width quads graph part conditions left)) (left_join_left v left (eval width quads part graph) (all_hold conditions) h),
    λ h. let f : false ≡ true = sym (certain_left_join width v part conditions) ∙ h in cc,
  )

  minus_binds : (part : PatternNode) → BindsOn (Minus part)
  minus_binds part graph left = (
    λ h. subst (AllByRecursion (Bound v)) (sym (step_minus width quads graph part left)) (minus_each v left (eval width quads part graph) (Bound v) h),
    λ h. let f : false ≡ true = sym (certain_minus width v part) ∙ h in cc,
  )

  extend_binds : (w : ℕ) (e : Expr) → BindsOn (Extend w e)
  extend_binds w e graph left = (
    λ h. subst (AllByRecursion (Bound v)) (sym (step_extend width quads graph w e left)) (each_map (Bound v) (Bound v) (extended w e) (λ m k. bound_keeps m w v (meaning m e) k) left h),
    λ h. let f : false ≡ true = sym (certain_extend width v w e) ∙ h in cc,
  )

  still_bound : (es : List ((s : Step) × BindsOn s)) (graph : Triples) (first : List Solution) → AllByRecursion (Bound v) first → AllByRecursion (Bound v) (fold (λ left s. step width quads s graph left) first (map (λ e. e.0) es))
  still_bound [] graph first h = h
  still_bound (e ∷ es) graph first h = still_bound es graph (step width quads e.0 graph first) ((e.1 graph first).0 h)

  steps_bind : (es : List ((s : Step) × BindsOn s)) (graph : Triples) (first : List Solution) → list_any (λ s. is_certain_step width s v) (map (λ e. e.0) es) ≡ true → AllByRecursion (Bound v) (fold (λ left s. step width quads s graph left) first (map (λ e. e.0) es))
  steps_bind [] graph first h = let f : false ≡ true = h in cc
  steps_bind (e ∷ es) graph first h = by (λ k. steps_bind es graph (step width quads e.0 graph first) k) (is_certain_step width e.0 v) refl h
    where
      by : (list_any (λ s. is_certain_step width s v) (map (λ e. e.0) es) ≡ true → AllByRecursion (Bound v) (fold (λ left s. step width quads s graph left) (step width quads e.0 graph first) (map (λ e. e.0) es)))
          → (b : Bool) → is_certain_step width e.0 v ≡ b → (b || list_any (λ s. is_certain_step width s v) (map (λ e. e.0) es)) ≡ true
          → AllByRecursion (Bound v) (fold (λ left s. step width quads s graph left) (step width quads e.0 graph first) (map (λ e. e.0) es))
      by rest true is k = still_bound es graph (step width quads e.0 graph first) ((e.1 graph first).1 is)
      by rest false is k = rest k

  union_binds : (es : List ((p : PatternNode) × Binds p)) (graph : Triples) → list_all (λ p. is_certain width p v) (map (λ e. e.0) es) ≡ true → AllByRecursion (Bound v) (flat_map (λ p. eval width quads p graph) (map (λ e. e.0) es))
  union_binds [] graph h = tt
  union_binds (e ∷ es) graph h =
      let k = both_hold (is_certain width e.0 v) (list_all (λ p. is_certain width p v) (map (λ e. e.0) es)) h in
      each_append (Bound v) (eval width quads e.0 graph) _ (e.1 k.0 graph) (union_binds es graph k.1)

  in_one : (P : Solution → Type 0) (b : Bool) (xs : List Solution) → AllByRecursion P xs → AllByRecursion P (if b then xs else [])
  in_one P true xs h = h
  in_one P false xs h = tt

  named_binds : (w : ℕ) (part : PatternNode) (name : Term) → Binds part → (nat_lt v width && w == v || is_certain width part v) ≡ true
      → AllByRecursion (Bound v) (join (eval width quads part (graph_of quads (Some name))) (binding width (w ∷ []) (Some name ∷ []) ∷ []))
  named_binds w part name ih h = by (nat_lt v width && w == v) refl h
    where
      by : (b : Bool) → (nat_lt v width && w == v) ≡ b → (b || is_certain width part v) ≡ true → AllByRecursion (Bound v) (join (eval width quads part (graph_of quads (Some name))) (binding width (w ∷ []) (Some name ∷ []) ∷ []))
      by true is k =
          let e = both_hold (nat_lt v width) (w == v) is in
          let own : AllByRecursion (Bound v) (binding width (w ∷ []) (Some name ∷ []) ∷ []) = (subst IsSome (sym (named_bound width w v name (ltb-true v width e.0) e.1)) refl, tt) in
          join_right v (eval width quads part (graph_of quads (Some name))) (binding width (w ∷ []) (Some name ∷ []) ∷ []) own
      by false is k = join_left v (eval width quads part (graph_of quads (Some name))) (binding width (w ∷ []) (Some name ∷ []) ∷ []) (ih k (graph_of quads (Some name)))

  each_binds_in : (w : ℕ) (part : PatternNode) (names : List Term) → Binds part → (nat_lt v width && w == v || is_certain width part v) ≡ true → AllByRecursion (Bound v) (in_each width quads w (eval width quads part) names)
  each_binds_in w part [] ih h = tt
  each_binds_in w part (name ∷ names) ih h = each_append (Bound v) (join (eval width quads part (graph_of quads (Some name))) (binding width (w ∷ []) (Some name ∷ []) ∷ [])) _ (named_binds w part name ih h) (each_binds_in w part names ih h)

  set_binds : (ms : List Solution) → list_all (λ m. is_some (term_at m v)) ms ≡ true → AllByRecursion (Bound v) ms
  set_binds [] h = tt
  set_binds (m ∷ ms) h = let k = both_hold (is_some (term_at m v)) (list_all (λ m. is_some (term_at m v)) ms) h in (k.0, set_binds ms k.1)

  values_bind : (table : Table) → Binds (Values table)
  values_bind table h graph =
      subst (AllByRecursion (Bound v)) (sym (eval_values width quads graph table))
      (set_binds (rows_of width table) (both_hold (is_column table v) (is_set width table v) (both_hold (nat_lt v width) (is_column table v && is_set width table v) (sym (certain_values width v table) ∙ h)).1).1)

  binds_level : (y : level.PatternNode-F ((p : PatternNode) × Binds p) ((s : Step) × BindsOn s)) → Binds (roll-PatternNode (map-PatternNode ((p : PatternNode) × Binds p) ((s : Step) × BindsOn s) PatternNode Step (λ e. e.0) (λ e. e.0) y))
  binds_level (level.Basic b) = subst Binds (sym (rolls-Basic b)) (basic_binds b)
  binds_level (level.Group es conditions) = subst Binds (sym (rolls-Group (map (λ e. e.0) es) conditions)) (λ h graph.
      subst (AllByRecursion (Bound v)) (sym (eval_group width quads graph (map (λ e. e.0) es) conditions))
      (each_filter (Bound v) (all_hold conditions) _ (steps_bind es graph (unbound width ∷ []) (sym (certain_group width v (map (λ e. e.0) es) conditions) ∙ h))))
  binds_level (level.Union es) = subst Binds (sym (rolls-Union (map (λ e. e.0) es))) (λ h graph.
      subst (AllByRecursion (Bound v)) (sym (eval_union width quads graph (map (λ e. e.0) es)))
      (union_binds es graph (sym (certain_union width v (map (λ e. e.0) es)) ∙ h)))
  binds_level (level.Graph name e) = subst Binds (sym (rolls-Graph name e.0)) (λ h graph.
      subst (AllByRecursion (Bound v)) (sym (eval_graph width quads graph name e.0))
      (in_one (Bound v) (list_any (same_term name) (names_of quads)) _ (e.1 (sym (certain_graph width v name e.0) ∙ h) (graph_of quads (Some name)))))
  binds_level (level.EachGraph w e) = subst Binds (sym (rolls-EachGraph w e.0)) (λ h graph.
      subst (AllByRecursion (Bound v)) (sym (eval_each_graph width quads graph w e.0))
      (each_binds_in w e.0 (names_of quads) e.1 (sym (certain_each_graph width v w e.0) ∙ h)))
  binds_level (level.Values table) = subst Binds (sym (rolls-Values table)) (values_bind table)

  binds_on_level : (y : level.Step-F ((p : PatternNode) × Binds p) ((s : Step) × BindsOn s)) → BindsOn (roll-Step (map-Step ((p : PatternNode) × Binds p) ((s : Step) × BindsOn s) PatternNode Step (λ e. e.0) (λ e. e.0) y))
  binds_on_level (level.Join e) = subst BindsOn (sym (rolls-Join e.0)) (join_binds e.0 e.1)
  binds_on_level (level.LeftJoin e conditions) = subst BindsOn (sym (rolls-LeftJoin e.0 conditions)) (left_join_binds e.0 conditions)
  binds_on_level (level.Minus e) = subst BindsOn (sym (rolls-Minus e.0)) (minus_binds e.0)
  binds_on_level (level.Extend w e) = subst BindsOn (sym (rolls-Extend w e)) (extend_binds w e)

  each_binds : (p : PatternNode) → Binds p
  each_binds = ind-PatternNode Binds BindsOn (λ x y is. subst (λ z. Binds (roll-PatternNode z)) is (binds_level y)) (λ x y is. subst (λ z. BindsOn (roll-Step z)) is (binds_on_level y))

  -- ---- what isn't possible

  abbrev Leaves : PatternNode → Type 0
  Leaves p = is_possible width p v ≡ false → (graph : Triples) → AllByRecursion (Unbound v) (eval width quads p graph)

  abbrev LeavesOn : Step → Type 0
  LeavesOn s = is_possible_step width s v ≡ false → (graph : Triples) (left : List Solution) → AllByRecursion (Unbound v) left → AllByRecursion (Unbound v) (step width quads s graph left)

  basic_leaves : (b : BasicPattern) → Leaves (Basic b)
  basic_leaves b h graph =
      subst (AllByRecursion (Unbound v)) (sym (eval_basic width quads graph b)) (by (nat_lt v width) refl (sym (possible_basic width v b) ∙ h))
    where
      by : (t : Bool) → nat_lt v width ≡ t → (t && occurs b v) ≡ false → AllByRecursion (Unbound v) (map (take width) (with_paths (width + b.hidden) graph b.paths (matches (width + b.hidden) b.triples graph)))
      by true is k =
          let e = neither (mentions b.triples v) (is_end b.paths v) k in
          each_map (Unbound v) (Unbound v) (take width) (λ m. take_unbound width v m) _
          (paths_leave v (width + b.hidden) graph b.paths (matches (width + b.hidden) b.triples graph) e.1
          (each_filter (Unbound v) (puts_into graph b.triples) (all_maps (mentions b.triples) (terms_of graph) 0 (width + b.hidden))
          (maps_leave (mentions b.triples) (terms_of graph) v 0 (width + b.hidden) (ap (mentions b.triples) (omega arith) ∙ e.0))))
      by false is k =
          each_map (λ (m : Solution). m ≡ m) (Unbound v) (take width) (λ m e. take_past width v m (ltb-false v width is)) _ (each_of (λ (m : Solution). m ≡ m) (λ m. refl) _)

  join_leaves : (part : PatternNode) → Leaves part → LeavesOn (Join part)
  join_leaves part ih h graph left n =
      subst (AllByRecursion (Unbound v)) (sym (step_join width quads graph part left)) (join_neither v left (eval width quads part graph) n (ih (sym (possible_join width v part) ∙ h) graph))

  left_join_leaves : (part : PatternNode) (conditions : List Expr) → Leaves part → LeavesOn (LeftJoin part conditions)
  left_join_leaves part conditions ih h graph left n =
      subst (AllByRecursion (Unbound v)) (sym (step_left_join width quads graph part conditions left)) (left_join_neither v left (eval width quads part graph) (all_hold conditions) n (ih (sym (possible_left_join width v part conditions) ∙ h) graph))

  minus_leaves : (part : PatternNode) → LeavesOn (Minus part)
  minus_leaves part h graph left n =
      subst (AllByRecursion (Unbound v)) (sym (step_minus width quads graph part left)) (minus_each v left (eval width quads part graph) (Unbound v) n)

  extend_leaves : (w : ℕ) (e : Expr) → LeavesOn (Extend w e)
  extend_leaves w e h graph left n =
      subst (AllByRecursion (Unbound v)) (sym (step_extend width quads graph w e left))
      (each_map (Unbound v) (Unbound v) (extended w e) (λ m k. unbound_keeps m w v (meaning m e) (sym (possible_extend width v w e) ∙ h) k) left n)

  steps_leave : (es : List ((s : Step) × LeavesOn s)) (graph : Triples) (first : List Solution) → AllByRecursion (Unbound v) first → list_any (λ s. is_possible_step width s v) (map (λ e. e.0) es) ≡ false
      → AllByRecursion (Unbound v) (fold (λ left s. step width quads s graph left) first (map (λ e. e.0) es))
  steps_leave [] graph first n h = n
  steps_leave (e ∷ es) graph first n h =
      let k = neither (is_possible_step width e.0 v) (list_any (λ s. is_possible_step width s v) (map (λ e. e.0) es)) h in
      steps_leave es graph (step width quads e.0 graph first) (e.1 k.0 graph first n) k.1

  union_leaves : (es : List ((p : PatternNode) × Leaves p)) (graph : Triples) → list_any (λ p. is_possible width p v) (map (λ e. e.0) es) ≡ false → AllByRecursion (Unbound v) (flat_map (λ p. eval width quads p graph) (map (λ e. e.0) es))
  union_leaves [] graph h = tt
  union_leaves (e ∷ es) graph h =
      let k = neither (is_possible width e.0 v) (list_any (λ p. is_possible width p v) (map (λ e. e.0) es)) h in
      each_append (Unbound v) (eval width quads e.0 graph) _ (e.1 k.0 graph) (union_leaves es graph k.1)

  named_leaves : (w : ℕ) (name : Term) → (nat_lt v width && w == v) ≡ false → Unbound v (binding width (w ∷ []) (Some name ∷ []))
  named_leaves w name h = by (nat_lt v width) refl h
    where
      by : (t : Bool) → nat_lt v width ≡ t → (t && w == v) ≡ false → Unbound v (binding width (w ∷ []) (Some name ∷ []))
      by true is k = named_other width w v name k
      by false is k = named_past width w v name (ltb-false v width is)

  each_leaves_in : (w : ℕ) (part : PatternNode) (names : List Term) → ((graph : Triples) → AllByRecursion (Unbound v) (eval width quads part graph)) → (nat_lt v width && w == v) ≡ false → AllByRecursion (Unbound v) (in_each width quads w (eval width quads part) names)
  each_leaves_in w part [] ih h = tt
  each_leaves_in w part (name ∷ names) ih h =
      let own : AllByRecursion (Unbound v) (binding width (w ∷ []) (Some name ∷ []) ∷ []) = (named_leaves w name h, tt) in
      each_append (Unbound v) _ _ (join_neither v (eval width quads part (graph_of quads (Some name))) (binding width (w ∷ []) (Some name ∷ []) ∷ []) (ih (graph_of quads (Some name))) own) (each_leaves_in w part names ih h)

  row_leaves : (vs : List ℕ) (row : List (Option Term)) → (nat_lt v width && list_any (λ w. w == v) vs) ≡ false → Unbound v (binding width vs row)
  row_leaves vs row h = by (nat_lt v width) refl h
    where
      by : (t : Bool) → nat_lt v width ≡ t → (t && list_any (λ w. w == v) vs) ≡ false → Unbound v (binding width vs row)
      by true is k = row_other width v vs row k
      by false is k = row_past width v vs row (ltb-false v width is)

  values_leave : (table : Table) → Leaves (Values table)
  values_leave table h graph =
      subst (AllByRecursion (Unbound v)) (sym (eval_values width quads graph table))
      (each_map (λ (row : List (Option Term)). row ≡ row) (Unbound v) (binding width table.variables) (λ row e. row_leaves table.variables row (sym (possible_values width v table) ∙ h)) table.rows (each_of (λ (row : List (Option Term)). row ≡ row) (λ row. refl) table.rows))

  leaves_level : (y : level.PatternNode-F ((p : PatternNode) × Leaves p) ((s : Step) × LeavesOn s)) → Leaves (roll-PatternNode (map-PatternNode ((p : PatternNode) × Leaves p) ((s : Step) × LeavesOn s) PatternNode Step (λ e. e.0) (λ e. e.0) y))
  leaves_level (level.Basic b) = subst Leaves (sym (rolls-Basic b)) (basic_leaves b)
  leaves_level (level.Group es conditions) = subst Leaves (sym (rolls-Group (map (λ e. e.0) es) conditions)) (λ h graph.
      subst (AllByRecursion (Unbound v)) (sym (eval_group width quads graph (map (λ e. e.0) es) conditions))
      (each_filter (Unbound v) (all_hold conditions) _ (steps_leave es graph (unbound width ∷ []) (unbound_at width v, tt) (sym (possible_group width v (map (λ e. e.0) es) conditions) ∙ h))))
  leaves_level (level.Union es) = subst Leaves (sym (rolls-Union (map (λ e. e.0) es))) (λ h graph.
      subst (AllByRecursion (Unbound v)) (sym (eval_union width quads graph (map (λ e. e.0) es)))
      (union_leaves es graph (sym (possible_union width v (map (λ e. e.0) es)) ∙ h)))
  leaves_level (level.Graph name e) = subst Leaves (sym (rolls-Graph name e.0)) (λ h graph.
      subst (AllByRecursion (Unbound v)) (sym (eval_graph width quads graph name e.0))
      (in_one (Unbound v) (list_any (same_term name) (names_of quads)) _ (e.1 (sym (possible_graph width v name e.0) ∙ h) (graph_of quads (Some name)))))
  leaves_level (level.EachGraph w e) = subst Leaves (sym (rolls-EachGraph w e.0)) (λ h graph.
      let k = neither (nat_lt v width && w == v) (is_possible width e.0 v) (sym (possible_each_graph width v w e.0) ∙ h) in
      subst (AllByRecursion (Unbound v)) (sym (eval_each_graph width quads graph w e.0)) (each_leaves_in w e.0 (names_of quads) (e.1 k.1) k.0))
  leaves_level (level.Values table) = subst Leaves (sym (rolls-Values table)) (values_leave table)

  leaves_on_level : (y : level.Step-F ((p : PatternNode) × Leaves p) ((s : Step) × LeavesOn s)) → LeavesOn (roll-Step (map-Step ((p : PatternNode) × Leaves p) ((s : Step) × LeavesOn s) PatternNode Step (λ e. e.0) (λ e. e.0) y))
  leaves_on_level (level.Join e) = subst LeavesOn (sym (rolls-Join e.0)) (join_leaves e.0 e.1)
  leaves_on_level (level.LeftJoin e conditions) = subst LeavesOn (sym (rolls-LeftJoin e.0 conditions)) (left_join_leaves e.0 conditions e.1)
  leaves_on_level (level.Minus e) = subst LeavesOn (sym (rolls-Minus e.0)) (minus_leaves e.0)
  leaves_on_level (level.Extend w e) = subst LeavesOn (sym (rolls-Extend w e)) (extend_leaves w e)

  each_leaves : (p : PatternNode) → Leaves p
  each_leaves = ind-PatternNode Leaves LeavesOn (λ x y is. subst (λ z. Leaves (roll-PatternNode z)) is (leaves_level y)) (λ x y is. subst (λ z. LeavesOn (roll-Step z)) is (leaves_on_level y))

-- a certain variable is bound in each solution
pub certain_bound : (width : ℕ) (quads : List Statement) (pattern : PatternNode) (graph : Triples) (v : ℕ) → is_certain width pattern v ≡ true → All (Bound v) (eval width quads pattern graph)
certain_bound width quads pattern graph v h = All-from_recursion (Bound v) (eval width quads pattern graph) (each_binds width quads v pattern h graph)

-- a variable that isn't possible is bound in none
pub others_unbound : (width : ℕ) (quads : List Statement) (pattern : PatternNode) (graph : Triples) (v : ℕ) → is_possible width pattern v ≡ false → All (Unbound v) (eval width quads pattern graph)
others_unbound width quads pattern graph v h = All-from_recursion (Unbound v) (eval width quads pattern graph) (each_leaves width quads v pattern h graph)

-- The solutions of a pattern that names no blank node bind blank nodes of the data alone: by induction on the pattern.
use Rattle.std.proofs.Common.{◌≡◌, ℕ, Bool, true, false, ◌&&◌, List, [], ◌∷◌, map, Option, Some, None, refl, sym, subst, ◌∙◌}
use Rattle.std.specs.List.{All, AllByRecursion, filter, filter_map, cons_option, flat_map, fold, list_any}
use Rattle.std.proofs.lemmas.List.Elements.{All-from_recursion}
use Rattle.qs_terms.specs.Dataset.{Triple, triple_of, graph_of, names_of, is_term_below, is_statement_below, is_above_blanks}
use Rattle.qs_terms.specs.inner.Dataset.{is_graph_below as is_cell_below}
use Rattle.qs_terms.specs.Statement.{Statement, is_iri, same_graph}
use Rattle.qs_terms.specs.Term.{same_term}
use Rattle.qs_terms.specs.declared.term.Term.{Term}
use Rattle.qs_terms.specs.declared.term.Term.TheVariants as term
use Rattle.qs_algebra_solutions.specs.Solution.{Solution, unbound, binding}
use Rattle.qs_algebra_solutions.specs.Operators.{join}
use Rattle.qs_expr_meaning.specs.Meaning.{meaning}
use Rattle.qs_algebra_patterns.specs.declared.table.Table.{Table}
use Rattle.qs_algebra_patterns.specs.declared.pattern.Step.{Step, map-Step, roll-Step, fold-roll-Step}
use Rattle.qs_algebra_patterns.specs.declared.pattern.PatternNode.{PatternNode, map-PatternNode, roll-PatternNode, fold-roll-PatternNode, ind-PatternNode}
use Rattle.qs_algebra_patterns.specs.declared.pattern.PatternNode.TheOpen.{PatternNode-F, Step-F, Basic, Group, Union, Graph, EachGraph, Values, Join, LeftJoin, Minus, Extend}
use Rattle.qs_algebra_patterns.specs.Basic.{Graph as Triples}
use Rattle.qs_algebra_patterns.specs.Eval.{Found, Stepped, eval, eval_level, step_level as stepped_level, all_hold, all_steps, extended, in_each}
use Rattle.qs_algebra_patterns.specs.inner.Eval.{bound_to, rows_of, step}
use Rattle.qs_update_laws.specs.inner.Below.{is_solution_below, is_triple_below, are_triples_below, have_iri_predicates}
use Rattle.qs_update_laws.specs.inner.NoBlank.{is_no_blank, all, all_have_no_blank, row_has_no_blank, table_has_no_blank, pattern_level, step_level, has_no_blank, step_has_no_blank}
use Rattle.qs_update_laws.proofs.Lists.{both_hold, each_append, each_filter, each_once, each_where, each_map, each_flat_map, each_passes, all_pass}
use Rattle.qs_update_laws.proofs.Cells.{TermBelow, CellBelow, RowBelow, RowsBelow, cells_below, unbound_below, set_below, bound_below, join_below, left_join_below, minus_below}
use Rattle.qs_update_laws.proofs.Paths.{TripleBelow, GraphBelow, basic_below}
use Rattle.qs_update_laws.proofs.Expressions.{meaning_below}

module _ (next width : ℕ) (quads : List Statement) (names : AllByRecursion (TermBelow next) (names_of quads)) (graphs : (name : Option Term) → GraphBelow next (graph_of quads name)) where
  abbrev IsBelow : PatternNode → Type 0
  IsBelow p = has_no_blank p ≡ true → (graph : Triples) → GraphBelow next graph → RowsBelow next (eval width quads p graph)

  -- a step makes such solutions of such solutions
  abbrev StepsBelow : Step → Type 0
  StepsBelow s = step_has_no_blank s ≡ true → (graph : Triples) (left : List Solution) → GraphBelow next graph → RowsBelow next left → RowsBelow next (step width quads s graph left)

  abbrev Known : Type 0
  Known = (p : PatternNode) × IsBelow p

  abbrev KnownStep : Type 0
  KnownStep = (s : Step) × StepsBelow s

  bound_to_below : (m : Solution) (v : ℕ) (c : Option Term) → CellBelow next c → RowBelow next m → RowBelow next (bound_to m v c)
  bound_to_below m v None h k = k
  bound_to_below m v (Some t) h k = set_below next m v (Some t) h k

  steps_below : (es : List KnownStep) (graph : Triples) (left : List Solution) → all (map step_has_no_blank (map (λ e. e.0) es)) ≡ true → GraphBelow next graph → RowsBelow next left
      → RowsBelow next (fold (λ before (one : Stepped). one graph before) left (map (step width quads) (map (λ e. e.0) es)))
  steps_below [] graph left h g k = k
  steps_below (e ∷ es) graph left h g k =
      let l = both_hold (step_has_no_blank e.0) (all (map step_has_no_blank (map (λ e. e.0) es))) h in
      steps_below es graph (step width quads e.0 graph left) l.1 g (e.1 l.0 graph left g k)

  union_below : (es : List Known) (graph : Triples) → all (map has_no_blank (map (λ e. e.0) es)) ≡ true → GraphBelow next graph
      → RowsBelow next (flat_map (λ (part : Found). part graph) (map (eval width quads) (map (λ e. e.0) es)))
  union_below [] graph h g = tt
  union_below (e ∷ es) graph h g =
      let l = both_hold (has_no_blank e.0) (all (map has_no_blank (map (λ e. e.0) es))) h in
      each_append (RowBelow next) (eval width quads e.0 graph) (flat_map (λ (part : Found). part graph) (map (eval width quads) (map (λ e. e.0) es))) (e.1 l.0 graph g) (union_below es graph l.1 g)

  named_below : (v : ℕ) (e : Known) → has_no_blank e.0 ≡ true → RowsBelow next (in_each width quads v (eval width quads e.0) (names_of quads))
  named_below v e h =
      each_flat_map (TermBelow next) (RowBelow next)
      (λ name. join (eval width quads e.0 (graph_of quads (Some name))) (binding width (v ∷ []) (Some name ∷ []) ∷ [])) (λ name k.
      join_below next (eval width quads e.0 (graph_of quads (Some name))) (binding width (v ∷ []) (Some name ∷ []) ∷ [])
      (e.1 h (graph_of quads (Some name)) (graphs (Some name)))
      (bound_below next (unbound width) (v ∷ []) (Some name ∷ []) (unbound_below next width) (k, tt), tt)) (names_of quads) names

  values_below : (table : Table) → table_has_no_blank table ≡ true → RowsBelow next (rows_of width table)
  values_below table h =
      each_map (λ row. row_has_no_blank row ≡ true) (RowBelow next) (binding width table.variables)
      (λ row k. bound_below next (unbound width) table.variables row (unbound_below next width) (cells_below next row k)) table.rows (each_passes row_has_no_blank table.rows h)

  abbrev inner : PatternNode-F Known KnownStep → PatternNode-F PatternNode Step
  inner y = map-PatternNode Known KnownStep PatternNode Step (λ e. e.0) (λ e. e.0) y

  abbrev inner_step : Step-F Known KnownStep → Step-F PatternNode Step
  inner_step y = map-Step Known KnownStep PatternNode Step (λ e. e.0) (λ e. e.0) y

  level_below : (y : PatternNode-F Known KnownStep) → pattern_level (map-PatternNode PatternNode Step Bool Bool has_no_blank step_has_no_blank (inner y)) ≡ true → (graph : Triples) → GraphBelow next graph
      → RowsBelow next (eval_level width quads (map-PatternNode PatternNode Step Found Stepped (eval width quads) (step width quads) (inner y)) graph)
  level_below (Basic b) h graph g = basic_below next graph g width b h
  level_below (Group es conditions) h graph g =
      each_filter (RowBelow next) (all_hold conditions) (all_steps width graph (map (step width quads) (map (λ e. e.0) es)))
      (steps_below es graph (unbound width ∷ []) (both_hold (all (map step_has_no_blank (map (λ e. e.0) es))) (all_have_no_blank conditions) h).0 g (unbound_below next width, tt))
  level_below (Union es) h graph g = union_below es graph h g
  level_below (Graph name e) h graph g =
      each_where (RowBelow next) (list_any (same_term name) (names_of quads)) (eval width quads e.0 (graph_of quads (Some name)))
      (e.1 (both_hold (is_no_blank name) (has_no_blank e.0) h).1 (graph_of quads (Some name)) (graphs (Some name)))
  level_below (EachGraph v e) h graph g = named_below v e h
  level_below (Values table) h graph g = values_below table h

  step_level_below : (y : Step-F Known KnownStep) → step_level (map-Step PatternNode Step Bool Bool has_no_blank step_has_no_blank (inner_step y)) ≡ true → (graph : Triples) (left : List Solution) → GraphBelow next graph → RowsBelow next left
      → RowsBelow next (stepped_level (map-Step PatternNode Step Found Stepped (eval width quads) (step width quads) (inner_step y)) graph left)
  step_level_below (Join e) h graph left g k = join_below next left (eval width quads e.0 graph) k (e.1 h graph g)
  step_level_below (LeftJoin e conditions) h graph left g k =
      left_join_below next (all_hold conditions) left (eval width quads e.0 graph) k (e.1 (both_hold (has_no_blank e.0) (all_have_no_blank conditions) h).0 graph g)
  step_level_below (Minus e) h graph left g k = minus_below next left (eval width quads e.0 graph) k
  step_level_below (Extend v e) h graph left g k =
      each_map (RowBelow next) (RowBelow next) (extended v e) (λ m l. bound_to_below m v (meaning m e) (meaning_below next m l e h) l) left k

  rolled_below : (y : PatternNode-F Known KnownStep) → IsBelow (roll-PatternNode (inner y))
  rolled_below y h graph g =
      subst (λ (f : Found). RowsBelow next (f graph)) (sym (fold-roll-PatternNode Found Stepped (eval_level width quads) stepped_level (inner y)))
      (level_below y (sym (fold-roll-PatternNode Bool Bool pattern_level step_level (inner y)) ∙ h) graph g)

  rolled_step_below : (y : Step-F Known KnownStep) → StepsBelow (roll-Step (inner_step y))
  rolled_step_below y h graph left g k =
      subst (λ (f : Stepped). RowsBelow next (f graph left)) (sym (fold-roll-Step Found Stepped (eval_level width quads) stepped_level (inner_step y)))
      (step_level_below y (sym (fold-roll-Step Bool Bool pattern_level step_level (inner_step y)) ∙ h) graph left g k)

  eval_below : (p : PatternNode) → IsBelow p
  eval_below = ind-PatternNode IsBelow StepsBelow (λ x y is. subst (λ z. IsBelow (roll-PatternNode z)) is (rolled_below y)) (λ x y is. subst (λ z. StepsBelow (roll-Step z)) is (rolled_step_below y))

-- ---- the data

abbrev QuadBelow : ℕ → Statement → Type 0
QuadBelow next q = (is_statement_below next q ≡ true) × (is_iri q.predicate ≡ true)

iri_below : (next : ℕ) (t : Term) → is_iri t ≡ true → TermBelow next t
iri_below next (term.Iri i) h = refl
iri_below next (term.Blank n) h = let f : false ≡ true = h in cc
iri_below next (term.Literal l) h = refl

each_quad : (next : ℕ) (quads : List Statement) → is_above_blanks next quads ≡ true → have_iri_predicates quads ≡ true → AllByRecursion (QuadBelow next) quads
each_quad next [] h k = tt
each_quad next (q ∷ quads) h k =
    let a = both_hold (is_statement_below next q) (is_above_blanks next quads) h in
    let b = both_hold (is_iri q.predicate) (have_iri_predicates quads) k in
    ((a.0, b.0), each_quad next quads a.1 b.1)

triple_below : (next : ℕ) (q : Statement) → QuadBelow next q → TripleBelow next (triple_of q)
triple_below next q h =
    let a = both_hold (is_cell_below next q.graph) (is_term_below next q.subject && is_term_below next q.object) h.0 in
    let b = both_hold (is_term_below next q.subject) (is_term_below next q.object) a.1 in
    (b.0, (iri_below next q.predicate h.1, b.1))

graph_below : (next : ℕ) (quads : List Statement) → AllByRecursion (QuadBelow next) quads → (name : Option Term) → GraphBelow next (graph_of quads name)
graph_below next quads each name =
    each_map (QuadBelow next) (TripleBelow next) triple_of (triple_below next) (filter (λ q. same_graph q.graph name) quads) (each_filter (QuadBelow next) (λ q. same_graph q.graph name) quads each)

one_name : (next : ℕ) (c : Option Term) (ts : List Term) → CellBelow next c → AllByRecursion (TermBelow next) ts → AllByRecursion (TermBelow next) (cons_option c ts)
one_name next None ts h k = k
one_name next (Some t) ts h k = (h, k)

graph_names_below : (next : ℕ) (quads : List Statement) → AllByRecursion (QuadBelow next) quads → AllByRecursion (TermBelow next) (filter_map (λ (q : Statement). q.graph) quads)
graph_names_below next [] each = tt
graph_names_below next (q ∷ quads) each =
    one_name next q.graph (filter_map (λ (q : Statement). q.graph) quads) (both_hold (is_cell_below next q.graph) (is_term_below next q.subject && is_term_below next q.object) each.0.0).0 (graph_names_below next quads each.1)

names_below : (next : ℕ) (quads : List Statement) → AllByRecursion (QuadBelow next) quads → AllByRecursion (TermBelow next) (names_of quads)
names_below next quads each = each_once (TermBelow next) same_term (filter_map (λ (q : Statement). q.graph) quads) (graph_names_below next quads each)

-- ---- the law

three_below : (next : ℕ) (t : Triple) → is_triple_below next t ≡ true → TripleBelow next t
three_below next t h =
    let a = both_hold (is_term_below next t.subject) (is_term_below next t.predicate && is_term_below next t.object) h in
    let b = both_hold (is_term_below next t.predicate) (is_term_below next t.object) a.1 in
    (a.0, (b.0, b.1))

triples_below : (next : ℕ) (graph : Triples) → are_triples_below next graph ≡ true → GraphBelow next graph
triples_below next [] h = tt
triples_below next (t ∷ graph) h =
    let k = both_hold (is_triple_below next t) (are_triples_below next graph) h in (three_below next t k.0, triples_below next graph k.1)

rows_pass : (next : ℕ) (ms : List Solution) → RowsBelow next ms → All (λ m. is_solution_below next m ≡ true) ms
rows_pass next ms h = All-from_recursion (λ m. is_solution_below next m ≡ true) ms (each_map_self ms h)
  where
    each_map_self : (ms : List Solution) → RowsBelow next ms → AllByRecursion (λ m. is_solution_below next m ≡ true) ms
    each_map_self [] h = tt
    each_map_self (m ∷ ms) h = (all_pass (is_cell_below next) m h.0, each_map_self ms h.1)

module _ (next width : ℕ) (quads : List Statement) (p : PatternNode) (no_blank : has_no_blank p ≡ true) (above : is_above_blanks next quads ≡ true) (iris : have_iri_predicates quads ≡ true) where
  each : AllByRecursion (QuadBelow next) quads
  each = each_quad next quads above iris

  pub in_graph : (graph : Triples) → GraphBelow next graph → All (λ m. is_solution_below next m ≡ true) (eval width quads p graph)
  in_graph graph g = rows_pass next (eval width quads p graph) (eval_below next width quads (names_below next quads each) (graph_below next quads each) p no_blank graph g)

  pub in_any : (graph : Triples) → are_triples_below next graph ≡ true → All (λ m. is_solution_below next m ≡ true) (eval width quads p graph)
  in_any graph h = in_graph graph (triples_below next graph h)

  pub in_one : (name : Option Term) → All (λ m. is_solution_below next m ≡ true) (eval width quads p (graph_of quads name))
  in_one name = in_graph (graph_of quads name) (graph_below next quads each name)

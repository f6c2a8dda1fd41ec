-- What a walk keeps, and what it is still to give, stays as it is while the scratch table grows.
use Rattle.std.proofs.Common.{◌≡◌, ℕ, List, [], ◌∷◌, ◌++◌, map, drop, take, Option, Some, None, refl, sym, ◌∙◌, ap, subst, arith}
use Rattle.std.specs.List.{filter, AllByRecursion}
use Rattle.qs_terms.specs.declared.term.Term.{Term}
use Rattle.qs_algebra_solutions.specs.Solution.{Solution}
use Rattle.qs_algebra_patterns.specs.Eval.{all_hold}
use Rattle.qs_algebra_patterns.specs.declared.table.Table.{Table}
use Rattle.qs_expr.specs.inner.Cell.{Cells, denoted_if, row_solution, FitsIf}
use Rattle.qs_expr.specs.inner.Scratch.{Grows}
use Rattle.qs_expr.specs.declared.cell.Cell.{Cell}
use Rattle.qs_expr.proofs.Growth.{same_row, still_row, still_fits, still_same}
use Rattle.qs_plan_meaning.specs.declared.stage.Stage.{Stage}
use Rattle.qs_plan_meaning.specs.inner.Scans.{path_pairs}
use Rattle.qs_algebra_patterns.specs.declared.pattern.PathPattern.{PathPattern}
use Rattle.qs_store.specs.inner.ActiveGraph.{active_graph}
use Rattle.qs_store.specs.declared.active.Active.{Active}
use Rattle.qs_ops_scans.specs.inner.Paths.{Serve}
use Rattle.qs_ops_scans.specs.declared.bound.RowEnds.{RowEnds}
use Rattle.qs_ops_scans.proofs.Collected.{pairs_stay}
use Rattle.qs_ops_scans.proofs.FedPairs.{serve_stays}
use Rattle.qs_ops_walk.specs.declared.work.EndPairs.{EndPairs}
use Rattle.qs_ops_walk.specs.declared.work.KeptPairs.{KeptPairs}
use Rattle.qs_ops_program.specs.inner.Flow.{Instruction}
use Rattle.qs_ops_program.specs.inner.Toil.{summed}
use Rattle.qs_ops_tables.specs.inner.Tables.{KeptRows, FitRows, row_solutions}
use Rattle.qs_ops_walk.specs.declared.source.Attempt.{Attempt}
use Rattle.qs_ops_walk.specs.declared.source.Level.{Level}
use Rattle.qs_ops_walk.specs.declared.source.Source.{Source}
use Rattle.qs_ops_walk.specs.declared.source.Source.TheVariants as source
use Rattle.qs_ops_walk.specs.declared.right.Aside.{Aside}
use Rattle.qs_ops_walk.specs.declared.right.Right.{Right}
use Rattle.qs_ops_walk.specs.declared.work.Work.{Work}
use Rattle.qs_ops_walk.specs.declared.work.Work.TheVariants as work
use Rattle.qs_ops_walk.specs.declared.work.Place.{Place}
use Rattle.qs_ops_walk.specs.inner.Setting.{Setting, known_of}
use Rattle.qs_ops_walk.specs.inner.Works.{AreEndPairs, IfEndPairs, IfPairs, expr_of, IsAside, IsRight, IfValues, IsWork, AreReady}
use Rattle.qs_ops_walk.specs.inner.Coming.{going, row_if, or_else, attempted, source_items, level_items, flows, coming, FitsOption, FitsAttempt, FitsSource, FitLevels}
use Rattle.qs_ops_walk.specs.inner.Moves.{item_moves, moves}

module _ (s : Setting) (old new : List Term) (g : Grows (known_of s) old new) where
  abbrev known : List Term
  known = known_of s

  -- ---- rows

  pub rows_still : (rows : List Cells) → FitRows known old rows → FitRows known new rows
  rows_still [] h = tt
  rows_still (m ∷ ms) h = (still_row known old new g m h.0, rows_still ms h.1)

  pub rows_same : (rows : List Cells) → FitRows known old rows → row_solutions known new rows ≡ row_solutions known old rows
  rows_same [] h = refl
  rows_same (m ∷ ms) h =
      let a : row_solution known new m ≡ row_solution known old m = same_row known old new g m h.0 in
      let b : row_solutions known new ms ≡ row_solutions known old ms = rows_same ms h.1 in cc

  option_still : (m : Option Cells) → FitsOption known old m → FitsOption known new m
  option_still None h = tt
  option_still (Some m) h = still_row known old new g m h

  option_same : (m : Option Cells) → FitsOption known old m → row_if known new m ≡ row_if known old m
  option_same None h = refl
  option_same (Some m) h = ap (λ x. x ∷ []) (same_row known old new g m h)

  name_same : (x : Option Cell) → FitsIf known old x → denoted_if known new x ≡ denoted_if known old x
  name_same None h = refl
  name_same (Some c) h = still_same known old new g c (h c refl)

  name_still : (x : Option Cell) → FitsIf known old x → FitsIf known new x
  name_still x h c e = still_fits known old new g c (h c e)

  -- ---- sources

  else_same : (m : Option Cells) (xs : List Solution) → FitsOption known old m → or_else known new m xs ≡ or_else known old m xs
  else_same None xs h = refl
  else_same (Some m) [] h = ap (λ x. x ∷ []) (same_row known old new g m h)
  else_same (Some m) (x ∷ xs) h = refl

  attempted_same : (a : Attempt) → FitsAttempt known old a → attempted s new a ≡ attempted s old a
  attempted_same a h =
      let f : List Solution → List Solution = filter (λ (n : Solution). all_hold (map expr_of a.conditions.list.items) (take s.width n)) in
      ap (λ xs. or_else known new a.alone (f xs)) (rows_same a.probe h.rows) ∙ else_same a.alone (f (row_solutions known old a.probe)) h.alone

  items_same : (next : ℕ) (x : Source) → FitsSource known old x → source_items s new next x ≡ source_items s old next x
  items_same next (source.Given m) h = ap (going next) (option_same m h)
  items_same next (source.Triple rows) h = ap (going next) (rows_same rows h)
  items_same next (source.Quads rows) h = ap (going next) (rows_same rows h)
  items_same next (source.Names rows) h = ap (going next) (rows_same rows h)
  items_same next (source.Path rows) h = ap (going next) (rows_same rows h)
  items_same next (source.Probe rows) h = ap (going next) (rows_same rows h)
  items_same next (source.Optional a) h = ap (going next) (attempted_same a h)
  items_same next (source.Fork f) h = ap (λ (x : Solution). map (λ (start : ℕ). (start, x)) (drop f.at f.starts.list.items)) (same_row known old new g f.row h)

  source_still : (x : Source) → FitsSource known old x → FitsSource known new x
  source_still (source.Given m) h = option_still m h
  source_still (source.Triple rows) h = rows_still rows h
  source_still (source.Quads rows) h = rows_still rows h
  source_still (source.Names rows) h = rows_still rows h
  source_still (source.Path rows) h = rows_still rows h
  source_still (source.Probe rows) h = rows_still rows h
  source_still (source.Optional a) h = record { rows = rows_still a.probe h.rows; alone = option_still a.alone h.alone; prepared = h.prepared }
  source_still (source.Fork f) h = still_row known old new g f.row h

  -- ---- levels

  pub levels_still : (ls : List Level) → FitLevels known old ls → FitLevels known new ls
  levels_still [] h = tt
  levels_still (l ∷ ls) h = (source_still l.source h.0, levels_still ls h.1)

  pub coming_same : (code : List Instruction) (ls : List Level) → FitLevels known old ls → coming s code new ls ≡ coming s code old ls
  coming_same code [] h = refl
  coming_same code (l ∷ ls) h =
      ap (λ xs. xs ++ flows s code (level_items s new l)) (coming_same code ls h.1)
      ∙ ap (λ xs. coming s code old ls ++ flows s code xs) (items_same l.next l.source h.0)

  pub moves_same : (code : List Instruction) (ls : List Level) → FitLevels known old ls → moves s code new ls ≡ moves s code old ls
  moves_same code [] h = refl
  moves_same code (l ∷ ls) h =
      let a : moves s code new ls ≡ moves s code old ls = moves_same code ls h.1 in
      let b : summed (item_moves s code) (level_items s new l) ≡ summed (item_moves s code) (level_items s old l) = ap (summed (item_moves s code)) (items_same l.next l.source h.0) in
      omega arith

  -- ---- places

  aside_still : (register : Option ℕ) (stages : List Stage) (a : Aside) → IsAside s old register stages a → IsAside s new register stages a
  aside_still register stages a h = record {
    rows = rw (rows_same a.kept.rows h.fit, name_same a.name h.name) h.rows;
    fit = rows_still a.kept.rows h.fit;
    name = name_still a.name h.name;
  }

  asides_still : (register : Option ℕ) (stages : List Stage) (list : List Aside) → AllByRecursion (IsAside s old register stages) list → AllByRecursion (IsAside s new register stages) list
  asides_still register stages [] h = tt
  asides_still register stages (a ∷ list) h = (aside_still register stages a h.0, asides_still register stages list h.1)

  pub right_still : (r : Right) → IsRight s old r → IsRight s new r
  right_still r h = asides_still r.register r.group.now.stages r.kept.list.items h

  values_still : (values : Table) (o : Option KeptRows) → IfValues s old values o → IfValues s new values o
  values_still values None h = tt
  values_still values (Some k) h = record { rows = rows_same k.rows h.fit ∙ h.rows; fit = rows_still k.rows h.fit }

  pub pairs_still : (pattern : PathPattern) (o : Option KeptPairs) → IfPairs s old pattern o → IfPairs s new pattern o
  pairs_still pattern None h = tt
  pairs_still pattern (Some k) h = pairs_stay known old new k.pairs (path_pairs pattern (active_graph s.content s.default k.graph)) g h

  pub end_pairs_still : (pattern : PathPattern) (o : Option EndPairs) → IfEndPairs s old pattern o → IfEndPairs s new pattern o
  end_pairs_still pattern None h = tt
  end_pairs_still pattern (Some k) h = record {
    subject = name_still k.ends.subject h.subject;
    object = name_still k.ends.object h.object;
    serve = serve_stays known old new pattern (active_graph s.content s.default k.graph) k.ends k.pairs g h.subject h.object h.serve;
  }

  -- those that were found by the larger table
  pub end_pairs_made : (pattern : PathPattern) (graph : Active) (ends : RowEnds) (pairs own : List (Cell × Cell)) → own ≡ pairs → FitsIf known old ends.subject → FitsIf known old ends.object
      → Serve known new pattern (active_graph s.content s.default graph) ends pairs → AreEndPairs s new pattern (record { graph = graph; ends = ends; pairs = own })
  end_pairs_made pattern graph ends pairs own e fs fo h = record {
    subject = name_still ends.subject fs;
    object = name_still ends.object fo;
    serve = subst (Serve known new pattern (active_graph s.content s.default graph) ends) (sym e) h;
  }

  pub work_still : (i : Instruction) (w : Work) → IsWork s old i w → IsWork s new i w
  work_still i (work.Triple look pattern) h = h
  work_still i (work.Path t) h = record { place = h.place; is = h.is; looks = h.looks; pairs = pairs_still t.pattern.now t.kept h.pairs; last = end_pairs_still t.pattern.now t.last h.last }
  work_still i (work.Names n) h = h
  work_still i (work.Exists found) h = h
  work_still i (work.Name v r) h = h
  work_still i (work.Filter c) h = h
  work_still i (work.Bind v e) h = h
  work_still i (work.Values v) h = record { is = h.is; rows = values_still v.table.now v.kept h.rows }
  work_still i (work.Union starts) h = h
  work_still i (work.Optional c) h = record { is = h.is; alike = h.alike; prepared = h.prepared; kept = right_still c.right h.kept }
  work_still i (work.Fed feed) h = h
  work_still i (work.Minus right) h = record { is = h.is; kept = right_still right h.kept }
  work_still i (work.Apart right) h = record { is = h.is; kept = right_still right h.kept }

  pub ready_still : (ps : List Place) → AreReady s old ps → AreReady s new ps
  ready_still [] h = tt
  ready_still (p ∷ ps) h = (work_still p.instr p.work h.0, ready_still ps h.1)

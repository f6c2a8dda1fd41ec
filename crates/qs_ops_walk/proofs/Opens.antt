-- What sources give of a row at the stage that they are opened for.
use Rattle.std.proofs.Common.{◌≡◌, ℕ, suc, ◌+◌, ◌<◌, ◌≤◌, Bool, true, false, not, if◌then◌else◌, List, [], ◌∷◌, ◌++◌, length, get_or, map, take, drop, Option, Some, None, refl, sym, ◌∙◌, ap, subst, arith}
use Rattle.std.proofs.lemmas.List.Sorted.{IsPermutation-map, list_any-IsPermutation}
use Rattle.std.specs.List.{AllByRecursion, filter, flat_map, list_any}
use Rattle.qs_terms.specs.Bag.{SameBag}
use Rattle.qs_terms.specs.declared.term.Term.{Term}
use Rattle.qs_algebra_solutions.specs.Solution.{Solution}
use Rattle.qs_algebra_solutions.specs.Operators.{merges, or_alone, excludes}
use Rattle.qs_algebra_patterns.specs.Eval.{all_hold}
use Rattle.qs_algebra_patterns.specs.inner.Eval.{rows_of}
use Rattle.qs_algebra_patterns.specs.declared.table.Table.{Table}
use Rattle.qs_expr.specs.inner.Cell.{Cells, row_solution, FitsRow}
use Rattle.qs_plan_meaning.specs.declared.stage.Stage.{Stage}
use Rattle.qs_plan_meaning.specs.declared.stage.Stage.TheVariants as stage
use Rattle.qs_plan_meaning.specs.inner.Stages.{aside, each_named, fed_rows, looked, kept_if}
use Rattle.qs_plan_meaning.specs.inner.Scans.{extensions, path_extensions}
use Rattle.qs_ops_program.proofs.Levels.{gives_names, gives_path, gives_triple, gives_values, gives_optional, gives_fed, gives_minus, gives_apart}
use Rattle.qs_ops_program.specs.inner.Flow.{Instruction, IsForward, flow, is_union, instr_made, meanings}
use Rattle.qs_ops_program.specs.inner.Toil.{summed, toil, instr_moves, all_moves}
use Rattle.qs_ops_program.proofs.Flows.{flow_at}
use Rattle.qs_ops_program.proofs.Toils.{toil_at, summed_same}
use Rattle.qs_ops_tables.specs.inner.Tables.{KeptRows, FitRows, FitsMerges, GivesMerges, TellsExcluded, row_solutions}
use Rattle.qs_ops_walk.specs.declared.source.Attempt.{Attempt}
use Rattle.qs_ops_walk.specs.declared.source.Fork.{Fork as Branching}
use Rattle.qs_ops_walk.specs.declared.source.Source.{Source}
use Rattle.qs_ops_walk.specs.declared.source.Source.TheVariants as source
use Rattle.qs_ops_walk.specs.declared.work.Conditions.{Conditions}
use Rattle.qs_ops_walk.specs.declared.work.Feed.{Feed}
use Rattle.qs_ops_walk.specs.declared.right.Right.{Right}
use Rattle.qs_ops_walk.specs.inner.Setting.{Setting, known_of, gives_in, graph_in, through_in}
use Rattle.qs_ops_walk.specs.inner.Works.{ArePairsFor, expr_of, IsAlike, IsTriple, AreValues, IsFed, IsFork, IsOptional, IsRight, Serves}
use Rattle.qs_ops_walk.specs.inner.Coming.{Going, going, row_if, or_else, attempted, source_items, flows, FitsOption, FitsSource}
use Rattle.qs_ops_walk.specs.inner.Moves.{item_moves, instr_items, Attempts, Opens, OpensTo}
use Rattle.qs_expr_meaning.specs.declared.expr.Expr.{Expr}
use Rattle.qs_algebra_patterns.specs.declared.pattern.TriplePattern.{TriplePattern}
use Rattle.qs_expr.specs.inner.Condition.{IsPreparedFor}
use Rattle.qs_expr.specs.inner.Scratch.{IsTable, Grows}
use Rattle.qs_expr.proofs.Growth.{same_row, still_row}
use Rattle.qs_plan_meaning.specs.declared.stage.Look.{Look}
use Rattle.qs_ops_scans.specs.inner.Makes.{AreMade, Makes}
use Rattle.qs_ops_scans.specs.inner.Paths.{row_ends, Serve}
use Rattle.qs_store.specs.inner.ActiveGraph.{active_graph}
use Rattle.qs_algebra_patterns.specs.Basic.{Graph}
use Rattle.qs_expr.specs.declared.cell.Cell.{Cell}
use Rattle.qs_ops_walk.specs.declared.work.Trail.{Trail}
use Rattle.qs_ops_scans.specs.inner.Prepared.{prepared_look, prepared_triple}
use Rattle.qs_ops_scans.specs.declared.look.PreparedLook.{PreparedLook}
use Rattle.qs_ops_scans.specs.declared.pattern.PreparedTriple.{PreparedTriple}
use Rattle.qs_ops_walk.proofs.Bags.{same, chain, filter_same, flat_map_same, merges_same, alone_same}
use Rattle.qs_ops_walk.proofs.NoUnions.{names_is_not, path_is_not, triple_is_not, values_is_not, optional_is_not, fed_is_not, minus_is_not, apart_is_not}
use Rattle.qs_ops_walk.proofs.Passes.{row_length, serves, serves_fit}

-- ---- what comes of an instruction's items

pub flows_going : (s : Setting) (code : List Instruction) (next : ℕ) (xs : List Solution) → flows s code (going next xs) ≡ flat_map (flow (gives_in s) code next) xs
flows_going s code next [] = refl
flows_going s code next (x ∷ xs) = ap (λ ys. flow (gives_in s) code next x ++ ys) (flows_going s code next xs)

flows_starts : (s : Setting) (code : List Instruction) (x : Solution) (starts : List ℕ) → flows s code (map (λ (start : ℕ). (start, x)) starts) ≡ flat_map (λ start. flow (gives_in s) code start x) starts
flows_starts s code x [] = refl
flows_starts s code x (k ∷ ks) = ap (λ ys. flow (gives_in s) code k x ++ ys) (flows_starts s code x ks)

pub moves_going : (s : Setting) (code : List Instruction) (next : ℕ) (xs : List Solution) → summed (item_moves s code) (going next xs) ≡ summed (toil (gives_in s) code next) xs
moves_going s code next [] = refl
moves_going s code next (x ∷ xs) = ap (λ n. (1 + toil (gives_in s) code next x) + n) (moves_going s code next xs)

moves_starts : (s : Setting) (code : List Instruction) (x : Solution) (starts : List ℕ) → summed (item_moves s code) (map (λ (start : ℕ). (start, x)) starts) ≡ summed (λ start. toil (gives_in s) code start x) starts
moves_starts s code x [] = refl
moves_starts s code x (k ∷ ks) = ap (λ n. (1 + toil (gives_in s) code k x) + n) (moves_starts s code x ks)

module _ (s : Setting) (code : List Instruction) (i : Instruction) (x : Solution) where
  instr_flows : (b : Bool) → is_union i.stage ≡ b → flows s code (instr_items s i x) ≡ instr_made (gives_in s) (meanings (gives_in s) code) i x
  instr_flows true e = rw e (flows_starts s code x i.starts)
  instr_flows false e = rw e (flows_going s code i.next (gives_in s i.stage x))

  instr_moved : (b : Bool) → is_union i.stage ≡ b → 1 + summed (item_moves s code) (instr_items s i x) ≡ instr_moves (gives_in s) (all_moves (gives_in s) code) i x
  instr_moved true e = rw e (ap (λ n. 1 + n) (moves_starts s code x i.starts))
  instr_moved false e = rw e (ap (λ n. 1 + n) (moves_going s code i.next (gives_in s i.stage x)))

-- a source that is opened for an instruction, as a level
pub opens_to : (s : Setting) (code : List Instruction) (k : ℕ) (i : Instruction) (old new : List Term) (m : Cells) (src : Source) → IsForward code → k < length code → i ≡ get_or code k i
    → Opens s i old m new src → OpensTo s code (suc k) old m new (record { next = i.next; source = src })
opens_to s code k i old new m src f l e o =
    let x : Solution = row_solution (known_of s) old m in
    let F : Going → List Solution = λ (y : Going). flow (gives_in s) code y.0 y.1 in
    let a : flow (gives_in s) code (suc k) x ≡ flows s code (instr_items s i x) = flow_at (gives_in s) code k i x f l e ∙ sym (instr_flows s code i x (is_union i.stage) refl) in
    let b : toil (gives_in s) code (suc k) x ≡ 1 + summed (item_moves s code) (instr_items s i x) = toil_at (gives_in s) code k i x f l e ∙ sym (instr_moved s code i x (is_union i.stage) refl) in
    let c : summed (item_moves s code) (source_items s new i.next src) ≡ summed (item_moves s code) (instr_items s i x) = summed_same (item_moves s code) (source_items s new i.next src) (instr_items s i x) o.items in record {
      rows = chain _ _ _ (flat_map_same F (source_items s new i.next src) (instr_items s i x) o.items) (same _ _ (sym a));
      moves = omega (arith, b, c);
      fits = o.fits;
    }

-- ---- sources of rows
module _ (s : Setting) (i : Instruction) (old new : List Term) (m : Cells) where
  abbrev x : Solution
  x = row_solution (known_of s) old m

  -- a stage that is no union
  opens_rows : (src : Source) (xs : List Solution) → is_union i.stage ≡ false → source_items s new i.next src ≡ going i.next xs → SameBag xs (gives_in s i.stage x) → FitsSource (known_of s) new src → Opens s i old m new src
  opens_rows src xs u e h fits = record {
    items = rw u (chain _ _ _ (same _ _ e) (IsPermutation-map (λ (y : Solution). (i.next, y)) xs (gives_in s i.stage x) h));
    fits = fits;
  }

  pub opens_triple : (rows : List Cells) (look : PreparedLook) (pattern : PreparedTriple) → IsTriple (known_of s) i.stage look pattern
      → ((place : Look) (p : TriplePattern) → look ≡ prepared_look (known_of s) place → pattern ≡ prepared_triple (known_of s) p
      → Makes (known_of s) (λ n. extensions p (looked s.content.quads (graph_in s) place n) n) m rows)
      → new ≡ old → IsTable (known_of s) old → FitsRow (known_of s) old m → Opens s i old m new (source.Triple rows)
  opens_triple rows look pattern is makes e t h =
      let a : AreMade (known_of s) old (λ n. extensions is.pattern (looked s.content.quads (graph_in s) is.look n) n) m rows = makes is.look is.pattern is.looks is.prepared old t h in
      opens_rows (source.Triple rows) (row_solutions (known_of s) new rows) (triple_is_not i.stage is.look is.pattern is.is) refl
      (rw e (chain _ _ _ a.same (same _ _ (sym (ap (λ (q : Stage). gives_in s q x) is.is ∙ gives_triple s.width s.content.quads (graph_in s) x is.look is.pattern)))))
      (rw e a.fit)

  -- ---- kept rows
  module _ (t : IsTable (known_of s) new) (g : Grows (known_of s) old new) (h : FitsRow (known_of s) old m) where
    x_same : row_solution (known_of s) new m ≡ x
    x_same = same_row (known_of s) old new g m h

    pub opens_values : (values : Table) (k : KeptRows) (merged : List Cells) → i.stage ≡ stage.Values values → AreValues s new values k → GivesMerges k.rows m merged → FitsMerges k.rows m merged → Opens s i old m new (source.Probe merged)
    opens_values values k merged is kept gives fits =
        let n : FitsRow (known_of s) new m = still_row (known_of s) old new g m h in
        opens_rows (source.Probe merged) (row_solutions (known_of s) new merged) (values_is_not i.stage values is) refl
        (same _ _ (gives (known_of s) new t kept.fit n ∙ (ap (λ right. merges right (row_solution (known_of s) new m)) kept.rows ∙ (ap (merges (rows_of s.width values)) x_same ∙ sym (ap (λ (q : Stage). gives_in s q x) is ∙ gives_values s.width s.content.quads (graph_in s) x values)))))
        (fits (known_of s) new kept.fit n)

    n_fits : FitsRow (known_of s) new m
    n_fits = still_row (known_of s) old new g m h

    else_alone : (xs : List Solution) → or_else (known_of s) new (Some m) xs ≡ or_alone x xs
    else_alone [] = ap (λ y. y ∷ []) x_same
    else_alone (y ∷ xs) = refl

    -- the row with those of the rows that it is compatible with where the conditions hold, or alone
    opens_attempted : (k : KeptRows) (side : List Solution) → SameBag (row_solutions (known_of s) new k.rows) side → FitRows (known_of s) new k.rows
        → (a : Attempt) → AllByRecursion (IsPreparedFor (known_of s)) a.conditions.list.items → is_union i.stage ≡ false
        → gives_in s i.stage x ≡ or_alone x (filter (λ n. all_hold (map expr_of a.conditions.list.items) (take s.width n)) (merges side x))
        → a.alone ≡ Some m → GivesMerges k.rows m a.probe → FitsMerges k.rows m a.probe → Opens s i old m new (source.Optional a)
    opens_attempted k side bag fit a prepared u makes e gives fits =
        let p : Solution → Bool = λ (n : Solution). all_hold (map expr_of a.conditions.list.items) (take s.width n) in
        let merged : SameBag (row_solutions (known_of s) new a.probe) (merges side x) =
        chain _ _ _ (same _ _ (gives (known_of s) new t fit n_fits ∙ ap (merges (row_solutions (known_of s) new k.rows)) x_same)) (merges_same _ _ x bag) in
        opens_rows (source.Optional a) (attempted s new a) u refl
        (chain _ _ _
        (same _ _ (ap (λ (o : Option Cells). or_else (known_of s) new o (filter p (row_solutions (known_of s) new a.probe))) e ∙ else_alone (filter p (row_solutions (known_of s) new a.probe))))
        (chain _ _ _ (alone_same x _ _ (filter_same p _ _ merged)) (same _ _ (sym makes))))
        (record { rows = fits (known_of s) new fit n_fits; alone = subst (λ (o : Option Cells). FitsOption (known_of s) new o) (sym e) n_fits; prepared = prepared })

    pub opens_fed : (feed : Feed) (k : KeptRows) → IsFed s i.stage feed → SameBag (row_solutions (known_of s) new k.rows) (fed_rows s.width (through_in s feed.group.now.stages) x) → FitRows (known_of s) new k.rows
        → (a : Attempt) → Attempts k feed.conditions m a → Opens s i old m new (source.Optional a)
    opens_fed feed k is bag fit a tries =
        let e : i.stage ≡ stage.Fed feed.group.now (map expr_of a.conditions.list.items) = rw tries.tests is.is in
        let p : AllByRecursion (IsPreparedFor (known_of s)) a.conditions.list.items = rw tries.tests is.prepared in
        opens_attempted k (fed_rows s.width (through_in s feed.group.now.stages) x) bag fit a p (fed_is_not i.stage feed.group.now (map expr_of a.conditions.list.items) e)
        (ap (λ (q : Stage). gives_in s q x) e ∙ gives_fed s.width s.content.quads (graph_in s) x feed.group.now (map expr_of a.conditions.list.items))
        tries.alone tries.gives tries.fits

    -- the group of an OPTIONAL is fed the row, by a table that may have grown before
    pub opens_alike : (mid : List Term) → Grows (known_of s) old mid → (before right : Right) (is_alike : Bool) (conditions tests : Conditions) (k : KeptRows)
        → right.group.now ≡ before.group.now → tests ≡ conditions → IsOptional s old i.stage before is_alike conditions.list.items → is_alike ≡ true → s.width ≤ length m
        → SameBag (row_solutions (known_of s) new k.rows) (fed_rows s.width (through_in s right.group.now.stages) (row_solution (known_of s) mid m)) → FitRows (known_of s) new k.rows
        → (a : Attempt) → Attempts k tests m a → Opens s i old m new (source.Optional a)
    opens_alike mid grew before right is_alike conditions tests k f c is e wide bag fit a tries =
        let like : IsAlike s.width before.register before.group.now.stages = is.alike e in
        let cs : List Expr = map expr_of a.conditions.list.items in
        let u : a.conditions ≡ conditions = tries.tests ∙ c in
        let o : i.stage ≡ stage.Optional before.register before.group.now cs = subst (λ (y : Conditions). i.stage ≡ stage.Optional before.register before.group.now (map expr_of y.list.items)) (sym u) is.is in
        let z : i.stage ≡ stage.Optional None before.group.now cs = rw like.0 at o in
        let p : AllByRecursion (IsPreparedFor (known_of s)) a.conditions.list.items = subst (λ (y : Conditions). AllByRecursion (IsPreparedFor (known_of s)) y.list.items) (sym u) is.prepared in
        let holds : Solution → Bool = λ (n : Solution). all_hold cs (take s.width n) in
        let b : SameBag (row_solutions (known_of s) new k.rows) (fed_rows s.width (through_in s before.group.now.stages) x) =
        subst (λ (y : Solution). SameBag (row_solutions (known_of s) new k.rows) (fed_rows s.width (through_in s before.group.now.stages) y)) (same_row (known_of s) old mid grew m h) (rw f at bag) in
        opens_attempted k (fed_rows s.width (through_in s before.group.now.stages) x) b fit a p (optional_is_not i.stage None before.group.now cs z)
        (ap (λ (q : Stage). gives_in s q x) z
        ∙ (gives_optional s.width s.content.quads (graph_in s) x None before.group.now cs
        ∙ ap (λ l. or_alone x (filter holds l)) (like.1.same s.content.quads (graph_in s) x (omega (arith, wide, row_length (known_of s) old m)))))
        tries.alone tries.gives tries.fits

    module _ (right : Right) (k : KeptRows) (z : Serves right m k) (r : IsRight s new right) where
      abbrev side : List Solution
      side = aside s.width right.register (through_in s right.group.now.stages) x

      served : SameBag (row_solutions (known_of s) new k.rows) side
      served = subst (λ (y : Solution). SameBag (row_solutions (known_of s) new k.rows) (aside s.width right.register (through_in s right.group.now.stages) y)) x_same (serves s new right m k n_fits z r)

      served_fit : FitRows (known_of s) new k.rows
      served_fit = serves_fit s new right m k n_fits z r

      merged_same : (merged : List Cells) → GivesMerges k.rows m merged → SameBag (row_solutions (known_of s) new merged) (merges side x)
      merged_same merged gives =
          chain _ _ _ (same _ _ (gives (known_of s) new t served_fit n_fits ∙ ap (merges (row_solutions (known_of s) new k.rows)) x_same)) (merges_same _ _ x served)

      pub opens_apart : (merged : List Cells) → i.stage ≡ stage.Apart right.register right.group.now → GivesMerges k.rows m merged → FitsMerges k.rows m merged → Opens s i old m new (source.Probe merged)
      opens_apart merged is gives fits =
          opens_rows (source.Probe merged) (row_solutions (known_of s) new merged) (apart_is_not i.stage right.register right.group.now is) refl
          (chain _ _ _ (merged_same merged gives) (same _ _ (sym (ap (λ (q : Stage). gives_in s q x) is ∙ gives_apart s.width s.content.quads (graph_in s) x right.register right.group.now))))
          (fits (known_of s) new served_fit n_fits)

      pub opens_optional : (is_alike : Bool) (a : Attempt) → IsOptional s new i.stage right is_alike a.conditions.list.items → a.alone ≡ Some m → GivesMerges k.rows m a.probe → FitsMerges k.rows m a.probe → Opens s i old m new (source.Optional a)
      opens_optional is_alike a is e gives fits =
          let conditions : List Expr = map expr_of a.conditions.list.items in
          opens_attempted k side served served_fit a is.prepared (optional_is_not i.stage right.register right.group.now conditions is.is)
          (ap (λ (q : Stage). gives_in s q x) is.is ∙ gives_optional s.width s.content.quads (graph_in s) x right.register right.group.now conditions)
          e gives fits

      given_if : (b : Bool) (o : Option Cells) → o ≡ (if b then Some m else None) → row_if (known_of s) new o ≡ kept_if b x
      given_if true o e = ap (row_if (known_of s) new) e ∙ ap (λ y. y ∷ []) x_same
      given_if false o e = ap (row_if (known_of s) new) e

      given_fits : (b : Bool) (o : Option Cells) → o ≡ (if b then Some m else None) → FitsOption (known_of s) new o
      given_fits true o e = subst (λ (u : Option Cells). FitsOption (known_of s) new u) (sym e) n_fits
      given_fits false o e = subst (λ (u : Option Cells). FitsOption (known_of s) new u) (sym e) tt

      pub opens_minus : (b : Bool) (o : Option Cells) → i.stage ≡ stage.Minus right.register right.group.now → TellsExcluded k.rows s.width m b → o ≡ (if not b then Some m else None) → Opens s i old m new (source.Given o)
      opens_minus b o is tells e =
          let c : b ≡ list_any (excludes (take s.width x)) side =
          tells (known_of s) new t served_fit n_fits
          ∙ (ap (λ (y : Solution). list_any (excludes (take s.width y)) (row_solutions (known_of s) new k.rows)) x_same ∙ list_any-IsPermutation (excludes (take s.width x)) _ _ served) in
          opens_rows (source.Given o) (row_if (known_of s) new o) (minus_is_not i.stage right.register right.group.now is) refl
          (same _ _ (given_if (not b) o e
          ∙ (ap (λ (d : Bool). kept_if (not d) x) c
          ∙ sym (ap (λ (q : Stage). gives_in s q x) is ∙ gives_minus s.width s.content.quads (graph_in s) x right.register right.group.now))))
          (given_fits (not b) o e)

  -- ---- unions
  pub opens_union : (f : Branching) → IsFork i f.starts.list.items → f.row ≡ m → f.at ≡ 0 → new ≡ old → FitsRow (known_of s) old m → Opens s i old m new (source.Fork f)
  opens_union f is e z n h = record {
    items = rw is.is (same _ _ (ap (λ (k : ℕ). map (λ (start : ℕ). (start, row_solution (known_of s) new f.row)) (drop k f.starts.list.items)) z
        ∙ (ap (λ (starts : List ℕ). map (λ (start : ℕ). (start, row_solution (known_of s) new f.row)) starts) is.same
        ∙ ap (λ (y : Solution). map (λ (start : ℕ). (start, y)) i.starts) (ap (row_solution (known_of s) new) e ∙ ap (λ (u : List Term). row_solution (known_of s) u m) n))));
    fits = rw (e, n) h;
  }

  -- ---- names and paths
  pub opens_names : (rows : List Cells) (r : ℕ) → i.stage ≡ stage.Names r → Makes (known_of s) (each_named s.content.quads r) m rows → new ≡ old → IsTable (known_of s) old → FitsRow (known_of s) old m → Opens s i old m new (source.Names rows)
  opens_names rows r is makes e t h =
      let a : AreMade (known_of s) old (each_named s.content.quads r) m rows = makes old t h in
      opens_rows (source.Names rows) (row_solutions (known_of s) new rows) (names_is_not i.stage r is) refl
      (rw e (chain _ _ _ a.same (same _ _ (sym (ap (λ (q : Stage). gives_in s q x) is ∙ gives_names s.width s.content.quads (graph_in s) x r)))))
      (rw e a.fit)

  pub opens_path : (rows : List Cells) (t : Trail) (pairs : List (Cell × Cell)) (place : Look) → i.stage ≡ stage.Path place t.pattern.now → t.look ≡ prepared_look (known_of s) place
      → ArePairsFor s new t m pairs
      → ((known table : List Term) (graph : Graph) → IsTable known table → FitsRow known table m → Serve known table t.pattern.now graph (row_ends t.pattern.now m) pairs → AreMade known table (path_extensions t.pattern.now graph) m rows)
      → IsTable (known_of s) new → IsTable (known_of s) old → Grows (known_of s) old new → FitsRow (known_of s) old m → Opens s i old m new (source.Path rows)
  opens_path rows t pairs place is looks p makes tn to g h =
      let n : FitsRow (known_of s) new m = still_row (known_of s) old new g m h in
      let y : row_solution (known_of s) new m ≡ x = same_row (known_of s) old new g m h in
      let a : AreMade (known_of s) new (path_extensions t.pattern.now (active_graph s.content s.default p.graph)) m rows = makes (known_of s) new (active_graph s.content s.default p.graph) tn n p.serve in
      let b : active_graph s.content s.default p.graph ≡ looked s.content.quads (graph_in s) place x = p.looks place old looks to h in
      opens_rows (source.Path rows) (row_solutions (known_of s) new rows) (path_is_not i.stage place t.pattern.now is) refl
      (chain _ _ _ a.same (same _ _
      (ap (path_extensions t.pattern.now (active_graph s.content s.default p.graph)) y
      ∙ (ap (λ (graph : Graph). path_extensions t.pattern.now graph x) b
      ∙ sym (ap (λ (q : Stage). gives_in s q x) is ∙ gives_path s.width s.content.quads (graph_in s) x place t.pattern.now)))))
      a.fit

-- A table is a scan.
use Rattle.std.proofs.Common.{◌≡◌, ℕ, ◌≤◌, ◌==◌, false, List, [], ◌∷◌, length, Option, Some, None, refl, sym, subst, arith}
use Rattle.std.specs.List.{AllByRecursion, list_any}
use Rattle.qs_terms.specs.Statement.{Statement}
use Rattle.qs_algebra_solutions.specs.Solution.{Solution}
use Rattle.qs_algebra_patterns.specs.Basic.{Graph}
use Rattle.qs_algebra_patterns.specs.inner.Eval.{rows_of}
use Rattle.qs_algebra_patterns.specs.declared.table.Table.{Table}
use Rattle.qs_plan_meaning.specs.declared.stage.Stage.{Stage}
use Rattle.qs_plan_meaning.specs.declared.stage.Stage.TheVariants as stage
use Rattle.qs_plan_meaning.specs.inner.Stages.{gives}
use Rattle.qs_plan.specs.inner.Sames.{held, Stays, IsScan, MissesAll}
use Rattle.qs_plan.proofs.Commutes.{all_map}
use Rattle.qs_plan.proofs.Leaving.{values_leave}
use Rattle.qs_plan.proofs.Levels.{gives_values}
use Rattle.qs_plan.proofs.Widths.{IsWide, all_of, merges_width, table_width}

all_stay : (r : Option ℕ) (m : Solution) (xs : List Solution) → AllByRecursion (λ q. length q ≡ length m) xs → AllByRecursion (λ q. held r q ≡ held r m) xs → AllByRecursion (Stays r m) xs
all_stay r m [] h k = tt
all_stay r m (x ∷ xs) h k = (record { wide = h.0; holds = k.0 }, all_stay r m xs h.1 k.1)

module _ (width : ℕ) (quads : List Statement) (active : Graph) (table : Table) (m : Solution) where
  rows_wide : width ≤ length m → AllByRecursion (λ q. length q ≡ length m) (gives width quads active (stage.Values table) m)
  rows_wide w =
      subst (AllByRecursion (λ (q : Solution). length q ≡ length m)) (sym (gives_values width quads active m table))
      (merges_width (length m) (rows_of width table) m refl (all_map (IsWide width) (λ x. length x ≤ length m) (λ x e. omega (arith, e, w)) (rows_of width table) (table_width width table)))

  rows_hold : (r : Option ℕ) → MissesAll r table.variables → AllByRecursion (λ q. held r q ≡ held r m) (gives width quads active (stage.Values table) m)
  rows_hold None h = all_of (λ (q : Solution). held None q ≡ held None m) (λ q. refl) (gives width quads active (stage.Values table) m)
  rows_hold (Some r) h = (values_leave r (stage.Values table) table refl h).same width quads active m

-- a table without the register among its columns
pub table_is_scan : (r : Option ℕ) (s : Stage) (table : Table) → s ≡ stage.Values table → MissesAll r table.variables → IsScan r s
table_is_scan r s table is h = subst (IsScan r) (sym is) (record {
  rows = λ width quads active o n. rows_of width table;
  gives_rows = λ width quads active m w. gives_values width quads active m table;
  stays = λ width quads active m w. all_stay r m (gives width quads active (stage.Values table) m) (rows_wide width quads active table m w) (rows_hold width quads active table m r h);
})

-- where there is a register
pub misses_some : (r : Option ℕ) (v : ℕ) (vs : List ℕ) → r ≡ Some v → list_any (λ w. w == v) vs ≡ false → MissesAll r vs
misses_some r v vs e h = subst (λ (o : Option ℕ). MissesAll o vs) (sym e) h

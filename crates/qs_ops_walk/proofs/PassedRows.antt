-- Rows of the last level that are passed over.
use Rattle.std.proofs.Common.{◌≡◌, ◌⊎◌, inl, inr, ℕ, ◌-◌, ◌<◌, List, [], ◌∷◌, ◌++◌, length, map, take, get_or, Some, refl, sym, ◌∙◌, ap, subst, append_assoc}
use Rattle.std.proofs.Math.ListN.{set}
use Rattle.std.specs.List.{AllByRecursion}
use Rattle.std.proofs.lemmas.Grind.{flat_map-append}
use Rattle.std.proofs.lemmas.List.{map-append}
use Rattle.std.proofs.lemmas.List.Sorted.{IsPermutation-refl, IsPermutation-append_left, IsPermutation-append_right, IsPermutation-trans}
use Rattle.qs_terms.specs.Bag.{SameBag}
use Rattle.qs_terms.specs.declared.term.Term.{Term}
use Rattle.qs_algebra_solutions.specs.Solution.{Solution}
use Rattle.qs_expr.specs.declared.cell.Cell.{Cell}
use Rattle.qs_expr.specs.inner.Cell.{Cells, cell_at, row_solution, FitsRow}
use Rattle.qs_plan.proofs.Widths.{all_append}
use Rattle.qs_ops_program.specs.inner.Flow.{flow}
use Rattle.qs_ops_scans.specs.inner.Skipped.{SharesCellAt, ShareCells, SkipsRows}
use Rattle.qs_ops_tables.specs.inner.Tables.{FitRows, row_solutions}
use Rattle.qs_ops_walk.specs.declared.source.Level.{Level}
use Rattle.qs_ops_walk.specs.declared.source.Source.{Source}
use Rattle.qs_ops_walk.specs.declared.source.Source.TheVariants as source
use Rattle.qs_ops_walk.specs.declared.work.Place.{Place}
use Rattle.qs_ops_walk.specs.inner.Setting.{Setting, known_of, gives_in}
use Rattle.qs_ops_walk.specs.inner.Works.{code_of}
use Rattle.qs_ops_walk.specs.inner.Coming.{Going, going, level_items, flows, coming}
use Rattle.qs_ops_walk.specs.inner.Moves.{IsWalk}
use Rattle.qs_ops_walk.specs.inner.Alike.{HasCell, SharesCell, KeepsAll, SharesTerms, ArePassed, PassesLast, PassesTriples, SkipsAlike}
use Rattle.qs_ops_walk.proofs.AlikeRows.{all_weaker, kept_code, level_passed}
use Rattle.qs_ops_walk.proofs.Steps.{changed, level_fits, mid_fit, whole}
use Rattle.qs_ops_walk.proofs.Walks.{coming_at}

abbrev of_triples : ℕ → List Cells → Level
of_triples next rows = record { next = next; source = source.Triple rows }

-- ---- the last level, and what stands in its place

pub passes_last : (old : List Level) (n : ℕ) → n ≡ length old → 0 < n → (l : Level) → l ≡ get_or old (n - 1) l → (columns : List ℕ) (m : Cells) (rows left : List Cells) → l.source ≡ source.Triple rows → SkipsRows columns m rows left
    → PassesLast columns m old (set old (n - 1) (of_triples l.next left))
passes_last old n len some l e columns m rows left is h = inr (record {
  others = take (n - 1) old;
  next = l.next;
  rows = rows;
  left = left;
  before = whole old n len some l e ∙ ap (λ (x : Source). let k : Level = record { next = l.next; source = x } in take (n - 1) old ++ k ∷ []) is;
  after = changed old n len some (of_triples l.next left);
  skips = h;
})

-- ---- cells of all rows that are passed over

module _ (m : Cells) where
  one_has : (v : ℕ) (c : Cell) (r : Cells) → cell_at m v ≡ Some c → SharesCellAt (cell_at m v) (cell_at r v) → HasCell v c r
  one_has v c r is h = h.second ∙ (sym h.first ∙ is)

  column_shared : (width v : ℕ) (p : Cells) (ps : List Cells) → v < width → AllByRecursion (λ (r : Cells). SharesCellAt (cell_at m v) (cell_at r v)) (p ∷ ps) → SharesCell width m (source.Triple (p ∷ ps)) v
  column_shared width v p ps lt h = record {
    named = lt;
    cell = h.0.cell;
    is = h.0.first;
    common = all_weaker (λ (r : Cells). SharesCellAt (cell_at m v) (cell_at r v)) (HasCell v h.0.cell) (λ r k. one_has v h.0.cell r h.0.first k) (p ∷ ps) h;
  }

  columns_shared : (width : ℕ) (columns : List ℕ) (p : Cells) (ps : List Cells) → AllByRecursion (λ v. v < width) columns → AllByRecursion (ShareCells columns m) (p ∷ ps) → AllByRecursion (SharesCell width m (source.Triple (p ∷ ps))) columns
  columns_shared width [] p ps lt h = tt
  columns_shared width (v ∷ columns) p ps lt h = (
    column_shared width v p ps lt.0 (all_weaker (ShareCells (v ∷ columns) m) (λ (r : Cells). SharesCellAt (cell_at m v) (cell_at r v)) (λ r k. k.0) (p ∷ ps) h),
    columns_shared width columns p ps lt.1 (all_weaker (ShareCells (v ∷ columns) m) (ShareCells columns m) (λ r k. k.1) (p ∷ ps) h),
  )

-- ---- what comes of them

abbrev KeptIn : List ℕ → List Place → Type 0
KeptIn columns ps = AllByRecursion (λ (p : Place). KeepsAll columns p.instr.stage) ps

module _ (s : Setting) (table : List Term) (ps : List Place) (columns : List ℕ) (m : Cells) (fits : FitsRow (known_of s) table m) (kept : KeptIn columns ps) (lt : AllByRecursion (λ v. v < s.width) columns) where
  abbrev comes : ℕ → List Cells → List Solution
  comes next rows = flows s (code_of ps) (level_items s table (of_triples next rows))

  abbrev Shared : List Solution → Type 0
  Shared xs = AllByRecursion (SharesTerms s.width columns (row_solution (known_of s) table m)) xs

  module _ (old : List Level) (w : IsWalk s table ps old) where
    passed_share : (next : ℕ) (rows : List Cells) → AllByRecursion (ShareCells columns m) rows → Shared (comes next rows)
    passed_share next [] h = tt
    passed_share next (p ∷ rows) h =
        level_passed s table columns m fits (code_of ps) w.forward (of_triples next (p ∷ rows)) (kept_code columns ps kept) (inr (columns_shared m s.width columns p rows lt h))

    items_parted : (next : ℕ) (rows left : List Cells) → level_items s table (of_triples next (rows ++ left)) ≡ level_items s table (of_triples next rows) ++ level_items s table (of_triples next left)
    items_parted next rows left =
        ap (λ (xs : List Solution). going next xs) (map-append (row_solution (known_of s) table) rows left)
        ∙ map-append (λ (x : Solution). let g : Going = (next, x) in g) (row_solutions (known_of s) table rows) (row_solutions (known_of s) table left)

    comes_parted : (next : ℕ) (rows left : List Cells) → comes next (rows ++ left) ≡ comes next rows ++ comes next left
    comes_parted next rows left =
        ap (flows s (code_of ps)) (items_parted next rows left)
        ∙ flat_map-append (λ (x : Going). flow (gives_in s) (code_of ps) x.0 x.1) (level_items s table (of_triples next rows)) (level_items s table (of_triples next left))

    module _ (now : List Level) (h : PassesTriples columns m old now) where
      behind : (xs ys : List Cells) → FitRows (known_of s) table (xs ++ ys) → FitRows (known_of s) table ys
      behind [] ys f = f
      behind (x ∷ xs) ys f = behind xs ys f.1

      left_fit : FitRows (known_of s) table h.left
      left_fit =
          let all : FitRows (known_of s) table h.rows = level_fits s table ps old h.others (of_triples h.next h.rows) h.before w in
          behind h.skips.skipped h.left (subst (FitRows (known_of s) table) h.skips.are all)

      walk_left : IsWalk s table ps now
      walk_left = record { forward = w.forward; ready = w.ready; fit = mid_fit s table ps old h.others (of_triples h.next h.rows) h.before w (of_triples h.next h.left) left_fit now h.after }

      bag_left : SameBag (coming s (code_of ps) table old) (comes h.next h.skips.skipped ++ coming s (code_of ps) table now)
      bag_left =
          let code = code_of ps in
          let less : List Solution = coming s code table h.others in
          let gone : List Solution = comes h.next h.skips.skipped in
          let stay : List Solution = comes h.next h.left in
          let was : coming s code table old ≡ comes h.next h.rows ++ less = coming_at s code table old h.others (of_triples h.next h.rows) (level_items s table (of_triples h.next h.rows)) h.before refl in
          let is : coming s code table now ≡ stay ++ less = coming_at s code table now h.others (of_triples h.next h.left) (level_items s table (of_triples h.next h.left)) h.after refl in
          let same : SameBag (comes h.next h.rows) (gone ++ stay) = subst (SameBag (comes h.next h.rows)) (ap (comes h.next) h.skips.are ∙ comes_parted h.next h.skips.skipped h.left) (IsPermutation-refl (comes h.next h.rows)) in
          subst (λ (xs : List Solution). SameBag xs (gone ++ coming s code table now)) (sym was)
          (subst (λ (ys : List Solution). SameBag (comes h.next h.rows ++ less) (gone ++ ys)) (sym is)
          (subst (SameBag (comes h.next h.rows ++ less)) (append_assoc gone stay less) (IsPermutation-append_left less (comes h.next h.rows) (gone ++ stay) same)))

      rows_passed : ArePassed s (code_of ps) table columns m old now
      rows_passed = record { passed = comes h.next h.skips.skipped; bag = bag_left; shared = passed_share h.next h.skips.skipped h.skips.each }

pub none_skipped : (width : ℕ) (ps : List Place) (columns : List ℕ) (m : Cells) (old now : List Level) → now ≡ old → SkipsAlike width ps columns m old now
none_skipped width ps columns m old now e s table same w f =
    subst (λ (ls : List Level). IsWalk s table ps ls × ArePassed s (code_of ps) table columns m old ls) (sym e) (w, record { passed = []; bag = IsPermutation-refl (coming s (code_of ps) table old); shared = tt })

pub last_skips : (width : ℕ) (ps : List Place) (columns : List ℕ) (m : Cells) (old now : List Level) → KeptIn columns ps → AllByRecursion (λ v. v < width) columns → PassesLast columns m old now → SkipsAlike width ps columns m old now
last_skips width ps columns m old now k lt (inl e) s table same w f = none_skipped width ps columns m old now e s table same w f
last_skips width ps columns m old now k lt (inr h) s table same w f =
    let own : AllByRecursion (λ v. v < s.width) columns = subst (λ (n : ℕ). AllByRecursion (λ v. v < n) columns) (sym same) lt in
    (walk_left s table ps columns m f k own old w now h, rows_passed s table ps columns m f k own old w now h)

pub skips_both : (width : ℕ) (ps : List Place) (columns : List ℕ) (m : Cells) (old mid now : List Level) → SkipsAlike width ps columns m old mid → SkipsAlike width ps columns m mid now → SkipsAlike width ps columns m old now
skips_both width ps columns m old mid now a b s table same w f =
    let g = a s table same w f in
    let h = b s table same g.0 f in
    let code = code_of ps in (
      h.0,
      record {
        passed = g.1.passed ++ h.1.passed;
        bag =
            subst (SameBag (coming s code table old)) (sym (append_assoc g.1.passed h.1.passed (coming s code table now)))
            (IsPermutation-trans (coming s code table old) (g.1.passed ++ coming s code table mid) (g.1.passed ++ (h.1.passed ++ coming s code table now)) g.1.bag
            (IsPermutation-append_right g.1.passed (coming s code table mid) (h.1.passed ++ coming s code table now) h.1.bag));
        shared = all_append (SharesTerms s.width columns (row_solution (known_of s) table m)) g.1.passed h.1.passed g.1.shared h.1.shared;
      },
    )

-- The pairs that ascend by one end: outside of the span of a row's cell none agrees with the row.
use Rattle.std.proofs.Common.{◌≡◌, ℕ, zero, suc, ◌<◌, ◌≤◌, Bool, true, false, ltb, leb, ltb-true, leb-false, Option, Some, None, if◌then◌else◌, List, [], ◌∷◌, drop, take, length, slice_index_or, refl, sym, ◌∙◌, ap, subst, arith}
use Rattle.std.specs.List.{cons_option, filter_map}
use Rattle.std.proofs.lemmas.List.Sorted.{IsPermutation-map, IsPermutation-sym, IsPermutation-trans}
use Rattle.std.proofs.lemmas.Option.{none-some}
use Rattle.qs_terms.specs.Bag.{SameBag}
use Rattle.qs_terms.specs.declared.term.Term.{Term}
use Rattle.qs_paths_meaning.specs.Pair.{Pair}
use Rattle.qs_algebra_patterns.specs.Basic.{Graph}
use Rattle.qs_algebra_patterns.specs.declared.pattern.PathPattern.{PathPattern}
use Rattle.qs_expr.specs.declared.cell.Cell.{Cell}
use Rattle.qs_expr.specs.declared.cell.Cell.TheVariants.{Known}
use Rattle.qs_expr.specs.inner.Cell.{Cells, same_cell, FitsRow}
use Rattle.qs_expr.specs.inner.Scratch.{IsTable}
use Rattle.qs_expr.proofs.Finding.{same_cell-Decides}
use Rattle.qs_plan_meaning.specs.inner.Scans.{path_extensions, path_pairs}
use Rattle.qs_ops_scans.specs.inner.Makes.{AreMade}
use Rattle.qs_ops_scans.specs.inner.Paths.{denoted_pair, ArePairs}
use Rattle.qs_ops_scans.specs.declared.ends.Ends.{Ends}
use Rattle.qs_ops_scans.specs.declared.kept.Side.{Side}
use Rattle.qs_ops_scans.specs.declared.kept.Side.TheVariants.{Subject, Object}
use Rattle.qs_ops_scans.specs.declared.kept.Span.{Span}
use Rattle.qs_ops_scans.specs.declared.ends.EndActs.{EndActs}
use Rattle.qs_ops_scans.specs.inner.Ends.{act_made, agrees_cell, binds_end, bound_cell, cell_after, end_acts, ends_of, object_agrees, pair_bound, pair_made, subject_agrees}
use Rattle.qs_ops_scans.specs.inner.Sides.{cell_key, end_at, side_key, IsSpan, IsSpanOf}
use Rattle.qs_ops_scans.proofs.May.{first_false, second_false}
use Rattle.qs_ops_scans.proofs.Pairs.{all_made_are, pairs_made}

-- ---- numbers

pub below_not : (a b : ℕ) → ltb a b ≡ true → a ≡ b → ⊥
below_not a b h e = let f : a < b = ltb-true a b h in omega (arith, f, e)

pub above_not : (a b : ℕ) → leb a b ≡ false → a ≡ b → ⊥
above_not a b h e = let f : b < a = leb-false a b h in omega (arith, f, e)

-- ---- lists

skip_none : (f : Cell × Cell → Option Cells) (xs : List (Cell × Cell)) (n : ℕ) (d : Cell × Cell) → ((k : ℕ) → k < n → k < length xs → f (slice_index_or xs k d) ≡ None) → filter_map f (drop n xs) ≡ filter_map f xs
skip_none f [] zero d h = refl
skip_none f [] (suc n) d h = refl
skip_none f (x ∷ xs) zero d h = refl
skip_none f (x ∷ xs) (suc n) d h =
    skip_none f xs n d (λ k a b. h (suc k) (omega arith) (omega arith)) ∙ sym (ap (λ o. cons_option o (filter_map f xs)) (h 0 (omega arith) (omega arith)))

cut_none : (f : Cell × Cell → Option Cells) (xs : List (Cell × Cell)) (n : ℕ) (d : Cell × Cell) → ((k : ℕ) → n ≤ k → k < length xs → f (slice_index_or xs k d) ≡ None) → filter_map f (take n xs) ≡ filter_map f xs
cut_none f [] zero d h = refl
cut_none f [] (suc n) d h = refl
cut_none f (x ∷ xs) zero d h =
    cut_none f xs zero d (λ k a b. h (suc k) (omega arith) (omega arith)) ∙ sym (ap (λ o. cons_option o (filter_map f xs)) (h 0 (omega arith) (omega arith)))
cut_none f (x ∷ xs) (suc n) d h = ap (cons_option (f x)) (cut_none f xs n d (λ k a b. h (suc k) (omega arith) (omega arith)))

-- an element of the front
taken : (xs : List (Cell × Cell)) (n k : ℕ) (d : Cell × Cell) → k < length (take n xs) → (k < length xs) × (slice_index_or (take n xs) k d ≡ slice_index_or xs k d)
taken [] zero k d h = absurd (omega arith)
taken [] (suc n) k d h = absurd (omega arith)
taken (x ∷ xs) zero k d h = absurd (omega arith)
taken (x ∷ xs) (suc n) zero d h = (omega arith, refl)
taken (x ∷ xs) (suc n) (suc k) d h = let w = taken xs n k d (omega arith) in let l : k < length xs = w.0 in (omega arith, w.1)

-- ---- outside of the span

cells_differ : (c d : Cell) → (cell_key d ≡ cell_key c → ⊥) → (b : Bool) → same_cell c d ≡ b → b ≡ false
cells_differ c d ne false e = refl
cells_differ c d ne true e = absurd (ne (sym (ap cell_key ((same_cell-Decides c d).0 e))))

module _ (m : Cells) (c : Cell) (x : Cell × Cell) where
  subject_fails : (o : Option ℕ) → bound_cell m o ≡ Some c → (cell_key x.0 ≡ cell_key c → ⊥) → subject_agrees o x.0 m ≡ false
  subject_fails None e ne = absurd (none-some c e)
  subject_fails (Some v) e ne = ap (λ z. agrees_cell z x.0) e ∙ cells_differ c x.0 ne (same_cell c x.0) refl

  object_fails : (s o : Option ℕ) → bound_cell m o ≡ Some c → (cell_key x.1 ≡ cell_key c → ⊥) → object_agrees s o x m ≡ false
  object_fails s None e ne = absurd (none-some c e)
  object_fails s (Some v) e ne = ap (λ z. agrees_cell (cell_after z (binds_end m s v) x.0) x.1) e ∙ cells_differ c x.1 ne (same_cell c x.1) refl

  fails : (ends : Ends) (side : Side) → bound_cell m (end_at ends side) ≡ Some c → (side_key side x ≡ cell_key c → ⊥) → pair_made ends m x ≡ None
  fails ends Subject e ne =
      ap (λ b. if b then Some (pair_bound ends m x) else None) (first_false (subject_agrees ends.subject x.0 m) (object_agrees ends.subject ends.object x m) (subject_fails ends.subject e ne))
  fails ends Object e ne =
      ap (λ b. if b then Some (pair_bound ends m x) else None) (second_false (subject_agrees ends.subject x.0 m) (object_agrees ends.subject ends.object x m) (object_fails ends.subject ends.object e ne))

pub span_makes : (ends : Ends) (m : Cells) (cells : List (Cell × Cell)) (side : Side) (c : Cell) (span : Span) → bound_cell m (end_at ends side) ≡ Some c → IsSpanOf side (cell_key c) cells span → IsSpan ends m cells span
span_makes ends m cells side c span e h =
    let d : Cell × Cell = (Known 0, Known 0) in
    skip_none (pair_made ends m) (take span.to cells) span.from d
    (λ k a b. let w = taken cells span.to k d b in ap (pair_made ends m) w.1 ∙ fails m c (slice_index_or cells k d) ends side e (h.before k d a w.0))
    ∙ cut_none (pair_made ends m) cells span.to d (λ k a b. fails m c (slice_index_or cells k d) ends side e (h.past k d a b))

-- ---- rows

pub span_rows : (known table : List Term) → IsTable known table → (p : PathPattern) (m : Cells) → FitsRow known table m → (cells : List (Cell × Cell)) (graph : Graph) (ends : Ends) (acts : EndActs) (span : Span) → ends ≡ ends_of p → acts ≡ end_acts m ends → IsSpan ends m cells span
    → ArePairs known table cells (path_pairs p graph) → AreMade known table (path_extensions p graph) m (filter_map (act_made acts m) (drop span.from (take span.to cells)))
span_rows known table is_table p m f cells graph ends acts span e a h k =
    subst (λ (rows : List Cells). AreMade known table (path_extensions p graph) m rows) (sym (ap (λ z. filter_map (act_made z m) (drop span.from (take span.to cells))) a ∙ (all_made_are ends m (drop span.from (take span.to cells)) ∙ h)))
    (subst (λ (z : Ends). AreMade known table (path_extensions p graph) m (filter_map (pair_made z m) cells)) (sym e) (pairs_made known table is_table p m f cells graph k))

-- in another order they denote the same pairs
pub pairs_moved : (known table : List Term) (cells moved : List (Cell × Cell)) (ps : List Pair) → SameBag cells moved → ArePairs known table cells ps → ArePairs known table moved ps
pairs_moved known table cells moved ps h k = IsPermutation-trans _ _ _ (IsPermutation-sym _ _ (IsPermutation-map (denoted_pair known table) cells moved h)) k

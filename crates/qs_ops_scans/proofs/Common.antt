-- What all rows that a source makes of a row have in common.
use Rattle.std.proofs.Common.{◌≡◌, ℕ, Bool, true, false, List, [], ◌∷◌, map, Option, Some, None, IfSome, if◌then◌else◌, slice_index, slice_set, refl, sym, ap, ◌∙◌}
use Rattle.std.specs.List.{AllByRecursion, cons_option, filter_map}
use Rattle.std.proofs.lemmas.List.{get_or-set_other}
use Rattle.qs_expr.specs.declared.cell.Cell.{Cell}
use Rattle.qs_expr.specs.declared.cell.Cell.TheVariants.{Known}
use Rattle.qs_expr.specs.inner.Cell.{Cells, cell_at}
use Rattle.qs_ops_scans.specs.declared.ends.EndActs.{EndActs}
use Rattle.qs_ops_scans.specs.declared.opened.Acts.{Acts}
use Rattle.qs_ops_scans.specs.inner.Ends.{act_made, acts_agree, acts_bound}
use Rattle.qs_ops_scans.specs.inner.Names.{rows_named}
use Rattle.qs_ops_scans.specs.inner.Opened.{bound, passes, row_made}
use Rattle.qs_ops_scans.specs.inner.Quads.{also_bound, quad_made, quad_passes, quad_bound, triple_in}

-- ---- cells

-- the cell of another variable
pub set_other : (m : Cells) (w v : ℕ) (c : Cell) → (w ≡ v → ⊥) → cell_at (slice_set m w (Some c)) v ≡ cell_at m v
set_other m w v c h = get_or-set_other m w v (Some c) None (λ e. h (sym e))

-- ---- rows that are made one by one

module _ {X : Type 0} (test : X → Bool) (row : X → Cells) (v : ℕ) (c : Cell) (h : (x : X) → cell_at (row x) v ≡ Some c) where
  made_have : (xs : List X) → AllByRecursion (λ (n : Cells). cell_at n v ≡ Some c) (filter_map (λ (x : X). if test x then Some (row x) else None) xs)
  made_have [] = tt
  made_have (x ∷ xs) = at (test x) (filter_map (λ (x : X). if test x then Some (row x) else None) xs) (made_have xs)
    where
      at : (b : Bool) (ns : List Cells) → AllByRecursion (λ (n : Cells). cell_at n v ≡ Some c) ns → AllByRecursion (λ (n : Cells). cell_at n v ≡ Some c) (cons_option (if b then Some (row x) else None) ns)
      at true ns k = (h x, k)
      at false ns k = k

-- all rows have the cell at the variable, if it is one
abbrev pub HaveIf : ℕ → Option Cell → List Cells → Type 0
HaveIf v o rows = IfSome o (λ c. AllByRecursion (λ (n : Cells). cell_at n v ≡ Some c) rows)

module _ (v : ℕ) (m : Cells) where
  pub triples_have : (acts : Acts) (xs : List (List ℕ)) (o : Option Cell) → o ≡ cell_at m v → ((x : List ℕ) (m : Cells) → cell_at (bound acts x m) v ≡ cell_at m v) → HaveIf v o (filter_map (row_made acts m) xs)
  triples_have acts xs None is h = tt
  triples_have acts xs (Some c) is h = made_have (passes acts) (λ x. bound acts x m) v c (λ x. h x m ∙ sym is) xs

  also_left : (o : Option ℕ) (n : ℕ) (m : Cells) → (o ≡ Some v → ⊥) → cell_at (also_bound o n m) v ≡ cell_at m v
  also_left None n m h = refl
  also_left (Some w) n m h = set_other m w v (Known n) (λ e. h (ap Some e))

  pub quads_have : (acts : Acts) (r : ℕ) (also : Option ℕ) (xs : List (List ℕ)) (o : Option Cell) → o ≡ cell_at m v → (r ≡ v → ⊥) → (also ≡ Some v → ⊥) → ((x : List ℕ) (m : Cells) → cell_at (bound acts x m) v ≡ cell_at m v)
      → HaveIf v o (filter_map (quad_made acts r also m) xs)
  quads_have acts r also xs None is other apart h = tt
  quads_have acts r also xs (Some c) is other apart h =
      made_have (quad_passes acts) (quad_bound acts r also m) v c
      (λ x. also_left also (slice_index x 0) (slice_set (bound acts (triple_in x) m) r (Some (Known (slice_index x 0)))) apart ∙ (set_other (bound acts (triple_in x) m) r v (Known (slice_index x 0)) other ∙ (h (triple_in x) m ∙ sym is))) xs

  pub pairs_have : (acts : EndActs) (xs : List (Cell × Cell)) (o : Option Cell) → o ≡ cell_at m v → ((x : Cell × Cell) (m : Cells) → cell_at (acts_bound acts x m) v ≡ cell_at m v) → HaveIf v o (filter_map (act_made acts m) xs)
  pairs_have acts xs None is h = tt
  pairs_have acts xs (Some c) is h = made_have (acts_agree acts) (λ x. acts_bound acts x m) v c (λ x. h x m ∙ sym is) xs

  each_named : (r : ℕ) (c : Cell) (numbers : List ℕ) → cell_at m v ≡ Some c → (r ≡ v → ⊥) → AllByRecursion (λ (n : Cells). cell_at n v ≡ Some c) (rows_named r m numbers)
  each_named r c [] is other = tt
  each_named r c (n ∷ numbers) is other = (set_other m r v (Known n) other ∙ is, each_named r c numbers is other)

  pub names_have : (r : ℕ) (numbers : List ℕ) (o : Option Cell) → o ≡ cell_at m v → (r ≡ v → ⊥) → HaveIf v o (rows_named r m numbers)
  names_have r numbers None is other = tt
  names_have r numbers (Some c) is other = each_named r c numbers (sym is) other

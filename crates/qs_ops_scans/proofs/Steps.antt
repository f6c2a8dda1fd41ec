-- What three numbers make of a row, place by place, is what their triple makes of the row's solution.
use Rattle.std.proofs.Common.{◌≡◌, ℕ, Bool, true, false, ◌==◌, Option, Some, None, if◌then◌else◌, List, slice_index, slice_set, refl, sym, ◌∙◌, ap, subst}
use Rattle.std.specs.Option.{option_map}
use Rattle.qs_terms.specs.declared.term.Term.{Term}
use Rattle.qs_terms.specs.Dataset.{Triple}
use Rattle.qs_terms.specs.Bag.{Distinct}
use Rattle.qs_terms.specs.Term.{same_term}
use Rattle.qs_terms.proofs.SameTerm.{same_term-Decides}
use Rattle.qs_dict.specs.inner.Dict.{number_of, term_at}
use Rattle.qs_dict.proofs.Numbers.{exact_number}
use Rattle.qs_algebra_solutions.specs.Solution.{Solution, term_at as bound_term}
use Rattle.qs_algebra_patterns.specs.declared.pattern.Slot.{Slot}
use Rattle.qs_algebra_patterns.specs.declared.pattern.Slot.TheVariants as slot
use Rattle.qs_algebra_patterns.specs.declared.pattern.TriplePattern.{TriplePattern}
use Rattle.qs_expr.specs.declared.cell.Cell.{Cell}
use Rattle.qs_expr.specs.declared.cell.Cell.TheVariants.{Known}
use Rattle.qs_expr.specs.inner.Cell.{Cells, cell_at, denoted, row_solution, same_cell, FitsRow}
use Rattle.qs_expr.specs.inner.Scratch.{IsTable}
use Rattle.qs_expr.proofs.Finding.{same_cells, some_of, term_there}
use Rattle.qs_expr.proofs.RowTerms.{term_at_row}
use Rattle.qs_expr.proofs.Rows.{bound_fits, bound_terms}
use Rattle.qs_plan_meaning.specs.inner.Scans.{bound_at, bound_slot, bound_triple, then_bound}
use Rattle.qs_ops_scans.specs.declared.pattern.Place.{Place}
use Rattle.qs_ops_scans.specs.declared.pattern.Place.TheVariants as place
use Rattle.qs_ops_scans.specs.declared.pattern.PreparedTriple.{PreparedTriple}
use Rattle.qs_ops_scans.specs.inner.Prepared.{number_place, place_of, prepared_triple}

-- ---- by cells

-- m with the variable, which has this cell or none, bound to d, where that agrees
abbrev pub cell_bound : Option Cell → ℕ → Cell → Cells → Option Cells
cell_bound None v d m = Some (slice_set m v (Some d))
cell_bound (Some c) v d m = if same_cell c d then Some m else None

-- m with the place's variable bound to the number, where that agrees
abbrev pub place_bound : Place → ℕ → Cells → Option Cells
place_bound place.Absent n m = None
place_bound (place.Number j) n m = if j == n then Some m else None
place_bound (place.Variable v) n m = cell_bound (cell_at m v) v (Known n) m

abbrev pub then_cells : Option Cells → (Cells → Option Cells) → Option Cells
then_cells None f = None
then_cells (Some m) f = f m

-- what three numbers make of m
abbrev pub three_bound : PreparedTriple → List ℕ → Cells → Option Cells
three_bound k x m =
    then_cells (place_bound k.subject (slice_index x 0) m)
    (λ a. then_cells (place_bound k.predicate (slice_index x 1) a) (λ b. place_bound k.object (slice_index x 2) b))

-- ---- and by terms

module _ (known table : List Term) (is_table : IsTable known table) where
  abbrev sol : Cells → Solution
  sol m = row_solution known table m

  abbrev Fits : Cells → Type 0
  Fits m = FitsRow known table m

  -- the cells denote the solution, and fit
  pub record Bound (o : Option Cells) (q : Option Solution) : Type 0 where
    pub is : option_map (row_solution known table) o ≡ q
    pub fit : (m : Cells) → o ≡ Some m → FitsRow known table m

  nothing_bound : Bound None None
  nothing_bound = record { is = refl; fit = λ m e. absurd (let f : None ≡ Some m = e in cc) }

  pub this_bound : (m : Cells) → FitsRow known table m → Bound (Some m) (Some (row_solution known table m))
  this_bound m f = record { is = refl; fit = λ n e. subst Fits (let g : Some m ≡ Some n = e in let h : m ≡ n = cc in h) f }

  if_bound : (a b : Bool) (m : Cells) → a ≡ b → Fits m → Bound (if a then Some m else None) (if b then Some (sol m) else None)
  if_bound true true m e f = this_bound m f
  if_bound false false m e f = nothing_bound
  if_bound true false m e f = absurd (let g : true ≡ false = e in cc)
  if_bound false true m e f = absurd (let g : false ≡ true = e in cc)

  -- ---- a variable

  pub variable_bound : (o : Option Cell) (v : ℕ) (k : Cell) (t : Term) (m : Cells) → FitsRow known table m → cell_at m v ≡ o → denoted known table k ≡ Some t → Bound (cell_bound o v k m) (bound_at (bound_term (row_solution known table m) v) v t (row_solution known table m))
  variable_bound None v k t m f e h =
      rw (term_at_row known table m v, e)
      (record {
        is = ap Some (bound_terms known table m v k ∙ ap (slice_set (sol m) v) h);
        fit = λ m' i. subst Fits (let g : Some (slice_set m v (Some k)) ≡ Some m' = i in let j : slice_set m v (Some k) ≡ m' = cc in j) (bound_fits known table m v k f (some_of _ t h));
      })
  variable_bound (Some d) v k t m f e h =
      let x = term_there (denoted known table d) (f.each v d e) in
      rw (term_at_row known table m v, e, x.1)
      (if_bound (same_cell d k) (same_term x.0 t) m (same_cells known table is_table d k x.0 t x.1 h) f)

  -- ---- three

  pub then_at : (o : Option Cells) (q : Option Solution) (f : Cells → Option Cells) (g : Solution → Option Solution) → Bound o q
      → ((m : Cells) → FitsRow known table m → Bound (f m) (g (row_solution known table m))) → Bound (then_cells o f) (then_bound q g)
  then_at None q f g b h = subst (λ (r : Option Solution). Bound None (then_bound r g)) b.is nothing_bound
  then_at (Some m) q f g b h = subst (λ (r : Option Solution). Bound (f m) (then_bound r g)) b.is (h m (b.fit m refl))

  module _ (terms_once : Distinct same_term known) where
    -- ---- a term

    other_term : (o : Option ℕ) (u t : Term) (n : ℕ) → number_of known u ≡ o → o ≡ None → term_at known n ≡ Some t → (b : Bool) → same_term u t ≡ b → b ≡ false
    other_term o u t n e h f true g =
        let x : u ≡ t = (same_term-Decides u t).0 g in
        let k : number_of known u ≡ Some n = (exact_number known u terms_once n).1 (f ∙ ap Some (sym x)) in
        let y : None ≡ Some n = sym h ∙ (sym e ∙ k) in absurd (cc)
    other_term o u t n e h f false g = refl

    number_bound : (o : Option ℕ) (u t : Term) (n : ℕ) (m : Cells) → Fits m → number_of known u ≡ o → term_at known n ≡ Some t → Bound (place_bound (number_place o) n m) (if same_term u t then Some (sol m) else None)
    number_bound None u t n m f e h = rw (other_term None u t n e refl h (same_term u t) refl) nothing_bound
    number_bound (Some j) u t n m f e h =
        if_bound (j == n) (same_term u t) m
        (same_cells known table is_table (Known j) (Known n) u t ((exact_number known u terms_once j).0 e) h) f

    pub slot_bound : (s : Slot) (n : ℕ) (t : Term) (m : Cells) → FitsRow known table m → term_at known n ≡ Some t → Bound (place_bound (place_of known s) n m) (bound_slot s t (row_solution known table m))
    slot_bound (slot.Term u) n t m f h = number_bound (number_of known u) u t n m f refl h
    slot_bound (slot.Variable v) n t m f h = variable_bound (cell_at m v) v (Known n) t m f refl h

    pub triple_bound : (p : TriplePattern) (x : List ℕ) (t : Triple) (m : Cells) → FitsRow known table m
        → term_at known (slice_index x 0) ≡ Some t.subject → term_at known (slice_index x 1) ≡ Some t.predicate → term_at known (slice_index x 2) ≡ Some t.object
        → Bound (three_bound (prepared_triple known p) x m) (bound_triple p t (row_solution known table m))
    triple_bound p x t m f i j k =
        then_at _ _ _ _ (slot_bound p.subject (slice_index x 0) t.subject m f i)
        (λ a fa. then_at _ _ _ _ (slot_bound p.predicate (slice_index x 1) t.predicate a fa j) (λ b fb. slot_bound p.object (slice_index x 2) t.object b fb k))

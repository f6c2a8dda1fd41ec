-- Rows of cells while terms become known: what they denote stays.
use Rattle.std.proofs.Common.{◌≡◌, zero, suc, true, List, [], ◌∷◌, Option, Some, None, map, get_or, refl, ap, sym, ◌∙◌, arith}
use Rattle.std.specs.List.{All}
use Rattle.std.specs.Option.{is_some}
use Rattle.std.proofs.lemmas.List.Elements.{All-head, All-tail}
use Rattle.std.proofs.lemmas.Option.{none-some, slice_get_within}
use Rattle.qs_terms.specs.declared.term.Term.{Term}
use Rattle.qs_store.specs.inner.Store.{IsFront}
use Rattle.qs_store.proofs.Terms.{front_keeps}
use Rattle.qs_expr.specs.declared.cell.Cell.{Cell}
use Rattle.qs_expr.specs.declared.cell.Cell.TheVariants.{Known, Scratch}
use Rattle.qs_expr.specs.inner.Cell.{Cells, denoted, denoted_if, row_solution, FitsCell, FitsRow}
use Rattle.qs_expr.proofs.Finding.{term_there}
use Rattle.qs_expr.proofs.Rows.{fits_first, fits_rest}

module _ (old new table : List Term) (f : IsFront old new) where
  still_denotes : (c : Cell) (t : Term) → denoted old table c ≡ Some t → denoted new table c ≡ Some t
  still_denotes (Known zero) t h = absurd (none-some t h)
  still_denotes (Known (suc p)) t h = let w = slice_get_within old p t h in front_keeps old new f (suc p) (omega (arith, w)) ∙ h
  still_denotes (Scratch k) t h = h

  still_fits : (c : Cell) → FitsCell old table c → FitsCell new table c
  still_fits c h = let p = term_there (denoted old table c) h in ap is_some (still_denotes c p.0 p.1)

  same_denoted : (x : Option Cell) → ((c : Cell) → x ≡ Some c → is_some (denoted old table c) ≡ true) → denoted_if new table x ≡ denoted_if old table x
  same_denoted None h = refl
  same_denoted (Some c) h = let p = term_there (denoted old table c) (h c refl) in still_denotes c p.0 p.1 ∙ sym p.1

  pub same_row : (m : Cells) → FitsRow old table m → row_solution new table m ≡ row_solution old table m
  same_row [] h = refl
  same_row (x ∷ m) h =
      ap (λ t. t ∷ row_solution new table m) (same_denoted x (fits_first old table x m h))
      ∙ ap (λ n. denoted_if old table x ∷ n) (same_row m (fits_rest old table x m h))

  pub still_row : (m : Cells) → FitsRow old table m → FitsRow new table m
  still_row m h = record { each = λ v c e. still_fits c (h.each v c e) }

  pub same_rows : (rows : List Cells) → All (FitsRow old table) rows → map (row_solution new table) rows ≡ map (row_solution old table) rows
  same_rows [] h = refl
  same_rows (m ∷ ms) h =
      ap (λ t. t ∷ map (row_solution new table) ms) (same_row m (All-head (FitsRow old table) m ms h))
      ∙ ap (λ n. row_solution old table m ∷ n) (same_rows ms (All-tail (FitsRow old table) m ms h))

  pub still_rows : (rows : List Cells) → All (FitsRow old table) rows → All (FitsRow new table) rows
  still_rows rows h = λ i d lt. still_row (get_or rows i d) (h i d lt)

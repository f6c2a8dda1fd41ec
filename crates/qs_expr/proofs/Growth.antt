-- Tables that go on: what a cell or a row denotes stays.
use Rattle.std.proofs.Common.{◌≡◌, ℕ, zero, suc, true, List, [], ◌∷◌, ◌++◌, Option, Some, None, slice_get, refl, sym, ◌∙◌, ap, append_assoc, append-nil}
use Rattle.std.specs.Option.{is_some}
use Rattle.std.proofs.lemmas.Option.{none-some}
use Rattle.qs_terms.specs.declared.term.Term.{Term}
use Rattle.qs_expr.specs.declared.cell.Cell.{Cell}
use Rattle.qs_expr.specs.declared.cell.Cell.TheVariants.{Known, Scratch}
use Rattle.qs_expr.specs.inner.Cell.{Cells, denoted, denoted_if, row_solution, FitsCell, FitsRow}
use Rattle.qs_expr.specs.inner.Scratch.{IsTable, Grows}
use Rattle.qs_expr.proofs.Finding.{term_there}
use Rattle.qs_expr.proofs.Rows.{fits_first, fits_rest}

-- what stands in a list stands in a longer one
got_before : (xs ys : List Term) (k : ℕ) (t : Term) → slice_get xs k ≡ Some t → slice_get (xs ++ ys) k ≡ Some t
got_before [] ys k t h = absurd (none-some t h)
got_before (x ∷ xs) ys zero t h = h
got_before (x ∷ xs) ys (suc k) t h = got_before xs ys k t h

module _ (known table : List Term) where
  -- a table goes on to itself
  pub stays : IsTable known table → Grows known table table
  stays h = record { more = []; is = sym (append-nil table); table = h }

  pub goes_on : (mid new : List Term) → Grows known table mid → Grows known mid new → Grows known table new
  goes_on mid new g h = record {
    more = g.more ++ h.more;
    is = h.is ∙ (ap (λ xs. xs ++ h.more) g.is ∙ append_assoc table g.more h.more);
    table = h.table;
  }

  denoted_more : (more : List Term) (c : Cell) (t : Term) → denoted known table c ≡ Some t → denoted known (table ++ more) c ≡ Some t
  denoted_more more (Known n) t h = h
  denoted_more more (Scratch k) t h = got_before table more k t h

  module _ (new : List Term) (g : Grows known table new) where
    pub still_denotes : (c : Cell) (t : Term) → denoted known table c ≡ Some t → denoted known new c ≡ Some t
    still_denotes c t h = ap (λ xs. denoted known xs c) g.is ∙ denoted_more g.more c t h

    pub still_fits : (c : Cell) → FitsCell known table c → FitsCell known new c
    still_fits c h = let p = term_there (denoted known table c) h in ap is_some (still_denotes c p.0 p.1)

    same_denoted : (x : Option Cell) → ((c : Cell) → x ≡ Some c → is_some (denoted known table c) ≡ true) → denoted_if known new x ≡ denoted_if known table x
    same_denoted None h = refl
    same_denoted (Some c) h = let p = term_there (denoted known table c) (h c refl) in still_denotes c p.0 p.1 ∙ sym p.1

    pub same_row : (m : Cells) → FitsRow known table m → row_solution known new m ≡ row_solution known table m
    same_row [] h = refl
    same_row (x ∷ m) h =
        ap (λ t. t ∷ row_solution known new m) (same_denoted x (fits_first known table x m h))
        ∙ ap (λ n. denoted_if known table x ∷ n) (same_row m (fits_rest known table x m h))

    pub still_row : (m : Cells) → FitsRow known table m → FitsRow known new m
    still_row m h = record { each = λ v c e. still_fits c (h.each v c e) }

    pub still_same : (c : Cell) → FitsCell known table c → denoted known new c ≡ denoted known table c
    still_same c h = let p = term_there (denoted known table c) h in still_denotes c p.0 p.1 ∙ sym p.1

-- Each term has one cell, so that cells are equal exactly where their terms are.
use Rattle.std.proofs.Common.{◌≡◌, ◌↔◌, ◌⊎◌, inl, inr, ℕ, zero, suc, ◌<◌, ◌≤◌, Bool, true, false, ◌||◌, List, [], ◌∷◌, ◌++◌, length, Option, Some, None, slice_get, IsTrue, refl, sym, ◌∙◌, ap, arith}
use Rattle.std.specs.Bool.{Decides}
use Rattle.std.specs.Option.{is_some}
use Rattle.std.specs.List.{list_any}
use Rattle.std.proofs.lemmas.Bool.Decides.{Decides-eqb, Decides-like, same_from_decides}
use Rattle.std.proofs.lemmas.Option.{none-some, same_Some}
use Rattle.qs_terms.specs.declared.term.Term.{Term}
use Rattle.qs_terms.specs.Bag.{Distinct}
use Rattle.qs_terms.specs.Term.{same_term}
use Rattle.qs_terms.proofs.SameTerm.{same_term-Decides}
use Rattle.qs_terms.proofs.FirstOnes.{or_second}
use Rattle.qs_dict.specs.inner.Dict.{IsInUse, term_at}
use Rattle.qs_dict.proofs.Numbers.{exact_number}
use Rattle.qs_expr.specs.declared.cell.Cell.{Cell}
use Rattle.qs_expr.specs.declared.cell.Cell.TheVariants.{Known, Scratch}
use Rattle.qs_expr.specs.inner.Cell.{same_cell, denoted, FitsCell}
use Rattle.qs_expr.specs.inner.Scratch.{IsTable}

pub term_there : (x : Option Term) → is_some x ≡ true → (t : Term) × (x ≡ Some t)
term_there None h = let f : false ≡ true = h in cc
term_there (Some t) h = (t, refl)

pub some_of : (x : Option Term) (t : Term) → x ≡ Some t → is_some x ≡ true
some_of x t e = ap is_some e

-- ---- cells

pub same_cell-Decides : (a b : Cell) → Decides (same_cell a b) (a ≡ b)
same_cell-Decides (Known m) (Known n) = Decides-like _ (λ e. ap Known e) (λ e. cc) (Decides-eqb m n)
same_cell-Decides (Known m) (Scratch k) = (λ h. cc, λ h. cc)
same_cell-Decides (Scratch j) (Known n) = (λ h. cc, λ h. cc)
same_cell-Decides (Scratch j) (Scratch k) = Decides-like _ (λ e. ap Scratch e) (λ e. cc) (Decides-eqb j k)

pub cells_equal : (a b : Cell) (r : Bool) → r ≡ same_cell a b → IsTrue r ↔ (a ≡ b)
cells_equal a b r e = let d = same_cell-Decides a b in (λ h. d.0 (sym e ∙ h), λ h. e ∙ d.1 h)

-- CELLS ARE EQUAL EXACTLY WHERE THEIR TERMS ARE
pub same_cells : (known table : List Term) → IsTable known table → (a b : Cell) (x y : Term) → denoted known table a ≡ Some x → denoted known table b ≡ Some y → same_cell a b ≡ same_term x y
same_cells known table h a b x y p q =
    same_from_decides (same_cell a b) (same_term x y) (same_cell-Decides a b)
    (Decides-like (same_term x y) (λ e. h.one a b y (p ∙ ap Some e) q) (λ e. same_Some x y (sym p ∙ (ap (denoted known table) e ∙ q))) (same_term-Decides x y))

-- ---- numbers and places

pub number_used : (known table : List Term) (n : ℕ) → FitsCell known table (Known n) → IsInUse known n
number_used known table zero h = let f : false ≡ true = h in absurd (cc)
number_used known table (suc i) h = (omega arith, within known i h)
  where
    within : (xs : List Term) (k : ℕ) → is_some (slice_get xs k) ≡ true → suc k ≤ length xs
    within [] k e = let f : false ≡ true = e in absurd (cc)
    within (x ∷ xs) zero e = omega arith
    within (x ∷ xs) (suc k) e = omega (arith, within xs k e)

pub place_within : (known table : List Term) (k : ℕ) → FitsCell known table (Scratch k) → k < length table
place_within known [] k h = let f : false ≡ true = h in absurd (cc)
place_within known (x ∷ xs) zero h = omega arith
place_within known (x ∷ xs) (suc k) h = omega (arith, place_within known xs k h)

-- ---- a table of no terms

-- each known term has one number
pub one_number : (known : List Term) → Distinct same_term known → (m n : ℕ) (t : Term) → term_at known m ≡ Some t → term_at known n ≡ Some t → m ≡ n
one_number known d m n t p q = same_Some m n (sym ((exact_number known t d m).1 p) ∙ (exact_number known t d n).1 q)

pub starts : (known : List Term) → Distinct same_term known → IsTable known []
starts known d = record { one = at }
  where
    at : (a b : Cell) (t : Term) → denoted known [] a ≡ Some t → denoted known [] b ≡ Some t → a ≡ b
    at (Known m) (Known n) t p q = ap Known (one_number known d m n t p q)
    at (Known m) (Scratch k) t p q = absurd (none-some t q)
    at (Scratch j) b t p q = absurd (none-some t p)

-- ---- a term that is put into the table

stands : (xs : List Term) (t : Term) (k : ℕ) → slice_get xs k ≡ Some t → list_any (same_term t) xs ≡ true
stands [] t k e = absurd (none-some t e)
stands (x ∷ xs) t zero e = ap (λ b. b || list_any (same_term t) xs) ((same_term-Decides t x).1 (sym (same_Some x t e)))
stands (x ∷ xs) t (suc k) e = or_second (same_term t x) (list_any (same_term t) xs) (stands xs t k e)

pub numbered : (xs : List Term) (t : Term) (n : ℕ) → term_at xs n ≡ Some t → list_any (same_term t) xs ≡ true
numbered xs t zero e = absurd (none-some t e)
numbered xs t (suc k) e = stands xs t k e

no_place : (xs : List Term) (t : Term) → list_any (same_term t) xs ≡ false → (k : ℕ) → slice_get xs k ≡ Some t → ⊥
no_place xs t h k e = let f : true ≡ false = sym (stands xs t k e) ∙ h in cc

no_number : (xs : List Term) (t : Term) → list_any (same_term t) xs ≡ false → (n : ℕ) → term_at xs n ≡ Some t → ⊥
no_number xs t h zero e = none-some t e
no_number xs t h (suc k) e = no_place xs t h k e

-- the last element is the only new one
at_end : (xs : List Term) (t u : Term) (k : ℕ) → slice_get (xs ++ t ∷ []) k ≡ Some u → (slice_get xs k ≡ Some u) ⊎ ((k ≡ length xs) × (t ≡ u))
at_end [] t u zero h = inr (refl, same_Some t u h)
at_end [] t u (suc k) h = inl h
at_end (x ∷ xs) t u zero h = inl h
at_end (x ∷ xs) t u (suc k) h = elim (at_end xs t u k h) [ inl e ↦ inl e | inr e ↦ inr (ap suc e.0, e.1) ]

module _ (known table : List Term) (t : Term) (h : IsTable known table) (unknown : list_any (same_term t) known ≡ false) (new : list_any (same_term t) table ≡ false) where
  pub still_one : IsTable known (table ++ t ∷ [])
  still_one = record { one = at }
    where
      at : (a b : Cell) (u : Term) → denoted known (table ++ t ∷ []) a ≡ Some u → denoted known (table ++ t ∷ []) b ≡ Some u → a ≡ b
      at (Known m) (Known n) u p q = h.one (Known m) (Known n) u p q
      at (Known m) (Scratch k) u p q = elim (at_end table t u k q) [
        | inl e ↦ h.one (Known m) (Scratch k) u p e
        | inr e ↦ absurd (no_number known t unknown m (p ∙ ap Some (sym e.1)))
      ]
      at (Scratch j) (Known n) u p q = elim (at_end table t u j p) [
        | inl e ↦ h.one (Scratch j) (Known n) u e q
        | inr e ↦ absurd (no_number known t unknown n (q ∙ ap Some (sym e.1)))
      ]
      at (Scratch j) (Scratch k) u p q = elim (at_end table t u j p) [
        | inl e ↦ elim (at_end table t u k q) [
          | inl f ↦ h.one (Scratch j) (Scratch k) u e f
          | inr f ↦ absurd (no_place table t new j (e ∙ ap Some (sym f.1)))
        ]
        | inr e ↦ elim (at_end table t u k q) [
          | inl f ↦ absurd (no_place table t new k (f ∙ ap Some (sym e.1)))
          | inr f ↦ ap Scratch (e.0 ∙ sym f.0)
        ]
      ]

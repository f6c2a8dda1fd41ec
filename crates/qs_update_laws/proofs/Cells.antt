-- Terms, solutions and lists of solutions whose blank nodes have numbers below one, through the operators of the algebra and all maps.
use Rattle.std.proofs.Common.{◌≡◌, ℕ, zero, suc, ◌+◌, Bool, true, false, if◌then◌else◌, not, List, [], ◌∷◌, map, take, slice_set, Option, Some, None, refl}
use Rattle.std.specs.List.{AllByRecursion, filter, flat_map, list_any}
use Rattle.qs_terms.specs.Dataset.{is_term_below}
use Rattle.qs_terms.specs.inner.Dataset.{is_graph_below as is_cell_below}
use Rattle.qs_terms.specs.declared.term.Term.{Term}
use Rattle.qs_terms.specs.declared.term.Term.TheVariants as term
use Rattle.qs_algebra_solutions.specs.Solution.{Solution, term_at, unbound, bind_all, compatible, merge}
use Rattle.qs_algebra_solutions.specs.inner.Solution.{first_bound}
use Rattle.qs_algebra_solutions.specs.Operators.{merges, join, or_alone, left_join, excludes, minus}
use Rattle.qs_algebra_patterns.specs.Basic.{all_maps}
use Rattle.qs_update_laws.specs.inner.NoBlank.{is_no_blank, row_has_no_blank}
use Rattle.qs_update_laws.proofs.Lists.{both_hold, each_filter, each_map, each_flat_map}

module _ (next : ℕ) where
  abbrev pub TermBelow : Term → Type 0
  TermBelow t = is_term_below next t ≡ true

  abbrev pub CellBelow : Option Term → Type 0
  CellBelow c = is_cell_below next c ≡ true

  abbrev pub RowBelow : Solution → Type 0
  RowBelow m = AllByRecursion CellBelow m

  abbrev pub RowsBelow : List Solution → Type 0
  RowsBelow ms = AllByRecursion RowBelow ms

  pub no_blank_below : (t : Term) → is_no_blank t ≡ true → TermBelow t
  no_blank_below (term.Iri i) h = refl
  no_blank_below (term.Blank n) h = let f : false ≡ true = h in cc
  no_blank_below (term.Literal l) h = refl

  pub cells_below : (row : List (Option Term)) → row_has_no_blank row ≡ true → RowBelow row
  cells_below [] h = tt
  cells_below (None ∷ row) h = (refl, cells_below row h)
  cells_below (Some t ∷ row) h = let k = both_hold (is_no_blank t) (row_has_no_blank row) h in (no_blank_below t k.0, cells_below row k.1)

  -- ---- solutions

  pub at_below : (m : Solution) (v : ℕ) → RowBelow m → CellBelow (term_at m v)
  at_below [] zero h = refl
  at_below [] (suc v) h = refl
  at_below (c ∷ m) zero h = h.0
  at_below (c ∷ m) (suc v) h = at_below m v h.1

  pub unbound_below : (n : ℕ) → RowBelow (unbound n)
  unbound_below zero = tt
  unbound_below (suc n) = (refl, unbound_below n)

  pub set_below : (m : Solution) (v : ℕ) (c : Option Term) → CellBelow c → RowBelow m → RowBelow (slice_set m v c)
  set_below [] v c h k = tt
  set_below (x ∷ m) zero c h k = (h, k.1)
  set_below (x ∷ m) (suc v) c h k = (k.0, set_below m v c h k.1)

  pub bound_below : (m : Solution) (vs : List ℕ) (terms : List (Option Term)) → RowBelow m → RowBelow terms → RowBelow (bind_all m vs terms)
  bound_below m [] terms h k = h
  bound_below m (v ∷ vs) [] h k = h
  bound_below m (v ∷ vs) (t ∷ terms) h k = bound_below (slice_set m v t) vs terms (set_below m v t k.0 h) k.1

  pub take_below : (n : ℕ) (m : Solution) → RowBelow m → RowBelow (take n m)
  take_below zero m h = tt
  take_below (suc n) [] h = tt
  take_below (suc n) (c ∷ m) h = (h.0, take_below n m h.1)

  first_below : (x y : Option Term) → CellBelow x → CellBelow y → CellBelow (first_bound x y)
  first_below None y h k = k
  first_below (Some x) y h k = h

  merge_below : (a b : Solution) → RowBelow a → RowBelow b → RowBelow (merge a b)
  merge_below [] b h k = k
  merge_below (x ∷ a) [] h k = h
  merge_below (x ∷ a) (y ∷ b) h k = (first_below x y h.0 k.0, merge_below a b h.1 k.1)

  -- ---- operators

  merges_below : (right : List Solution) (a : Solution) → RowsBelow right → RowBelow a → RowsBelow (merges right a)
  merges_below right a k h = each_map RowBelow RowBelow (merge a) (λ b l. merge_below a b h l) (filter (compatible a) right) (each_filter RowBelow (compatible a) right k)

  pub join_below : (left right : List Solution) → RowsBelow left → RowsBelow right → RowsBelow (join left right)
  join_below left right h k = each_flat_map RowBelow RowBelow (merges right) (λ a l. merges_below right a k l) left h

  alone_below : (a : Solution) (ms : List Solution) → RowBelow a → RowsBelow ms → RowsBelow (or_alone a ms)
  alone_below a [] h k = (h, tt)
  alone_below a (m ∷ ms) h k = k

  pub left_join_below : (holds : Solution → Bool) (left right : List Solution) → RowsBelow left → RowsBelow right → RowsBelow (left_join holds left right)
  left_join_below holds left right h k =
      each_flat_map RowBelow RowBelow (λ a. or_alone a (filter holds (merges right a)))
      (λ a l. alone_below a (filter holds (merges right a)) l (each_filter RowBelow holds (merges right a) (merges_below right a k l))) left h

  pub minus_below : (left right : List Solution) → RowsBelow left → RowsBelow (minus left right)
  minus_below left right h = each_filter RowBelow (λ a. not (list_any (excludes a) right)) left h

  -- ---- all maps

  module _ (f : ℕ → Bool) (terms : List Term) (each : AllByRecursion TermBelow terms) where
    one_more : (b : Bool) (ms : List Solution) → RowsBelow ms → RowsBelow (if b then flat_map (λ t. map (λ m. Some t ∷ m) ms) terms else map (λ m. None ∷ m) ms)
    one_more true ms h = each_flat_map TermBelow RowBelow (λ t. map (λ m. Some t ∷ m) ms) (λ t k. each_map RowBelow RowBelow (λ m. Some t ∷ m) (λ m l. (k, l)) ms h) terms each
    one_more false ms h = each_map RowBelow RowBelow (λ m. None ∷ m) (λ m l. (refl, l)) ms h

    pub maps_below : (v n : ℕ) → RowsBelow (all_maps f terms v n)
    maps_below v zero = (tt, tt)
    maps_below v (suc n) = one_more (f v) (all_maps f terms (v + 1) n) (maps_below (v + 1) n)

-- The first of the rows that a scan still makes.
use Rattle.std.proofs.Common.{◌≡◌, ℕ, Bool, true, false, cond, Option, Some, None, if◌then◌else◌, List, [], ◌∷◌, map, drop, refl, sym, ◌∙◌, ap}
use Rattle.std.specs.List.{filter, filter_map}
use Rattle.qs_expr.specs.inner.Cell.{Cells}
use Rattle.qs_ops_scans.specs.declared.opened.Acts.{Acts}
use Rattle.qs_ops_scans.specs.inner.Opened.{bound, passes, row_made}
use Rattle.qs_ops_scans.specs.inner.Quads.{quad_bound, quad_made, quad_passes}

module _ (test : List ℕ → Bool) (row : List ℕ → Cells) where
  abbrev made : List ℕ → Option Cells
  made x = if test x then Some (row x) else None

  pub rows_are : (xs : List (List ℕ)) → filter_map made xs ≡ map row (filter test xs)
  rows_are [] = refl
  rows_are (x ∷ xs) = at (test x) refl (rows_are xs)
    where
      at : (b : Bool) → test x ≡ b → filter_map made xs ≡ map row (filter test xs) → filter_map made (x ∷ xs) ≡ map row (cond b (x ∷ filter test xs) (filter test xs))
      at true e h = rw e (ap (λ l. row x ∷ l) h)
      at false e h = rw e h

  none_left : (xs : List (List ℕ)) → filter test xs ≡ [] → filter_map made xs ≡ []
  none_left xs h = rows_are xs ∙ ap (map row) h

  first_left : (xs ys : List (List ℕ)) (x : List ℕ) → filter test xs ≡ x ∷ filter test ys → filter_map made xs ≡ row x ∷ filter_map made ys
  first_left xs ys x h = rows_are xs ∙ (ap (map row) h ∙ ap (λ l. row x ∷ l) (sym (rows_are ys)))

  others_left : (xs ys : List (List ℕ)) (x : List ℕ) → filter test xs ≡ x ∷ filter test ys → filter_map made ys ≡ drop 1 (filter_map made xs)
  others_left xs ys x h = sym (ap (drop 1) (first_left xs ys x h))

-- ---- triples

pub none_made : (acts : Acts) (m : Cells) (xs : List (List ℕ)) → filter (passes acts) xs ≡ [] → filter_map (row_made acts m) xs ≡ []
none_made acts m = none_left (passes acts) (λ x. bound acts x m)

pub first_made : (acts : Acts) (m : Cells) (xs ys : List (List ℕ)) (x : List ℕ) → filter (passes acts) xs ≡ x ∷ filter (passes acts) ys → filter_map (row_made acts m) xs ≡ bound acts x m ∷ filter_map (row_made acts m) ys
first_made acts m = first_left (passes acts) (λ x. bound acts x m)

pub rest_made : (acts : Acts) (m : Cells) (xs ys : List (List ℕ)) (x : List ℕ) → filter (passes acts) xs ≡ x ∷ filter (passes acts) ys → filter_map (row_made acts m) ys ≡ drop 1 (filter_map (row_made acts m) xs)
rest_made acts m = others_left (passes acts) (λ x. bound acts x m)

-- ---- quads

pub none_of_quads : (acts : Acts) (r : ℕ) (v : Option ℕ) (m : Cells) (xs : List (List ℕ)) → filter (quad_passes acts) xs ≡ [] → filter_map (quad_made acts r v m) xs ≡ []
none_of_quads acts r v m = none_left (quad_passes acts) (quad_bound acts r v m)

pub first_of_quads : (acts : Acts) (r : ℕ) (v : Option ℕ) (m : Cells) (xs ys : List (List ℕ)) (x : List ℕ) → filter (quad_passes acts) xs ≡ x ∷ filter (quad_passes acts) ys → filter_map (quad_made acts r v m) xs ≡ quad_bound acts r v m x ∷ filter_map (quad_made acts r v m) ys
first_of_quads acts r v m = first_left (quad_passes acts) (quad_bound acts r v m)

pub rest_of_quads : (acts : Acts) (r : ℕ) (v : Option ℕ) (m : Cells) (xs ys : List (List ℕ)) (x : List ℕ) → filter (quad_passes acts) xs ≡ x ∷ filter (quad_passes acts) ys → filter_map (quad_made acts r v m) ys ≡ drop 1 (filter_map (quad_made acts r v m) xs)
rest_of_quads acts r v m = others_left (quad_passes acts) (quad_bound acts r v m)

-- Rows that are skipped, by the triples that make them.
use Rattle.std.proofs.Common.{◌≡◌, ◌<◌, ℕ, Bool, true, false, cond, ◌&&◌, List, [], ◌∷◌, ◌++◌, map, length, Option, Some, None, slice_index, slice_set, refl, ap, sym, ◌∙◌, arith}
use Rattle.std.specs.List.{AllByRecursion, filter, filter_map}
use Rattle.std.proofs.lemmas.Bool.{false≢true, eqb-true}
use Rattle.std.proofs.lemmas.List.{get_or-set_same, length-set, map-append}
use Rattle.std.proofs.lemmas.List.Elements.{filter-append}
use Rattle.qs_index.specs.inner.Agreeing.{fits}
use Rattle.qs_index.specs.inner.Skipped.{IsSkipped}
use Rattle.qs_store.specs.inner.Triples.{triple_fits}
use Rattle.qs_expr.specs.declared.cell.Cell.{Cell}
use Rattle.qs_expr.specs.declared.cell.Cell.TheVariants.{Known}
use Rattle.qs_expr.specs.inner.Cell.{Cells, cell_at}
use Rattle.qs_ops_scans.specs.inner.Skipped.{SharesCellAt, ShareCells, SkipsRows}
use Rattle.qs_ops_scans.specs.declared.opened.Act.{Act}
use Rattle.qs_ops_scans.specs.declared.opened.Act.TheVariants.{Pass, Bind, AsSubject, AsPredicate}
use Rattle.qs_ops_scans.specs.declared.opened.Acts.{Acts}
use Rattle.qs_ops_scans.specs.declared.opened.Given.{Given}
use Rattle.qs_ops_scans.specs.inner.Opened.{act_bound, bound, passes, row_made}
use Rattle.qs_ops_scans.specs.inner.Skipped.{IsNumberOf, Tells}
use Rattle.qs_ops_scans.proofs.Firsts.{rows_are}

-- ---- numbers

both_true : (a b : Bool) → (a && b) ≡ true → (a ≡ true) × (b ≡ true)
both_true true b h = (refl, h)
both_true false b h = absurd (false≢true h)

-- the numbers of a triple that has the given ones
record Fitting (s p o : Option ℕ) (x : List ℕ) : Type 0 where
  first : fits s (slice_index x 0) ≡ true
  second : fits p (slice_index x 1) ≡ true
  third : fits o (slice_index x 2) ≡ true

fitting : (s p o : Option ℕ) (x : List ℕ) → triple_fits s p o x ≡ true → Fitting s p o x
fitting s p o [] h = absurd (false≢true h)
fitting s p o (a ∷ []) h = absurd (false≢true h)
fitting s p o (a ∷ b ∷ []) h = absurd (false≢true h)
fitting s p o (a ∷ b ∷ c ∷ d ∷ rest) h = absurd (false≢true h)
fitting s p o (a ∷ b ∷ c ∷ []) h =
    let f = both_true (fits s a && fits p b) (fits o c) h in
    let g = both_true (fits s a) (fits p b) f.0 in
    record { first = g.0; second = g.1; third = f.1 }

number_is : (o : Option ℕ) (n x : ℕ) → o ≡ Some n → fits o x ≡ true → x ≡ n
number_is o n x e h = eqb-true x n (sym (ap (λ (r : Option ℕ). fits r x) e) ∙ h)

-- ---- one variable

act_length : (a : Act) (n : ℕ) (m : Cells) → length (act_bound a n m) ≡ length m
act_length Pass n m = refl
act_length (Bind v) n m = length-set m v (Some (Known n))
act_length AsSubject n m = refl
act_length AsPredicate n m = refl

-- the act leaves the variable as it is
abbrev pub Leaves : Act → ℕ → Type 0
Leaves a v = (n : ℕ) (m : Cells) → cell_at (act_bound a n m) v ≡ cell_at m v

bound_at : (a : Act) (v n k : ℕ) (m : Cells) → a ≡ Bind v → v < length m → n ≡ k → cell_at (act_bound a n m) v ≡ Some (Known k)
bound_at a v n k m e l s =
    ap (λ (b : Act). cell_at (act_bound b n m) v) e ∙ (get_or-set_same m v (Some (Known n)) None l ∙ ap (λ j. Some (Known j)) s)

module _ (acts : Acts) (own : Cells) (given : Given) (row : Cells) (v : ℕ) (l : v < length own) where
  pub object_tells : acts.object ≡ Bind v → IsNumberOf (cell_at row v) given.object → Tells acts own given row v
  object_tells e h x t =
      let f = fitting given.subject given.predicate given.object x t in
      let s = act_length acts.subject (slice_index x 0) own in
      let p = act_length acts.predicate (slice_index x 1) (act_bound acts.subject (slice_index x 0) own) in
      let long : v < length (act_bound acts.predicate (slice_index x 1) (act_bound acts.subject (slice_index x 0) own)) = omega (arith, l, s, p) in
      record {
        cell = Known h.n;
        first = h.known;
        second = bound_at acts.object v (slice_index x 2) h.n (act_bound acts.predicate (slice_index x 1) (act_bound acts.subject (slice_index x 0) own)) e long (number_is given.object h.n (slice_index x 2) h.is f.third);
      }

  pub predicate_tells : Leaves acts.object v → acts.predicate ≡ Bind v → IsNumberOf (cell_at row v) given.predicate → Tells acts own given row v
  predicate_tells o e h x t =
      let f = fitting given.subject given.predicate given.object x t in
      let s = act_length acts.subject (slice_index x 0) own in
      let long : v < length (act_bound acts.subject (slice_index x 0) own) = omega (arith, l, s) in
      record {
        cell = Known h.n;
        first = h.known;
        second =
            o (slice_index x 2) (act_bound acts.predicate (slice_index x 1) (act_bound acts.subject (slice_index x 0) own))
            ∙ bound_at acts.predicate v (slice_index x 1) h.n (act_bound acts.subject (slice_index x 0) own) e long (number_is given.predicate h.n (slice_index x 1) h.is f.second);
      }

  pub subject_tells : Leaves acts.object v → Leaves acts.predicate v → acts.subject ≡ Bind v → IsNumberOf (cell_at row v) given.subject → Tells acts own given row v
  subject_tells o p e h x t =
      let f = fitting given.subject given.predicate given.object x t in
      record {
        cell = Known h.n;
        first = h.known;
        second =
            o (slice_index x 2) (act_bound acts.predicate (slice_index x 1) (act_bound acts.subject (slice_index x 0) own))
            ∙ (p (slice_index x 1) (act_bound acts.subject (slice_index x 0) own)
            ∙ bound_at acts.subject v (slice_index x 0) h.n own e l (number_is given.subject h.n (slice_index x 0) h.is f.first));
      }

  pub own_tells : Leaves acts.object v → Leaves acts.predicate v → Leaves acts.subject v → SharesCellAt (cell_at row v) (cell_at own v) → Tells acts own given row v
  own_tells o p s h x t = record {
    cell = h.cell;
    first = h.first;
    second =
        o (slice_index x 2) (act_bound acts.predicate (slice_index x 1) (act_bound acts.subject (slice_index x 0) own))
        ∙ (p (slice_index x 1) (act_bound acts.subject (slice_index x 0) own) ∙ (s (slice_index x 0) own ∙ h.second));
  }

-- ---- rows

module _ (acts : Acts) (own : Cells) (given : Given) (row : Cells) where
  abbrev Fits : List ℕ → Type 0
  Fits x = triple_fits given.subject given.predicate given.object x ≡ true

  shares_all : (columns : List ℕ) → AllByRecursion (Tells acts own given row) columns → (x : List ℕ) → Fits x → ShareCells columns row (bound acts x own)
  shares_all [] h x t = tt
  shares_all (v ∷ columns) h x t = (h.0 x t, shares_all columns h.1 x t)

  made_share : (columns : List ℕ) → AllByRecursion (Tells acts own given row) columns → (xs : List (List ℕ)) → AllByRecursion Fits xs → AllByRecursion (ShareCells columns row) (map (λ x. bound acts x own) (filter (passes acts) xs))
  made_share columns h [] f = tt
  made_share columns h (x ∷ xs) f = at (passes acts x) (shares_all columns h x f.0) (made_share columns h xs f.1)
    where
      at : (b : Bool) → ShareCells columns row (bound acts x own) → AllByRecursion (ShareCells columns row) (map (λ y. bound acts y own) (filter (passes acts) xs))
          → AllByRecursion (ShareCells columns row) (map (λ y. bound acts y own) (cond b (x ∷ filter (passes acts) xs) (filter (passes acts) xs)))
      at true g i = (g, i)
      at false g i = i

  pub rows_skipped : (columns : List ℕ) (old new : List (List ℕ)) → AllByRecursion (Tells acts own given row) columns → IsSkipped Fits old new → SkipsRows columns row (filter_map (row_made acts own) old) (filter_map (row_made acts own) new)
  rows_skipped columns old new h a =
      let test : List ℕ → Bool = passes acts in
      let make : List ℕ → Cells = λ x. bound acts x own in
      let parted : map make (filter test (a.skipped ++ new)) ≡ map make (filter test a.skipped) ++ filter_map (row_made acts own) new =
      ap (map make) (filter-append test a.skipped new) ∙ (map-append make (filter test a.skipped) (filter test new) ∙ ap (λ r. map make (filter test a.skipped) ++ r) (sym (rows_are test make new))) in
      record {
        skipped = map make (filter test a.skipped);
        are = rows_are test make old ∙ (ap (λ r. map make (filter test r)) a.are ∙ parted);
        each = made_share columns h a.skipped a.each;
      }

pub none_skipped : (columns : List ℕ) (row : Cells) (old new : List Cells) → old ≡ new → SkipsRows columns row old new
none_skipped columns row old new e = record { skipped = []; are = e; each = tt }

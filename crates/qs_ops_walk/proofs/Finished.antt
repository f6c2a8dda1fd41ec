-- A finished row, as the last level gives it.
use Rattle.std.proofs.Common.{◌≡◌, ℕ, ◌-◌, ◌<◌, List, [], ◌∷◌, ◌++◌, length, get_or, take, refl, sym, ◌∙◌, ap, Option, None, Some, arith}
use Rattle.std.proofs.Math.ListN.{set}
use Rattle.std.specs.Iterator.{YieldsFirst}
use Rattle.qs_terms.specs.declared.term.Term.{Term}
use Rattle.qs_expr.specs.inner.Cell.{Cells}
use Rattle.qs_expr.specs.inner.Scratch.{IsTable}
use Rattle.qs_expr.proofs.Growth.{stays}
use Rattle.qs_ops_tables.specs.inner.Tables.{FitRows}
use Rattle.qs_ops_walk.specs.declared.source.Item.{Item}
use Rattle.qs_ops_walk.specs.declared.source.Level.{Level}
use Rattle.qs_ops_walk.specs.declared.source.Source.{Source}
use Rattle.qs_ops_walk.specs.declared.source.Source.TheVariants as source
use Rattle.qs_ops_walk.specs.declared.work.Place.{Place}
use Rattle.qs_ops_walk.specs.inner.Setting.{Setting, known_of}
use Rattle.qs_ops_walk.specs.inner.Works.{code_of}
use Rattle.qs_ops_walk.specs.inner.Moves.{Finishes, Goes, GivesRow, IsWalk, TakesFinished}
use Rattle.qs_ops_walk.proofs.Steps.{whole, changed, level_fits, mid_fit, settled_walk}
use Rattle.qs_ops_walk.proofs.Walks.{gave}

abbrev pub finished_level : List Cells → Level
finished_level rows = record { next = 0; source = source.Triple rows }

level_is : (l : Level) (xs : List Cells) → l.next ≡ 0 → l.source ≡ source.Triple xs → l ≡ finished_level xs
level_is l xs a b = ap (λ (n : ℕ). let k : Level = record { next = n; source = l.source } in k) a ∙ ap (λ (x : Source). let k : Level = record { next = 0; source = x } in k) b

-- ---- the last of the levels, and what stands in its place
module _ (old : List Level) (n : ℕ) (len : n ≡ length old) (some : 0 < n) (l : Level) (e : l ≡ get_or old (n - 1) l) where
  last_is : (x y : Level) → x ≡ y → take (n - 1) old ++ x ∷ [] ≡ take (n - 1) old ++ y ∷ []
  last_is x y a = ap (λ (z : Level). take (n - 1) old ++ z ∷ []) a

  module _ (k : Level) (xs ys : List Cells) (a : l ≡ finished_level xs) (b : k ≡ finished_level ys) where
    -- its first row is taken
    taken : (m : Cells) → xs ≡ m ∷ ys → TakesFinished old m (set old (n - 1) k)
    taken m h = record {
      levels = take (n - 1) old;
      rows = ys;
      before = whole old n len some l e ∙ last_is l (finished_level (m ∷ ys)) (a ∙ ap finished_level h);
      after = changed old n len some k ∙ last_is k (finished_level ys) b;
    }

    -- nothing is taken
    stayed : xs ≡ ys → set old (n - 1) k ≡ old
    stayed h = changed old n len some k ∙ (last_is k l (b ∙ (ap finished_level (sym h) ∙ sym a)) ∙ sym (whole old n len some l e))

    pub finishes : (o : Option Cells) → YieldsFirst (λ (rows : List Cells). rows) xs o ys → Finishes old o (set old (n - 1) k)
    finishes None h = stayed (h.0 ∙ sym h.1)
    finishes (Some m) h = taken m h

  pub finished_next : (o : Option Cells) (xs ys : List Cells) → l.next ≡ 0 → l.source ≡ source.Triple xs → YieldsFirst (λ (rows : List Cells). rows) xs o ys
      → Finishes old o (set old (n - 1) (record { next = l.next; source = source.Triple ys }))
  finished_next o xs ys a b h =
      let k : Level = record { next = l.next; source = source.Triple ys } in
      finishes k xs ys (level_is l xs a b) (level_is k ys a refl) o h

-- ---- the walk goes on
module _ (s : Setting) (table : List Term) (t : IsTable (known_of s) table) (ps : List Place) (old now : List Level) (m : Cells) (w : IsWalk s table ps old) (h : TakesFinished old m now) where
  rows_fit : FitRows (known_of s) table (m ∷ h.rows)
  rows_fit = level_fits s table ps old h.levels (finished_level (m ∷ h.rows)) h.before w

  pub finished_walk : IsWalk s table ps now
  finished_walk = settled_walk s table ps old h.levels (finished_level (m ∷ h.rows)) h.before w (finished_level h.rows) rows_fit.1 now h.after table (stays (known_of s) table t)

  goes : Goes s (code_of ps) 0 table m 0 table m
  goes = record { rows = refl; toil = omega arith; fits = rows_fit.0 }

  pub finished_gives : GivesRow s (code_of ps) table old (Some m) table now
  finished_gives =
      let i : Item = record { next = 0; row = m } in
      gave s (code_of ps) table old h.levels (finished_level (m ∷ h.rows)) h.before i (finished_level h.rows) refl now h.after table (stays (known_of s) table t)
      (mid_fit s table ps old h.levels (finished_level (m ∷ h.rows)) h.before w (finished_level h.rows) rows_fit.1 now h.after) m goes

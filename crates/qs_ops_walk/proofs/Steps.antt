-- The moves of a walk, with what it keeps.
use Rattle.std.proofs.Common.{◌≡◌, ℕ, zero, suc, ◌-◌, ◌<◌, List, [], ◌∷◌, ◌++◌, length, get_or, take, refl, sym, ◌∙◌, ap, subst, arith}
use Rattle.std.proofs.Math.ListN.{set}
use Rattle.qs_terms.specs.declared.term.Term.{Term}
use Rattle.qs_expr.specs.inner.Cell.{Cells, FitsRow}
use Rattle.qs_expr.specs.inner.Scratch.{IsTable, Grows}
use Rattle.qs_expr.proofs.Growth.{stays}
use Rattle.qs_ops_scans.specs.declared.look.PreparedLook.{PreparedLook}
use Rattle.qs_ops_scans.specs.declared.pattern.PreparedTriple.{PreparedTriple}
use Rattle.qs_ops_program.specs.inner.Flow.{Instruction, IsForward}
use Rattle.qs_ops_walk.specs.declared.source.Level.{Level}
use Rattle.qs_ops_walk.specs.declared.source.Source.{Source}
use Rattle.qs_ops_walk.specs.declared.source.Source.TheVariants as source
use Rattle.qs_ops_walk.specs.declared.work.Place.{Place}
use Rattle.qs_ops_walk.specs.declared.work.Work.TheVariants as work
use Rattle.qs_ops_walk.specs.inner.Setting.{Setting, known_of}
use Rattle.qs_ops_walk.specs.inner.Works.{IsReady, code_of}
use Rattle.qs_ops_walk.specs.inner.Coming.{FitsLevel, FitLevels}
use Rattle.qs_ops_walk.specs.inner.Moves.{Opens, OpensTo, IsOpened, IsTripleOpened, IsWalk}
use Rattle.qs_ops_walk.proofs.Still.{levels_still, ready_still}
use Rattle.qs_ops_walk.proofs.Placing.{set_code, set_ready, instr_at, ready_at, code_length}
use Rattle.qs_ops_walk.proofs.Opens.{opens_to, opens_triple}
use Rattle.qs_ops_walk.proofs.Walks.{fits_last, fit_others, fit_pushed}

-- ---- the last of a list

pub whole : {X : Type 0} (xs : List X) (n : ℕ) → n ≡ length xs → 0 < n → (x : X) → x ≡ get_or xs (n - 1) x → xs ≡ take (n - 1) xs ++ x ∷ []
whole xs zero e h x f = absurd (omega arith)
whole xs (suc n) e h x f = let a : suc n - 1 ≡ n = omega arith in rw a (at xs n (sym e) (rw a at f))
  where
    at : {X : Type 0} (xs : List X) (n : ℕ) → length xs ≡ suc n → {x : X} → x ≡ get_or xs n x → xs ≡ take n xs ++ x ∷ []
    at [] n e f = absurd (omega arith)
    at (y ∷ []) zero e f = ap (λ z. z ∷ []) (sym f)
    at (y ∷ z ∷ xs) zero e f = absurd (omega arith)
    at (y ∷ xs) (suc n) e f = ap (λ zs. y ∷ zs) (at xs n (omega arith) f)

pub changed : {X : Type 0} (xs : List X) (n : ℕ) → n ≡ length xs → 0 < n → (x : X) → set xs (n - 1) x ≡ take (n - 1) xs ++ x ∷ []
changed xs zero e h x = absurd (omega arith)
changed xs (suc n) e h x = let a : suc n - 1 ≡ n = omega arith in rw a (at xs n (sym e) x)
  where
    at : {X : Type 0} (xs : List X) (n : ℕ) → length xs ≡ suc n → (x : X) → set xs n x ≡ take n xs ++ x ∷ []
    at [] n e x = absurd (omega arith)
    at (y ∷ []) zero e x = refl
    at (y ∷ z ∷ xs) zero e x = absurd (omega arith)
    at (y ∷ xs) (suc n) e x = ap (λ zs. y ∷ zs) (at xs n (omega arith) x)

module _ (s : Setting) (t0 : List Term) (ps : List Place) (old ls : List Level) (l : Level) (e : old ≡ ls ++ l ∷ []) (w : IsWalk s t0 ps old) where
  abbrev known : List Term
  known = known_of s

  pub level_fits : FitsLevel known t0 l
  level_fits = fits_last s (code_of ps) t0 old ls l e w.fit

  -- the last level has nothing left
  pub over_walk : IsWalk s t0 ps ls
  over_walk = record { forward = w.forward; ready = w.ready; fit = fit_others s (code_of ps) t0 old ls l e w.fit }

  -- another level stands in its place
  module _ (k : Level) (kf : FitsLevel known t0 k) (mid : List Level) (f : mid ≡ ls ++ k ∷ []) where
    pub mid_fit : FitLevels known t0 mid
    mid_fit = fit_pushed s (code_of ps) t0 mid ls k f (fit_others s (code_of ps) t0 old ls l e w.fit) kf

    pub settled_walk : (t1 : List Term) → Grows known t0 t1 → IsWalk s t1 ps mid
    settled_walk t1 g = record { forward = w.forward; ready = ready_still s t0 t1 g ps w.ready; fit = levels_still s t0 t1 g mid mid_fit }

-- ---- a level is opened
module _ (s : Setting) (t0 t1 : List Term) (ps : List Place) (ls now : List Level) (at : ℕ) (p q : Place) (m : Cells) (src : Source) (w : IsWalk s t0 ps ls) (l : at < length ps) (e : p ≡ get_or ps at p)
    (g : Grows (known_of s) t0 t1) (same : q.instr ≡ p.instr) (ready : IsReady s t1 q) (o : Opens s p.instr t0 m t1 src) (z : now ≡ ls ++ (record { next = p.instr.next; source = src }) ∷ []) where
  level_opens : OpensTo s (code_of ps) (suc at) t0 m t1 (record { next = p.instr.next; source = src })
  level_opens = opens_to s (code_of ps) at p.instr t0 t1 m src w.forward (rw code_length l) (instr_at ps at p l e) o

  pub opened : IsOpened s (code_of ps) (suc at) t0 m ls t1 now
  opened = record { level = record { next = p.instr.next; source = src }; items = z; opens = level_opens }

  pub opened_code : code_of (set ps at q) ≡ code_of ps
  opened_code = set_code ps at p q e same

  pub opened_walk : IsWalk s t1 (set ps at q) now
  opened_walk = record {
    forward = subst (λ (c : List Instruction). IsForward c) (sym opened_code) w.forward;
    ready = set_ready s t1 ps at q (ready_still s t0 t1 g ps w.ready) ready;
    fit = fit_pushed s (code_of ps) t1 now ls (record { next = p.instr.next; source = src }) z (levels_still s t0 t1 g ls w.fit) level_opens.fits;
  }

-- ---- a level is opened for a triple pattern
module _ (s : Setting) (t0 : List Term) (ps : List Place) (ls now : List Level) (at : ℕ) (p : Place) (m : Cells) (next : ℕ) (look : PreparedLook) (pattern : PreparedTriple) (w : IsWalk s t0 ps ls) (l : at < length ps) (e : p ≡ get_or ps at p)
    (n : next ≡ p.instr.next) (is : p.work ≡ work.Triple look pattern) (o : IsTripleOpened s next look pattern m ls now) (t : IsTable (known_of s) t0) (h : FitsRow (known_of s) t0 m) where
  triple_ready : IsReady s t0 p
  triple_ready = ready_at s t0 ps at p w.ready l e

  source_opens : Opens s p.instr t0 m t0 (source.Triple o.rows)
  source_opens = opens_triple s p.instr t0 t0 m o.rows look pattern (rw is at triple_ready) o.makes refl t h

  pushed : now ≡ ls ++ (record { next = p.instr.next; source = source.Triple o.rows }) ∷ []
  pushed = o.items ∙ ap (λ (x : ℕ). let v : Level = record { next = x; source = source.Triple o.rows } in ls ++ v ∷ []) n

  pub triple_opened : IsOpened s (code_of ps) (suc at) t0 m ls t0 now
  triple_opened = opened s t0 t0 ps ls now at p p m (source.Triple o.rows) w l e (stays (known_of s) t0 t) refl triple_ready source_opens pushed

  pub triple_walk : IsWalk s t0 ps now
  triple_walk = record {
    forward = w.forward;
    ready = w.ready;
    fit = fit_pushed s (code_of ps) t0 now ls (record { next = p.instr.next; source = source.Triple o.rows }) pushed w.fit source_opens.fits;
  }

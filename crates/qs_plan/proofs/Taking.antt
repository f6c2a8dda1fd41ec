-- Scans that are taken from a run and put after others make the same rows.
use Rattle.std.proofs.Common.{◌≡◌, ℕ, zero, suc, ◌+◌, ◌≤◌, Bool, true, false, List, [], ◌∷◌, ◌++◌, take, drop, length, slice_get, slice_set, replicate, Option, Some, None, refl, sym, ◌∙◌, ap, subst, arith, append-nil, append_assoc}
use Rattle.std.specs.List.{AllByRecursion}
use Rattle.std.specs.Option.{option_to_list}
use Rattle.qs_plan_meaning.specs.declared.stage.Stage.{Stage}
use Rattle.qs_plan.specs.inner.Sames.{SameStages, IsScan}
use Rattle.qs_plan.specs.inner.Slots.{stages_at, stages_left, if_left, Clears, IsTaken, Takes, Puts}
use Rattle.qs_plan.proofs.Sames.{run_more, run_less}
use Rattle.qs_plan.proofs.Swaps.{same_refl, same_trans}

-- ---- places

-- one place more
pub at_last : (ss : List Stage) (ps : List ℕ) (p : ℕ) → stages_at ss (ps ++ p ∷ []) ≡ stages_at ss ps ++ option_to_list (slice_get ss p)
at_last ss [] p = append-nil (option_to_list (slice_get ss p))
at_last ss (q ∷ ps) p = ap (λ l. option_to_list (slice_get ss q) ++ l) (at_last ss ps p) ∙ sym (append_assoc (option_to_list (slice_get ss q)) (stages_at ss ps) (option_to_list (slice_get ss p)))

at_none : (at : ℕ) → let none : List Stage = [] in slice_get none at ≡ None
at_none zero = refl
at_none (suc at) = refl

-- a place of a part
get_part : (ss : List Stage) (from at p : ℕ) → p ≡ from + at → slice_get ss p ≡ slice_get (drop from ss) at
get_part ss zero at p e = ap (slice_get ss) (let k : p ≡ at = omega (arith, e) in k)
get_part [] (suc from) at p e = at_none p ∙ sym (at_none at)
get_part (s ∷ ss) (suc from) at zero e = absurd (omega (arith, e))
get_part (s ∷ ss) (suc from) at (suc p) e = get_part ss from at p (omega (arith, e))

-- a place of a part is put
pub part_last : (ss : List Stage) (ps new : List ℕ) (from at p : ℕ) → p ≡ from + at → new ≡ ps ++ p ∷ [] → stages_at ss new ≡ stages_at ss ps ++ option_to_list (slice_get (drop from ss) at)
part_last ss ps new from at p k e = ap (stages_at ss) e ∙ (at_last ss ps p ∙ ap (λ o. stages_at ss ps ++ option_to_list o) (get_part ss from at p k))

-- there is none past the end
pub get_past : (ss : List Stage) (at : ℕ) → length ss ≤ at → slice_get ss at ≡ None
get_past [] at h = at_none at
get_past (s ∷ ss) zero h = absurd (omega (arith, h))
get_past (s ∷ ss) (suc at) h = get_past ss at (omega (arith, h))

-- none is put then
pub part_past : (ss : List Stage) (ps : List ℕ) (from at : ℕ) → length ss ≤ from + at → stages_at ss ps ≡ stages_at ss ps ++ option_to_list (slice_get (drop from ss) at)
part_past ss ps from at h = sym (ap (λ o. stages_at ss ps ++ option_to_list o) (sym (get_part ss from at (from + at) refl) ∙ get_past ss (from + at) h) ∙ append-nil (stages_at ss ps))

-- ---- flags

one_later : (t : Stage) (o : Option Stage) (old new : List Stage) → Takes o old new → Takes o (t ∷ old) (t ∷ new)
one_later t None old new h = ap (λ ss. t ∷ ss) h
one_later t (Some s) old new h = record { at = suc h.at; within = omega (arith, h.within); is = h.is; rest = ap (λ ss. t ∷ ss) h.rest }

-- what stands at a place is taken
pub taken : (ss : List Stage) (left : List Bool) (at : ℕ) → slice_get left at ≡ Some true → Takes (slice_get ss at) (stages_left ss left) (stages_left ss (slice_set left at false))
taken [] left zero h = refl
taken [] left (suc at) h = refl
taken (s ∷ ss) [] zero h = let f : None ≡ Some true = h in cc
taken (s ∷ ss) [] (suc at) h = let f : None ≡ Some true = h in cc
taken (s ∷ ss) (true ∷ left) zero h = record { at = 0; within = omega arith; is = refl; rest = refl }
taken (s ∷ ss) (false ∷ left) zero h = let f : Some false ≡ Some true = h in cc
taken (s ∷ ss) (false ∷ left) (suc at) h = taken ss left at h
taken (s ∷ ss) (true ∷ left) (suc at) h = one_later s (slice_get ss at) (stages_left ss left) (stages_left ss (slice_set left at false)) (taken ss left at h)

-- one flag more at the end
pub left_last : (ss : List Stage) (left : List Bool) (f : Bool) → stages_left ss (left ++ f ∷ []) ≡ stages_left ss left ++ option_to_list (if_left f (slice_get ss (length left)))
left_last [] left true = sym (ap (λ o. option_to_list o) (at_none (length left)))
left_last [] left false = refl
left_last (s ∷ ss) [] true = ap (λ l. s ∷ l) (no_flag ss)
  where
    no_flag : (ss : List Stage) → stages_left ss [] ≡ []
    no_flag [] = refl
    no_flag (s ∷ ss) = refl
left_last (s ∷ ss) [] false = no_flag ss
  where
    no_flag : (ss : List Stage) → stages_left ss [] ≡ []
    no_flag [] = refl
    no_flag (s ∷ ss) = refl
left_last (s ∷ ss) (false ∷ left) f = left_last ss left f
left_last (s ∷ ss) (true ∷ left) f = ap (λ l. s ∷ l) (left_last ss left f)

-- all are left
pub all_left : (ss : List Stage) (n : ℕ) → stages_left ss (replicate n true) ≡ take n ss
all_left [] zero = refl
all_left [] (suc n) = refl
all_left (s ∷ ss) zero = refl
all_left (s ∷ ss) (suc n) = ap (λ l. s ∷ l) (all_left ss n)

none_left : (ss : List Stage) → stages_left ss [] ≡ []
none_left [] = refl
none_left (s ∷ ss) = refl

-- ---- scans that are put

module _ (r : Option ℕ) where
  -- nothing is put
  pub none_put : (done left left' : List Stage) → AllByRecursion (IsScan r) left → left' ≡ left → Puts r done left done left'
  none_put done left left' h e = record {
    scans = subst (AllByRecursion (IsScan r)) (sym e) h;
    same = subst (λ (l : List Stage). SameStages (done ++ l) (done ++ left)) (sym e) (same_refl (done ++ left));
  }

  -- one is put
  one_put : (done left done' left' : List Stage) (s : Stage) → AllByRecursion (IsScan r) left → IsTaken s left left' → done' ≡ done ++ s ∷ [] → Puts r done left done' left'
  one_put done left done' left' s h t e = record {
    scans = run_less r left left' t.at h t.rest;
    same = run_more r done done' (done ++ left) left left' t.at s t.within t.is h e t.rest (same_refl (done ++ left));
  }

  -- one is put, if there is one
  any_put : (done left done' left' : List Stage) (o : Option Stage) → AllByRecursion (IsScan r) left → Takes o left left' → done' ≡ done ++ option_to_list o → Puts r done left done' left'
  any_put done left done' left' None h t e = subst (λ (d : List Stage). Puts r done left d left') (sym (e ∙ append-nil done)) (none_put done left left' h t)
  any_put done left done' left' (Some s) h t e = one_put done left done' left' s h t e

  pub more_put : (done left done' left' done'' left'' : List Stage) → Puts r done left done' left' → Puts r done' left' done'' left'' → Puts r done left done'' left''
  more_put done left done' left' done'' left'' a b = record { scans = b.scans; same = same_trans (done'' ++ left'') (done' ++ left') (done ++ left) b.same a.same }

  last_taken : (left left' : List Stage) (o : Option Stage) → left ≡ left' ++ option_to_list o → Takes o left left'
  last_taken left left' None e = sym (e ∙ append-nil left')
  last_taken left left' (Some s) e = subst (λ (l : List Stage). IsTaken s l left') (sym e) (at_end left')
    where
      at_end : (ss : List Stage) → IsTaken s (ss ++ s ∷ []) ss
      at_end [] = record { at = 0; within = omega arith; is = refl; rest = refl }
      at_end (t ∷ ss) = one_later t (Some s) (ss ++ s ∷ []) ss (at_end ss)

  -- what is left at a place is put
  pub cleared_put : (ss : List Stage) (left left' : List Bool) (at : ℕ) (done done' : List Stage) → AllByRecursion (IsScan r) (stages_left ss left) → Clears true at left left' → done' ≡ done ++ option_to_list (slice_get ss at)
      → Puts r done (stages_left ss left) done' (stages_left ss left')
  cleared_put ss left left' at done done' h c e =
      subst (λ (l : List Bool). Puts r done (stages_left ss left) done' (stages_left ss l)) (sym c.1) (any_put done (stages_left ss left) done' (stages_left ss (slice_set left at false)) (slice_get ss at) h (taken ss left at c.0) e)

  -- nothing is left there
  pub kept_put : (ss : List Stage) (left left' : List Bool) (at : ℕ) (done : List Stage) → AllByRecursion (IsScan r) (stages_left ss left) → Clears false at left left' → Puts r done (stages_left ss left) done (stages_left ss left')
  kept_put ss left left' at done h c = none_put done (stages_left ss left) (stages_left ss left') h (ap (stages_left ss) c)

  -- what the last flag tells is put
  pub popped_put : (ss : List Stage) (left left' : List Bool) (f : Bool) (n : ℕ) (done done' : List Stage) → AllByRecursion (IsScan r) (stages_left ss left) → left ≡ left' ++ f ∷ [] → n ≡ length left' → done' ≡ done ++ option_to_list (if_left f (slice_get ss n))
      → Puts r done (stages_left ss left) done' (stages_left ss left')
  popped_put ss left left' f n done done' h e k d =
      any_put done (stages_left ss left) done' (stages_left ss left') (if_left f (slice_get ss n)) h
      (last_taken (stages_left ss left) (stages_left ss left') (if_left f (slice_get ss n)) (ap (stages_left ss) e ∙ (left_last ss left' f ∙ ap (λ i. stages_left ss left' ++ option_to_list (if_left f (slice_get ss i))) (sym k)))) d

  -- all of a run are put
  pub run_put : (ss : List Stage) (left : List Bool) (n : ℕ) (done done' : List Stage) → left ≡ replicate n true → Puts r done (stages_left ss left) done' (stages_left ss []) → SameStages done' (done ++ take n ss)
  run_put ss left n done done' e p =
      subst (λ (l : List Stage). SameStages l (done ++ take n ss)) (append-nil done')
      (subst (λ (l : List Stage). SameStages (done' ++ l) (done ++ take n ss)) (none_left ss)
      (subst (λ (l : List Stage). SameStages (done' ++ stages_left ss []) (done ++ l)) (ap (stages_left ss) e ∙ all_left ss n) p.same))

  pub run_scans : (ss : List Stage) (left : List Bool) (n : ℕ) → left ≡ replicate n true → AllByRecursion (IsScan r) (take n ss) → AllByRecursion (IsScan r) (stages_left ss left)
  run_scans ss left n e h = subst (AllByRecursion (IsScan r)) (sym (ap (stages_left ss) e ∙ all_left ss n)) h

-- what a flag tells is put
pub set_put : (f : Bool) (new old : List Stage) (o : Option Stage) → f ≡ true → new ≡ old ++ option_to_list o → new ≡ old ++ option_to_list (if_left f o)
set_put f new old o e h = subst (λ (b : Bool). new ≡ old ++ option_to_list (if_left b o)) (sym e) h

pub unset_put : (f : Bool) (old : List Stage) (o : Option Stage) → f ≡ false → old ≡ old ++ option_to_list (if_left f o)
unset_put f old o e = subst (λ (b : Bool). old ≡ old ++ option_to_list (if_left b o)) (sym e) (sym (append-nil old))

-- How a list of stages is cut into runs, and their places are put.
use Rattle.std.proofs.Common.{◌≡◌, ℕ, zero, suc, ◌+◌, ◌<◌, ◌≤◌, List, [], ◌∷◌, ◌++◌, take, drop, length, get_or, slice_get, Option, Some, None, refl, sym, ◌∙◌, ap, subst, arith, append-nil, append_assoc}
use Rattle.std.specs.List.{AllByRecursion}
use Rattle.std.specs.Option.{option_to_list}
use Rattle.std.proofs.lemmas.List.{take_more, take_all}
use Rattle.qs_plan_meaning.specs.declared.stage.Stage.{Stage}
use Rattle.qs_plan.specs.inner.Sames.{SameStages, IsScan}
use Rattle.qs_plan.specs.inner.Slots.{stages_at, part, Cut}
use Rattle.qs_plan.proofs.Swaps.{same_refl, same_trans, same_append}
use Rattle.qs_plan.proofs.Taking.{at_last, get_past}

-- the next stage of a part
part_more : (ss : List Stage) (from count p : ℕ) (s : Stage) → p ≡ from + count → p < length ss → s ≡ get_or ss p s → take (count + 1) (drop from ss) ≡ take count (drop from ss) ++ s ∷ []
part_more ss zero count p s e lt is =
    let k : p ≡ count = omega (arith, e) in
    subst (λ (i : ℕ). take (i + 1) ss ≡ take i ss ++ s ∷ []) k (take_more ss p s lt ∙ ap (λ x. take p ss ++ x ∷ []) (sym is))
part_more [] (suc from) count p s e lt is = absurd (omega (arith, lt))
part_more (t ∷ ss) (suc from) count zero s e lt is = absurd (omega (arith, e))
part_more (t ∷ ss) (suc from) count (suc p) s e lt is = part_more ss from count p s (omega (arith, e)) (omega (arith, lt)) is

part_one : (ss : List Stage) (p : ℕ) (s : Stage) → p < length ss → s ≡ get_or ss p s → take 1 (drop p ss) ≡ s ∷ []
part_one ss p s lt is = part_more ss p 0 p s (omega arith) lt is

one_more : (ss : List Stage) (p n : ℕ) (s : Stage) → n ≡ p + 1 → p < length ss → s ≡ get_or ss p s → take n ss ≡ take p ss ++ s ∷ []
one_more ss p n s e lt is = ap (λ i. take i ss) e ∙ (take_more ss p s lt ∙ ap (λ x. take p ss ++ x ∷ []) (sym is))

at_one : (ss : List Stage) (p : ℕ) (s : Stage) → p < length ss → s ≡ get_or ss p s → slice_get (drop p ss) 0 ≡ Some s
at_one ss p s lt is = first (drop p ss) (part_one ss p s lt is)
  where
    first : (xs : List Stage) → take 1 xs ≡ s ∷ [] → slice_get xs 0 ≡ Some s
    first [] h = let f : [] ≡ s ∷ [] = h in cc
    first (x ∷ xs) h = let e : x ≡ s = cc in ap Some e

all_last : (P : Stage → Type 0) (xs : List Stage) (s : Stage) → AllByRecursion P xs → P s → AllByRecursion P (xs ++ s ∷ [])
all_last P [] s h k = (k, tt)
all_last P (x ∷ xs) s h k = (h.0, all_last P xs s h.1 k)

module _ (ss : List Stage) where
  -- no stage is put
  pub cut_none : (ps : List ℕ) (r : Option ℕ) → ps ≡ [] → Cut ss ps r 0 0
  cut_none ps r e = record { scans = tt; same = subst (λ (l : List ℕ). SameStages (stages_at ss l ++ []) []) (sym e) (same_refl []) }

  -- one more in the run
  pub cut_grows : (ps : List ℕ) (r : Option ℕ) (from count p : ℕ) (s : Stage) → p ≡ from + count → p < length ss → s ≡ get_or ss p s → IsScan r s → Cut ss ps r from count → Cut ss ps r from (count + 1)
  cut_grows ps r from count p s e lt is k c =
      let more = part_more ss from count p s e lt is in
      record {
        scans = subst (AllByRecursion (IsScan r)) (sym more) (all_last (IsScan r) (part ss from count) s c.scans k);
        same =
            subst (λ (l : List Stage). SameStages (stages_at ss ps ++ l) (take (from + (count + 1)) ss)) (sym more)
            (subst (λ (l : List Stage). SameStages (stages_at ss ps ++ (part ss from count ++ s ∷ [])) l) (sym (one_more ss p (from + (count + 1)) s (omega (arith, e)) lt is))
            (subst (λ (l : List Stage). SameStages l (take p ss ++ s ∷ [])) (append_assoc (stages_at ss ps) (part ss from count) (s ∷ []))
            (same_append (stages_at ss ps ++ part ss from count) (take p ss) (s ∷ []) (s ∷ []) (subst (λ (i : ℕ). SameStages (stages_at ss ps ++ part ss from count) (take i ss)) (sym e) c.same) (same_refl (s ∷ [])))));
      }

  -- the run is put
  put_before : (ps new : List ℕ) (r : Option ℕ) (from count p : ℕ) → p ≡ from + count → Cut ss ps r from count → SameStages (stages_at ss new) (stages_at ss ps ++ part ss from count) → SameStages (stages_at ss new) (take p ss)
  put_before ps new r from count p e c h = same_trans _ _ _ h (subst (λ (i : ℕ). SameStages (stages_at ss ps ++ part ss from count) (take i ss)) (sym e) c.same)

  -- the next one begins with a stage
  pub cut_begins : (ps new : List ℕ) (r r' : Option ℕ) (from count p : ℕ) (s : Stage) → p ≡ from + count → p < length ss → s ≡ get_or ss p s → IsScan r' s → Cut ss ps r from count → SameStages (stages_at ss new) (stages_at ss ps ++ part ss from count) → Cut ss new r' p 1
  cut_begins ps new r r' from count p s e lt is k c h =
      let one = part_one ss p s lt is in
      record {
        scans = subst (AllByRecursion (IsScan r')) (sym one) (k, tt);
        same =
            subst (λ (l : List Stage). SameStages (stages_at ss new ++ l) (take (p + 1) ss)) (sym one)
            (subst (λ (l : List Stage). SameStages (stages_at ss new ++ s ∷ []) l) (sym (one_more ss p (p + 1) s refl lt is))
            (same_append (stages_at ss new) (take p ss) (s ∷ []) (s ∷ []) (put_before ps new r from count p e c h) (same_refl (s ∷ []))));
      }

  -- a stage in no run is put after it
  pub cut_passes : (ps new last : List ℕ) (r : Option ℕ) (from count p : ℕ) (s : Stage) → p ≡ from + count → p < length ss → s ≡ get_or ss p s → Cut ss ps r from count → SameStages (stages_at ss new) (stages_at ss ps ++ part ss from count)
      → stages_at ss last ≡ stages_at ss new ++ option_to_list (slice_get (drop p ss) 0) → Cut ss last None (p + 1) 0
  cut_passes ps new last r from count p s e lt is c h k =
      let put : stages_at ss last ≡ stages_at ss new ++ s ∷ [] = k ∙ ap (λ o. stages_at ss new ++ option_to_list o) (at_one ss p s lt is) in
      record {
        scans = tt;
        same =
            subst (λ (l : List Stage). SameStages l (take (p + 1 + 0) ss)) (sym (append-nil (stages_at ss last) ∙ put))
            (subst (λ (l : List Stage). SameStages (stages_at ss new ++ s ∷ []) l) (sym (one_more ss p (p + 1 + 0) s (omega arith) lt is))
            (same_append (stages_at ss new) (take p ss) (s ∷ []) (s ∷ []) (put_before ps new r from count p e c h) (same_refl (s ∷ []))));
      }

  -- all are put
  pub cut_ends : (ps new : List ℕ) (r : Option ℕ) (from count : ℕ) → from + count ≡ length ss → Cut ss ps r from count → SameStages (stages_at ss new) (stages_at ss ps ++ part ss from count) → SameStages (stages_at ss new) ss
  cut_ends ps new r from count e c h =
      subst (λ (l : List Stage). SameStages (stages_at ss new) l) (take_all (from + count) ss (omega (arith, e))) (put_before ps new r from count (from + count) refl c h)

-- the stages at the places, one after another
pub places_begin : (done stages : List Stage) (places : List ℕ) → done ≡ [] → SameStages done (stages_at stages (take 0 places))
places_begin done stages places e = subst (λ (l : List Stage). SameStages l []) (sym e) (same_refl [])

get_there : (ss : List Stage) (p : ℕ) (s : Stage) → p < length ss → s ≡ get_or ss p s → slice_get ss p ≡ Some s
get_there [] p s lt is = absurd (omega (arith, lt))
get_there (t ∷ ss) zero s lt is = ap Some (sym is)
get_there (t ∷ ss) (suc p) s lt is = get_there ss p s (omega (arith, lt)) is

module _ (done new stages : List Stage) (places : List ℕ) (i p : ℕ) (lt : i < length places) (at : p ≡ get_or places i 0) (h : SameStages done (stages_at stages (take i places))) where
  more : stages_at stages (take (i + 1) places) ≡ stages_at stages (take i places) ++ option_to_list (slice_get stages p)
  more = ap (stages_at stages) (take_more places i 0 lt ∙ ap (λ x. take i places ++ x ∷ []) (sym at)) ∙ at_last stages (take i places) p

  -- a stage stands there
  pub place_put : (s one : Stage) → p < length stages → s ≡ get_or stages p s → SameStages (one ∷ []) (s ∷ []) → new ≡ done ++ one ∷ [] → SameStages new (stages_at stages (take (i + 1) places))
  place_put s one within is k e =
      subst (λ (l : List Stage). SameStages l (stages_at stages (take (i + 1) places))) (sym e)
      (subst (λ (l : List Stage). SameStages (done ++ one ∷ []) l) (sym (more ∙ ap (λ o. stages_at stages (take i places) ++ option_to_list o) (get_there stages p s within is)))
      (same_append done (stages_at stages (take i places)) (one ∷ []) (s ∷ []) h k))

  -- none stands there
  pub place_none : length stages ≤ p → new ≡ done → SameStages new (stages_at stages (take (i + 1) places))
  place_none past e =
      subst (λ (l : List Stage). SameStages l (stages_at stages (take (i + 1) places))) (sym e)
      (subst (λ (l : List Stage). SameStages done l) (sym (more ∙ (ap (λ o. stages_at stages (take i places) ++ option_to_list o) (get_past stages p past) ∙ append-nil (stages_at stages (take i places))))) h)

pub places_end : (done stages : List Stage) (places items : List ℕ) (i : ℕ) → length items ≤ i → items ≡ places → SameStages done (stages_at stages (take i items)) → SameStages (stages_at stages places) stages → SameStages done stages
places_end done stages places items i le e h k =
    same_trans done (stages_at stages places) stages (subst (λ (l : List ℕ). SameStages done (stages_at stages l)) (take_all i items le ∙ e) h) k

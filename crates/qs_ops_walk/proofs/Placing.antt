-- A place among the others.
use Rattle.std.proofs.Common.{◌≡◌, ℕ, zero, suc, ◌<◌, ◌≤◌, max, List, [], ◌∷◌, map, length, get_or, refl, sym, ◌∙◌, ap, subst, arith}
use Rattle.std.proofs.Math.ListN.{set}
use Rattle.std.specs.List.{AllByRecursion}
use Rattle.qs_terms.specs.declared.term.Term.{Term}
use Rattle.qs_ops_program.specs.inner.Flow.{Instruction}
use Rattle.qs_ops_program.specs.inner.Heights.{most, stage_height, IsLow}
use Rattle.qs_ops_walk.specs.declared.work.Place.{Place}
use Rattle.qs_ops_walk.specs.inner.Setting.{Setting}
use Rattle.qs_ops_walk.specs.inner.Works.{IsReady, AreReady, instr_of, code_of, height_of, heights_of}

pub set_code : (ps : List Place) (at : ℕ) (p q : Place) → p ≡ get_or ps at p → q.instr ≡ p.instr → code_of (set ps at q) ≡ code_of ps
set_code [] at p q e f = refl
set_code (x ∷ ps) zero p q e f = ap (λ (i : Instruction). i ∷ code_of ps) (f ∙ ap instr_of e)
set_code (x ∷ ps) (suc at) p q e f = ap (λ (is : List Instruction). x.instr ∷ is) (set_code ps at p q e f)

pub set_ready : (s : Setting) (t : List Term) (ps : List Place) (at : ℕ) (q : Place) → AreReady s t ps → IsReady s t q → AreReady s t (set ps at q)
set_ready s t [] at q h k = tt
set_ready s t (x ∷ ps) zero q h k = (k, h.1)
set_ready s t (x ∷ ps) (suc at) q h k = (h.0, set_ready s t ps at q h.1 k)

pub ready_at : (s : Setting) (t : List Term) (ps : List Place) (at : ℕ) (p : Place) → AreReady s t ps → at < length ps → p ≡ get_or ps at p → IsReady s t p
ready_at s t [] at p h l e = let z : at < 0 = l in absurd (omega arith)
ready_at s t (x ∷ ps) zero p h l e = subst (λ (y : Place). IsReady s t y) (sym e) h.0
ready_at s t (x ∷ ps) (suc at) p h l e = ready_at s t ps at p h.1 (omega arith) e

pub instr_at : (ps : List Place) (at : ℕ) (p : Place) → at < length ps → p ≡ get_or ps at p → p.instr ≡ get_or (code_of ps) at p.instr
instr_at [] at p l e = let z : at < 0 = l in absurd (omega arith)
instr_at (x ∷ ps) zero p l e = ap instr_of e
instr_at (x ∷ ps) (suc at) p l e = instr_at ps at p (omega arith) e

pub code_length : (ps : List Place) → length (code_of ps) ≡ length ps
code_length [] = refl
code_length (x ∷ ps) = ap suc (code_length ps)

pub height_at : (ps : List Place) (at : ℕ) (p : Place) → at < length ps → p ≡ get_or ps at p → height_of p ≤ heights_of ps
height_at [] at p l e = let z : at < 0 = l in absurd (omega arith)
height_at (x ∷ ps) zero p l e = let a : height_of p ≡ height_of x = ap height_of e in omega arith
height_at (x ∷ ps) (suc at) p l e = omega (arith, height_at ps at p (omega arith) e)

pub low_heights : (b : ℕ) (ps : List Place) → AllByRecursion (IsLow b) (code_of ps) → heights_of ps ≤ b
low_heights b [] h = omega arith
low_heights b (x ∷ ps) h = let a : height_of x ≤ b = h.0 in omega (arith, low_heights b ps h.1)

pub same_heights : (ps qs : List Place) → code_of ps ≡ code_of qs → heights_of ps ≡ heights_of qs
same_heights ps qs e = sym (by_code ps) ∙ (ap (λ (is : List Instruction). most (map (λ (i : Instruction). stage_height i.stage) is)) e ∙ by_code qs)
  where
    by_code : (ps : List Place) → most (map (λ (i : Instruction). stage_height i.stage) (code_of ps)) ≡ heights_of ps
    by_code [] = refl
    by_code (x ∷ ps) = ap (max (height_of x)) (by_code ps)

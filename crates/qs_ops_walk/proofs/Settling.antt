-- Rows that go through stages which make at most one row, place by place.
use Rattle.std.proofs.Common.{◌≡◌, ℕ, suc, ◌<◌, ◌≤◌, ◌⊎◌, inl, inr, false, List, [], length, get_or, sym, ◌∙◌, subst, arith}
use Rattle.qs_terms.specs.declared.term.Term.{Term}
use Rattle.qs_expr.specs.inner.Cell.{Cells, row_solution}
use Rattle.qs_ops_program.specs.inner.Flow.{IsForward, is_union}
use Rattle.qs_ops_program.proofs.Flows.{past_end}
use Rattle.qs_ops_walk.specs.declared.settle.Passes.{Passes}
use Rattle.qs_ops_walk.specs.declared.settle.Passes.TheVariants.{Nothing, One, Many}
use Rattle.qs_ops_walk.specs.declared.work.Place.{Place}
use Rattle.qs_ops_walk.specs.inner.Setting.{Setting, known_of, gives_in}
use Rattle.qs_ops_walk.specs.inner.Works.{code_of}
use Rattle.qs_ops_walk.specs.inner.Moves.{IsPassed, flow_in, Goes}
use Rattle.qs_ops_walk.proofs.Placing.{instr_at, code_length}
use Rattle.qs_ops_walk.proofs.Settles.{settles_on, ends_here}

not_many : (P : Type 0) (p q : Passes) → p ≡ q → (q ≡ Many → ⊥) → (p ≡ Many) ⊎ P → P
not_many P p q e n (inl h) = absurd (n (sym e ∙ h))
not_many P p q e n (inr x) = x

nothing_more : Nothing ≡ Many → ⊥
nothing_more h = cc

one_alone : One ≡ Many → ⊥
one_alone h = cc

module _ (s : Setting) (ps : List Place) (next : ℕ) (t0 : List Term) (m : Cells) (at k : ℕ) (t1 : List Term) (n : Cells) (z : Goes s (code_of ps) next t0 m at t1 n) (a : at ≡ suc k) where
  z_here : Goes s (code_of ps) next t0 m (suc k) t1 n
  z_here = subst (λ (j : ℕ). Goes s (code_of ps) next t0 m j t1 n) a z

  -- no place stands there
  pub settles_past : length ps ≤ k → flow_in s (code_of ps) next t0 m ≡ []
  settles_past h = z_here.rows ∙ past_end (gives_in s) (code_of ps) k (row_solution (known_of s) t1 n) (omega (arith, h, code_length ps))

  module _ (p : Place) (f : IsForward (code_of ps)) (l : k < length ps) (e : p ≡ get_or ps k p) where
    l_code : k < length (code_of ps)
    l_code = omega (arith, l, code_length ps)

    -- where rows go on is before the place
    pub settles_before : p.instr.next < at
    settles_before = omega (arith, a, (f.each k p.instr l_code (instr_at ps k p l e)).next)

    module _ (t2 : List Term) (r : Cells) (o : Passes) (h : IsPassed s p.instr.stage t1 n t2 r o) (u : (o ≡ Many) ⊎ (is_union p.instr.stage ≡ false)) where
      pub settles_nothing : o ≡ Nothing → flow_in s (code_of ps) next t0 m ≡ []
      settles_nothing q =
          ends_here s (code_of ps) t0 next m t1 k n p.instr z_here f l_code (instr_at ps k p l e) (not_many (is_union p.instr.stage ≡ false) o Nothing q nothing_more u)
          (subst (IsPassed s p.instr.stage t1 n t2 r) q h)

      pub settles_one : o ≡ One → Goes s (code_of ps) next t0 m p.instr.next t2 r
      settles_one q =
          settles_on s (code_of ps) t0 next m t1 k n p.instr z_here f l_code (instr_at ps k p l e) (not_many (is_union p.instr.stage ≡ false) o One q one_alone u) t2 r
          (subst (IsPassed s p.instr.stage t1 n t2 r) q h)

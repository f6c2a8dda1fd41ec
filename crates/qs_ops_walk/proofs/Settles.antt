-- Rows that go through stages which make at most one row, stage by stage.
use Rattle.std.proofs.Common.{◌≡◌, ℕ, suc, ◌+◌, ◌<◌, false, List, [], length, get_or, refl, sym, ◌∙◌, ap, subst, append-nil, arith}
use Rattle.std.specs.List.{flat_map}
use Rattle.qs_terms.specs.declared.term.Term.{Term}
use Rattle.qs_algebra_solutions.specs.Solution.{Solution}
use Rattle.qs_expr.specs.inner.Cell.{Cells, row_solution, FitsRow}
use Rattle.qs_expr.specs.inner.Scratch.{Grows}
use Rattle.qs_expr.proofs.Growth.{same_row, still_row}
use Rattle.qs_ops_program.specs.inner.Flow.{Instruction, IsForward, flow, at, is_union}
use Rattle.qs_ops_program.specs.inner.Toil.{summed, toil}
use Rattle.qs_ops_program.proofs.Flows.{flow_step}
use Rattle.qs_ops_program.proofs.Toils.{toil_step}
use Rattle.qs_ops_walk.specs.inner.Setting.{Setting, known_of, gives_in}
use Rattle.qs_ops_walk.specs.inner.Moves.{GivesAlone, flow_in, Goes}

module _ (s : Setting) (code : List Instruction) (t0 : List Term) (next : ℕ) (m : Cells) where
  pub goes_here : FitsRow (known_of s) t0 m → Goes s code next t0 m next t0 m
  goes_here h = record { rows = refl; toil = omega arith; fits = h }

  module _ (t1 : List Term) (k : ℕ) (n : Cells) (i : Instruction) (z : Goes s code next t0 m (suc k) t1 n) (f : IsForward code) (l : k < length code) (e : i ≡ get_or code k i) (u : is_union i.stage ≡ false) where
    abbrev x : Solution
    x = row_solution (known_of s) t1 n

    here : flow (gives_in s) code (suc k) x ≡ flat_map (flow (gives_in s) code i.next) (gives_in s i.stage x)
    here = flow_step (gives_in s) code k i x f l e u

    here_moves : toil (gives_in s) code (suc k) x ≡ 1 + summed (toil (gives_in s) code i.next) (gives_in s i.stage x)
    here_moves = toil_step (gives_in s) code k i x f l e u

    pub settles_on : (t2 : List Term) (r : Cells) → GivesAlone s i.stage t1 n t2 r → Goes s code next t0 m i.next t2 r
    settles_on t2 r h =
        let y : Solution = row_solution (known_of s) t2 r in
        let a : flat_map (flow (gives_in s) code i.next) (gives_in s i.stage x) ≡ flow (gives_in s) code i.next y = ap (flat_map (flow (gives_in s) code i.next)) h.rows ∙ append-nil (flow (gives_in s) code i.next y) in
        let b : summed (toil (gives_in s) code i.next) (gives_in s i.stage x) ≡ (1 + toil (gives_in s) code i.next y) + 0 = ap (summed (toil (gives_in s) code i.next)) h.rows in record {
          rows = z.rows ∙ (here ∙ a);
          toil = omega (arith, z.toil, here_moves);
          fits = h.fits;
        }

    pub ends_here : gives_in s i.stage x ≡ [] → flow_in s code next t0 m ≡ []
    ends_here h = z.rows ∙ (here ∙ ap (flat_map (flow (gives_in s) code i.next)) h)

  -- the stage may give many
  pub settles_here : (t1 t2 : List Term) (at : ℕ) (n r : Cells) → Goes s code next t0 m at t1 n → Grows (known_of s) t1 t2 → r ≡ n → Goes s code next t0 m at t2 r
  settles_here t1 t2 at n r z g e =
      let a : row_solution (known_of s) t2 r ≡ row_solution (known_of s) t1 n = ap (row_solution (known_of s) t2) e ∙ same_row (known_of s) t1 t2 g n z.fits in record {
        rows = z.rows ∙ ap (flow (gives_in s) code at) (sym a);
        toil = rw a z.toil;
        fits = subst (λ (c : Cells). FitsRow (known_of s) t2 c) (sym e) (still_row (known_of s) t1 t2 g n z.fits);
      }

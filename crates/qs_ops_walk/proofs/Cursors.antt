-- An evaluation, by its walk.
use Rattle.std.proofs.Common.{◌≡◌, ℕ, Bool, true, false, List, ◌∷◌, map, take, Option, Some, None, refl, sym, ◌∙◌, ap, subst}
use Rattle.qs_terms.specs.Bag.{SameBag}
use Rattle.qs_terms.specs.declared.term.Term.{Term}
use Rattle.qs_algebra_solutions.specs.Solution.{Solution, unbound}
use Rattle.qs_expr.specs.inner.Cell.{Cells, row_solution}
use Rattle.qs_expr.specs.inner.Scratch.{Grows}
use Rattle.qs_plan_meaning.specs.declared.stage.Stage.{Stage}
use Rattle.qs_ops_program.specs.inner.Flow.{Instruction}
use Rattle.qs_ops_walk.specs.inner.Stream.{GivesOne, solution_if}
use Rattle.qs_ops_walk.specs.declared.source.Level.{Level}
use Rattle.qs_ops_walk.specs.declared.work.Place.{Place}
use Rattle.qs_ops_walk.specs.inner.Setting.{Setting, known_of, through_in}
use Rattle.qs_ops_walk.specs.inner.Works.{code_of}
use Rattle.qs_ops_walk.specs.inner.Coming.{coming}
use Rattle.qs_ops_walk.specs.inner.Moves.{IsWalk}
use Rattle.qs_ops_walk.specs.inner.Cursor.{named_coming, rows_left, IsWalkUnless, IsOp, GivesNamed}
use Rattle.qs_ops_walk.proofs.Bags.{same}
use Rattle.qs_ops_walk.proofs.Still.{levels_still, ready_still, coming_same}

module _ (s : Setting) (t0 t1 : List Term) (g : Grows (known_of s) t0 t1) (ps : List Place) (ls : List Level) where
  unless_still : (failed : Bool) → IsWalkUnless failed s t0 ps ls → IsWalkUnless failed s t1 ps ls
  unless_still true w = tt
  unless_still false w = record { forward = w.forward; ready = ready_still s t0 t1 g ps w.ready; fit = levels_still s t0 t1 g ls w.fit }

  pub still_op : (failed : Bool) → IsOp failed s t0 ps ls → IsOp failed s t1 ps ls
  still_op failed o = record { each_once = g.table; walk = unless_still failed o.walk }

  left_same : (failed : Bool) → IsWalkUnless failed s t0 ps ls → rows_left failed s t1 ps ls ≡ rows_left failed s t0 ps ls
  left_same true w = refl
  left_same false w = ap (λ (xs : List Solution). Some (map (take s.width) xs)) (coming_same s t0 t1 g (code_of ps) ls w.fit)

  pub still_left : (failed : Bool) → IsOp failed s t0 ps ls → rows_left failed s t1 ps ls ≡ rows_left failed s t0 ps ls
  still_left failed o = left_same failed o.walk

pub op_walk : (failed : Bool) (s : Setting) (t : List Term) (ps : List Place) (ls : List Level) → failed ≡ false → IsOp failed s t ps ls → IsWalk s t ps ls
op_walk failed s t ps ls e o = subst (λ (b : Bool). IsWalkUnless b s t ps ls) e o.walk

pub next_op : (failed : Bool) (s : Setting) (t0 t1 : List Term) (ps : List Place) (ls : List Level) → failed ≡ false → Grows (known_of s) t0 t1 → IsWalk s t1 ps ls → IsOp failed s t1 ps ls
next_op failed s t0 t1 ps ls e g w = record { each_once = g.table; walk = subst (λ (b : Bool). IsWalkUnless b s t1 ps ls) (sym e) w }

pub failed_op : (s : Setting) (t0 t1 : List Term) (ps : List Place) (ls : List Level) → Grows (known_of s) t0 t1 → IsOp true s t1 ps ls
failed_op s t0 t1 ps ls g = record { each_once = g.table; walk = tt }

module _ (s : Setting) (t0 t1 : List Term) (ps qs : List Place) (ls now : List Level) (e : code_of qs ≡ code_of ps) where
  gives_named : (o : Option Cells) → GivesNamed s (code_of ps) t0 ls o t1 now → GivesOne (Some (named_coming s (code_of ps) t0 ls)) (solution_if (known_of s) t1 o) (Some (named_coming s (code_of qs) t1 now))
  gives_named None h = (h.0, ap (named_coming s (code_of qs) t1) h.1)
  gives_named (Some m) h = subst (λ (c : List Instruction). SameBag (named_coming s (code_of ps) t0 ls) (row_solution (known_of s) t1 m ∷ named_coming s c t1 now)) (sym e) h.0

  pub gives_left : (failed : Bool) → failed ≡ false → (o : Option Cells) → GivesNamed s (code_of ps) t0 ls o t1 now → GivesOne (rows_left failed s t0 ps ls) (solution_if (known_of s) t1 o) (rows_left failed s t1 qs now)
  gives_left failed f o h = rw f (gives_named o h)

pub starts_rows : (s : Setting) (t : List Term) (code : List Instruction) (ls : List Level) (stages : List Stage) (row : Cells) (cells : ℕ) → coming s code t ls ≡ through_in s stages (row_solution (known_of s) t row) → row_solution (known_of s) t row ≡ unbound cells
    → SameBag (named_coming s code t ls) (map (take s.width) (through_in s stages (unbound cells)))
starts_rows s t code ls stages row cells e f = same _ _ (ap (map (take s.width)) (e ∙ ap (through_in s stages) f))

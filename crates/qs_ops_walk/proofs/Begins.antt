-- A walk at its start.
use Rattle.std.proofs.Common.{◌≡◌, ℕ, ◌≤◌, List, [], ◌∷◌, ◌++◌, Some, append-nil, sym, ◌∙◌, ap, subst}
use Rattle.std.specs.List.{AllByRecursion}
use Rattle.std.proofs.lemmas.List.{map-append}
use Rattle.qs_terms.specs.declared.term.Term.{Term}
use Rattle.qs_expr.specs.inner.Cell.{Cells, row_solution, FitsRow}
use Rattle.qs_plan_meaning.specs.declared.stage.Stage.{Stage}
use Rattle.qs_ops_program.specs.inner.Flow.{Instruction, IsForward, flow}
use Rattle.qs_ops_program.specs.inner.Heights.{stages_height, IsLow}
use Rattle.qs_ops_walk.specs.declared.source.Level.{Level}
use Rattle.qs_ops_walk.specs.declared.source.Source.TheVariants.{Given}
use Rattle.qs_ops_walk.specs.declared.work.Place.{Place}
use Rattle.qs_ops_walk.specs.inner.Coming.{coming}
use Rattle.qs_ops_walk.specs.inner.Moves.{IsWalk}
use Rattle.qs_ops_walk.specs.inner.Setting.{Setting, known_of, gives_in, through_in}
use Rattle.qs_ops_walk.specs.inner.Works.{AreReady, IsReady, code_of, heights_of, instr_of}
use Rattle.qs_ops_walk.proofs.Placing.{low_heights}
use Rattle.qs_ops_walk.proofs.Walks.{all_push}

-- ---- the places of a program

pub place_more : (ps : List Place) (p : Place) (code : List Instruction) (i : Instruction) → code_of ps ≡ code → p.instr ≡ i → code_of (ps ++ p ∷ []) ≡ code ++ i ∷ []
place_more ps p code i e f = map-append instr_of ps (p ∷ []) ∙ (ap (λ c. c ++ p.instr ∷ []) e ∙ ap (λ (j : Instruction). code ++ j ∷ []) f)

pub ready_more : (s : Setting) (table : List Term) (ps : List Place) (p : Place) → AreReady s table ps → IsReady s table p → AreReady s table (ps ++ p ∷ [])
ready_more s table ps p h k = all_push (IsReady s table) ps p h k

-- ---- the first level

module _ (s : Setting) (ps : List Place) (code : List Instruction) (next : ℕ) (m : Cells) (e : code_of ps ≡ code) where
  abbrev pub first : Level
  first = record { next = next; source = Given (Some m) }

  pub first_walk : (ls : List Level) → ls ≡ first ∷ [] → IsForward code → (table : List Term) → AreReady s table ps → FitsRow (known_of s) table m → IsWalk s table ps ls
  first_walk ls f forward table ready fits =
      subst (λ (l : List Level). IsWalk s table ps l) (sym f)
      (record { forward = subst (λ (c : List Instruction). IsForward c) (sym e) forward; ready = ready; fit = (fits, tt) })

  pub first_rows : (ls : List Level) → ls ≡ first ∷ [] → (stages : List Stage) (table : List Term) → flow (gives_in s) code next (row_solution (known_of s) table m) ≡ through_in s stages (row_solution (known_of s) table m)
      → coming s (code_of ps) table ls ≡ through_in s stages (row_solution (known_of s) table m)
  first_rows ls f stages table makes =
      ap (λ (l : List Level). coming s (code_of ps) table l) f
      ∙ (append-nil (flow (gives_in s) (code_of ps) next (row_solution (known_of s) table m))
      ∙ (ap (λ (c : List Instruction). flow (gives_in s) c next (row_solution (known_of s) table m)) e ∙ makes))

pub first_low : (stages : List Stage) (ps : List Place) (code : List Instruction) → code_of ps ≡ code → AllByRecursion (IsLow (stages_height stages)) code → heights_of ps ≤ stages_height stages
first_low stages ps code e h = low_heights (stages_height stages) ps (subst (λ (c : List Instruction). AllByRecursion (IsLow (stages_height stages)) c) (sym e) h)

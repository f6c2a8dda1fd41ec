-- How many moves a walk through a program makes with a row, by which it is shown to end.
use Rattle.std.specs.Prelude.{ℕ, ◌+◌, if◌then◌else◌, List, [], ◌∷◌}
use Rattle.qs_algebra_solutions.specs.Solution.{Solution}
use Rattle.qs_plan_meaning.specs.declared.stage.Stage.{Stage}
use Rattle.qs_plan_meaning.specs.inner.Stages.{Made}
use Rattle.qs_ops_program.specs.inner.Flow.{Instruction, is_union, value_at, values_of}

-- the sum over a list, and one more for each
abbrev pub summed : {A : Type 0} → (A → ℕ) → List A → ℕ
summed f [] = 0
summed f (x ∷ xs) = (1 + f x) + summed f xs

abbrev pub Moves : Type 0
Moves = Solution → ℕ

abbrev pub no_moves : Moves
no_moves m = 0

-- the moves with a row at a position, where `ts` has those at each instruction
abbrev pub moves_at : List Moves → ℕ → Moves
moves_at ts position = value_at no_moves no_moves ts position

-- the moves with a row at an instruction
abbrev pub instr_moves : (Stage → Made) → List Moves → Instruction → Moves
instr_moves gives ts i m =
    1 + (if is_union i.stage then summed (λ start. moves_at ts start m) i.starts
    else summed (moves_at ts i.next) (gives i.stage m))

abbrev pub all_moves : (Stage → Made) → List Instruction → List Moves
all_moves gives code = values_of (instr_moves gives) code

-- the moves with a row at a position of the program
abbrev pub toil : (Stage → Made) → List Instruction → ℕ → Moves
toil gives code position = moves_at (all_moves gives code) position

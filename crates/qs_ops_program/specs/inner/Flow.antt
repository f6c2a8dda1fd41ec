-- What a program makes of a row. A position is counted from the end of the program: position 0 is
-- the end, where a row is finished, and position k + 1 is the instruction at k. An instruction
-- names positions before its own alone.
use Rattle.std.specs.Prelude.{◌≡◌, ℕ, zero, suc, ◌<◌, ◌≤◌, Bool, true, false, if◌then◌else◌, List}
use Rattle.std.specs.Prelude.{[], ◌∷◌, ◌++◌, length, get_or}
use Rattle.std.specs.List.{AllByRecursion, flat_map, fold}
use Rattle.qs_plan_meaning.specs.declared.stage.Stage.{Stage, fold-Stage}
use Rattle.qs_plan_meaning.specs.declared.stage.Stage.TheOpen.{Stage-F, Group-F, Triple, Path}
use Rattle.qs_plan_meaning.specs.declared.stage.Stage.TheOpen.{Exists, Names, Name, Filter, Bind}
use Rattle.qs_plan_meaning.specs.declared.stage.Stage.TheOpen.{Values, Union, Optional, Fed, Minus}
use Rattle.qs_plan_meaning.specs.declared.stage.Stage.TheOpen.{Apart}
use Rattle.qs_plan_meaning.specs.inner.Stages.{Made}

-- a stage, the position where its rows go on, and for a union the positions where its branches
-- begin
pub record Instruction : Type 0 where
  pub stage : Stage
  pub next : ℕ
  pub starts : List ℕ

abbrev pub is_union_level : Stage-F Bool Bool → Bool
is_union_level (Triple place p) = false
is_union_level (Path place p) = false
is_union_level (Exists name) = false
is_union_level (Names r) = false
is_union_level (Name v r) = false
is_union_level (Filter e) = false
is_union_level (Bind v e) = false
is_union_level (Values table) = false
is_union_level (Union branches) = true
is_union_level (Optional r group conditions) = false
is_union_level (Fed group conditions) = false
is_union_level (Minus r group) = false
is_union_level (Apart r group) = false

abbrev pub is_union_group : Group-F Bool Bool → Bool
is_union_group group = false

abbrev pub is_union : Stage → Bool
is_union = fold-Stage Bool Bool is_union_level is_union_group

-- ---- positions

-- what stands at a position, where `values` has what stands at each instruction
abbrev pub value_at : {A : Type 0} → A → A → List A → ℕ → A
value_at finished past values zero = finished
value_at finished past values (suc k) = get_or values k past

-- what stands at each instruction, where it follows from what stands before it
abbrev pub values_of : {A : Type 0} → (List A → Instruction → A) → List Instruction → List A
values_of f code = fold (λ values i. values ++ f values i ∷ []) [] code

-- it names positions before its own, which is k + 1
pub record NamesBefore (k : ℕ) (i : Instruction) : Type 0 where
  pub next : i.next ≤ k
  pub starts : AllByRecursion (λ start. start ≤ k) i.starts

-- each instruction names positions before its own
pub record IsForward (code : List Instruction) : Type 0 where
  pub each : (k : ℕ) (i : Instruction) → k < length code → i ≡ get_or code k i → NamesBefore k i

-- ---- the flow

abbrev pub finished : Made
finished m = m ∷ []

abbrev pub nothing : Made
nothing m = []

-- what comes of a row at a position, where `fs` has what comes of it at each instruction
abbrev pub at : List Made → ℕ → Made
at fs position = value_at finished nothing fs position

-- what comes of a row at an instruction
abbrev pub instr_made : (Stage → Made) → List Made → Instruction → Made
instr_made gives fs i m = if is_union i.stage then flat_map (λ start. at fs start m) i.starts
    else flat_map (at fs i.next) (gives i.stage m)

abbrev pub meanings : (Stage → Made) → List Instruction → List Made
meanings gives code = values_of (instr_made gives) code

-- what comes of a row at a position of the program
abbrev pub flow : (Stage → Made) → List Instruction → ℕ → Made
flow gives code position = at (meanings gives code) position

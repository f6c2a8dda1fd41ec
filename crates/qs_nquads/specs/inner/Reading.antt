-- How a text is read: from left to right, the longest front of the table at each place.
use Rattle.std.specs.Prelude.{◌≡◌, ℕ, List, [], ◌∷◌, ◌++◌, take, drop, if◌then◌else◌}
use Rattle.std.specs.Prelude.{Option, Some, None, Result, Ok, Err}
use Rattle.std.specs.Str.{chars}
use Rattle.qs_lex_regular.specs.inner.Best.{best}
use Rattle.qs_terms.specs.Statement.{Statement}
use Rattle.qs_nquads.specs.Table.{table}
use Rattle.qs_nquads.specs.inner.Gap.{behind_gap}
use Rattle.qs_nquads.specs.Labels.{Numbering, from}
use Rattle.qs_nquads.specs.inner.PartAt.{part_of}
use Rattle.qs_nquads.specs.inner.StatementState.{after, may_end}
use Rattle.qs_nquads.specs.declared.class.Class.{Class}
use Rattle.qs_nquads.specs.declared.fault.NqFaultKind.{NqFaultKind}
use Rattle.qs_nquads.specs.declared.fault.NqFaultKind.TheVariants as fault
use Rattle.qs_nquads.specs.declared.part.Part.{Part}
use Rattle.qs_nquads.specs.declared.statement_state.StatementState.{StatementState}
use Rattle.qs_nquads.specs.declared.statement_state.StatementState.TheVariants as place
use Rattle.qs_nquads.specs.inner.Next.{Next}
use Rattle.qs_nquads.specs.inner.Next as next

-- what was read: the place in a statement, the labels and the whole statements so far
pub record Reading : Type 0 where
  pub place : StatementState
  pub labels : Numbering
  pub quads : List Statement

-- the same, before the bytes that are left
pub record State : Type 0 where
  pub reading : Reading
  pub rest : List ℕ

-- nothing was read, and the next new label gets the number
abbrev pub at_first : ℕ → Reading
at_first first = record { place = place.Start; labels = from first; quads = [] }

abbrev pub start : ℕ → List ℕ → State
start first text = record { reading = at_first first; rest = text }

-- what comes after a state: another state, the text's lawful end, or a fault at the front of the
-- bytes that are left
pub data Step : Type 0 where
  goes : State → Step
  ends : Step
  stops : NqFaultKind → List ℕ → Step

-- with what a part made of the place
abbrev pub placed : List Statement → Numbering → Result Next NqFaultKind
    → Result Reading NqFaultKind
placed quads labels (Ok (next.StatementState p)) =
    Ok (record { place = p; labels = labels; quads = quads })
placed quads labels (Ok (next.Quad q)) =
    Ok (record { place = place.Done; labels = labels; quads = quads ++ q ∷ [] })
placed quads labels (Err f) = Err f

-- with a part at the place
abbrev pub taken : StatementState → List Statement → Result (Part × Numbering) NqFaultKind
    → Result Reading NqFaultKind
taken p quads (Ok t) = placed quads t.1 (after p t.0)
taken p quads (Err f) = Err f

-- with a front of a class
abbrev pub read : Reading → Class → List ℕ → Result Reading NqFaultKind
read r class token = taken r.place r.quads (part_of r.place r.labels class token)

abbrev pub stepped : List ℕ → List ℕ → Result Reading NqFaultKind → Step
stepped front rest (Ok r) = goes (record { reading = r; rest = rest })
stepped front rest (Err f) = stops f front

-- where this is left after the gap, and its longest front has a class and so many bytes
abbrev pub step_over : Reading → List ℕ → Option (Class × ℕ) → Step
step_over r front None = stops fault.Token front
step_over r front (Some t) = stepped front (drop t.1 front) (read r t.0 (take t.1 front))

-- where this is left after the gap
abbrev pub step_from : Reading → List ℕ → Step
step_from r [] = if may_end r.place then ends else stops fault.Shape []
step_from r (b ∷ bs) = step_over r (b ∷ bs) (best table (chars (b ∷ bs)))

-- one token more
abbrev pub step : State → Step
step s = step_from s.reading (behind_gap s.rest)

-- by any number of tokens
pub data Comes (s : State) : State → Type 0 where
  here : Comes s s
  on : (t u : State) → Comes s t → step t ≡ goes u → Comes s u

-- A text that is read a statement at a time.
use Rattle.std.specs.Prelude.{◌≡◌, ℕ, List, [], ◌∷◌, ◌++◌, Option, Some, None, Result, Ok}
use Rattle.std.specs.Str.{IsUtf8}
use Rattle.qs_terms.specs.Statement.{Statement}
use Rattle.qs_nquads.specs.Labels.{Numbering}
use Rattle.qs_nquads.specs.inner.Next.{Next}
use Rattle.qs_nquads.specs.inner.Reading.{Reading, State, start, Comes, placed}
use Rattle.qs_nquads.specs.Nquads.{IsNquads}
use Rattle.qs_nquads.specs.inner.Outcome.{Ends}
use Rattle.qs_nquads.specs.declared.fault.NqFaultKind.{NqFaultKind}
use Rattle.qs_nquads.specs.declared.statement_state.StatementState.{StatementState}
use Rattle.qs_nquads.specs.declared.statement_state.StatementState.TheVariants as place

-- the whole text, where reading has come to in a statement, the labels so far, and the bytes that
-- are left
pub record Unread : Type 0 where
  pub bytes : List ℕ
  pub place : StatementState
  pub labels : Numbering
  pub rest : List ℕ

-- with these statements before it
abbrev pub reading : StatementState → Numbering → List Statement → Reading
reading p labels quads = record { place = p; labels = labels; quads = quads }

abbrev pub state : StatementState → Numbering → List ℕ → List Statement → State
state p labels rest quads = record { reading = reading p labels quads; rest = rest }

-- one statement more, or none
abbrev pub with_next : List Statement → Option Statement → List Statement
with_next quads None = quads
with_next quads (Some q) = quads ++ q ∷ []

-- reading goes on at this place, with the statement that is whole, if one is
abbrev pub GoesOn : Result Next NqFaultKind → Option Statement → StatementState → Type 0
GoesOn outcome next p =
    (quads : List Statement) (labels : Numbering)
    → placed quads labels outcome ≡ Ok (reading p labels (with_next quads next))

-- a reader whose labels are numbered from `first` has handed out these statements of its text,
-- and has come after the last of them
abbrev pub HasRead : ℕ → List Statement → Unread → Type 0
HasRead first quads u =
    IsUtf8 u.bytes × Comes (start first u.bytes) (state u.place u.labels u.rest quads)

-- the reader stands directly after the `.` of the statement that it handed out last
abbrev pub IsAfterStatement : Unread → Type 0
IsAfterStatement u = u.place ≡ place.Done

-- the next statement was handed out, or the text has ended
abbrev pub HasComeTo : ℕ → List Statement → Option Statement → Unread → Type 0
HasComeTo first quads (Some q) u = HasRead first (quads ++ q ∷ []) u
HasComeTo first quads None u = HasRead first quads u × IsNquads u.bytes first quads u.labels.next

-- the same by steps, from a state
abbrev pub IsNextOf : State → List Statement → Option Statement → StatementState → Numbering
    → List ℕ → Type 0
IsNextOf from quads (Some q) p labels rest = Comes from (state p labels rest (quads ++ q ∷ []))
IsNextOf from quads None p labels rest =
    Comes from (state p labels rest quads) × Ends from (reading p labels quads)

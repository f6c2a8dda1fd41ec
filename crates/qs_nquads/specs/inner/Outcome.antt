-- What reading bytes results in, a token at a time.
use Rattle.std.specs.Prelude.{◌≡◌, ◌<◌, ◌⊎◌, ℕ, ◌-◌, List, length}
use Rattle.std.specs.Str.{IsUtf8, IsValidUpTo}
use Rattle.qs_terms.specs.Statement.{Statement}
use Rattle.qs_nquads.specs.inner.Gap.{behind_gap}
use Rattle.qs_nquads.specs.Nquads.{line_at}
use Rattle.qs_nquads.specs.inner.Reading.{Reading, State, start, step, ends, stops, Comes}
use Rattle.qs_nquads.specs.declared.fault.NqFaultKind.{NqFaultKind}
use Rattle.qs_nquads.specs.declared.fault.NqFaultKind.TheVariants as fault

-- reading results in the lawful end of the text, and this was read
abbrev pub Ends : State → Reading → Type 0
Ends from r =
    (rest : List ℕ) × Comes from (record { reading = r; rest = rest })
    × (step (record { reading = r; rest = rest }) ≡ ends)

-- reading stops with a fault where so many bytes are left
abbrev pub StopsAt : State → NqFaultKind → ℕ → Type 0
StopsAt from kind left =
    (s : State) × (rest : List ℕ) × Comes from s × (step s ≡ stops kind rest)
    × (left ≡ length rest)

-- reading results in a token where so many bytes are left
abbrev pub ComesTo : State → ℕ → Type 0
ComesTo from left = (s : State) × Comes from s × (left ≡ length (behind_gap s.rest)) × (0 < left)

-- the fault is due where so many bytes are left; memory may run out at any token, and what is read
-- is UTF-8
abbrev pub IsStop : State → NqFaultKind → ℕ → Type 0
IsStop from fault.Memory left = ComesTo from left
IsStop from fault.Utf8 left = ⊥
IsStop from kind left = StopsAt from kind left

-- reading results in the end, these statements were read, and the next new label would get the
-- number `next`
abbrev pub ReadsAll : List ℕ → ℕ → List Statement → ℕ → Type 0
ReadsAll bytes first quads next =
    IsUtf8 bytes
    × ((r : Reading) × Ends (start first bytes) r × (r.quads ≡ quads) × (r.labels.next ≡ next))

-- the bytes aren't UTF-8, or reading stops with a fault at this line
abbrev pub FailsAt : List ℕ → ℕ → NqFaultKind → ℕ → Type 0
FailsAt bytes first kind line =
    ((kind ≡ fault.Utf8) × (¬ (IsUtf8 bytes))
    × ((n : ℕ) × IsValidUpTo bytes n × (line ≡ line_at bytes n)))
    ⊎ (IsUtf8 bytes × ((left : ℕ) × IsStop (start first bytes) kind left
    × (line ≡ line_at bytes (length bytes - left))))

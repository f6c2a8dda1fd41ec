-- What a call of a network logs.
use Rattle.std.specs.Prelude.{ℕ, List, [], ◌∷◌, take, Option, Result, Ok, Err}
use Rattle.qs_service_reactor.specs.Log.{Io, Got, Put, Fin, Logs}

-- a read is logged, unless it failed
abbrev pub LogsGot : {E : Type 0} → Option (List Io) → Option (List Io) → ℕ → Result ℕ E → List ℕ
    → Type 0
LogsGot old new place (Ok n) buf = Logs old new (Got place (take n buf) ∷ [])
LogsGot old new place (Err e) buf = Logs old new []

-- so is a write
abbrev pub LogsPut : {E : Type 0} → Option (List Io) → Option (List Io) → ℕ → Result ℕ E → List ℕ
    → Type 0
LogsPut old new place (Ok n) bytes = Logs old new (Put place (take n bytes) ∷ [])
LogsPut old new place (Err e) bytes = Logs old new []

-- and the end of the writes
abbrev pub LogsFin : {T E : Type 0} → Option (List Io) → Option (List Io) → ℕ → Result T E → Type 0
LogsFin old new place (Ok t) = Logs old new (Fin place ∷ [])
LogsFin old new place (Err e) = Logs old new []

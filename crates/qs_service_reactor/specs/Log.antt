-- What comes and goes on connections, each named by its place. The log of a network is known, or it
-- is not, as with sockets.
use Rattle.std.specs.Prelude.{◌≡◌, ℕ, List, ◌++◌, Option, None, Some, ⊤}

-- bytes came from a peer, went to one, or one was told that no more come
pub data Io : Type 0 where
  Got : (place : ℕ) → (bytes : List ℕ) → Io
  Put : (place : ℕ) → (bytes : List ℕ) → Io
  Fin : (place : ℕ) → Io

-- a log, where it is known, grows by these
abbrev pub Logs : Option (List Io) → Option (List Io) → List Io → Type 0
Logs None new ios = ⊤
Logs (Some old) None ios = ⊥
Logs (Some old) (Some new) ios = new ≡ old ++ ios

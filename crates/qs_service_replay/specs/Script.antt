-- The text of a script: a line for each connection event.
use Rattle.std.specs.Prelude.{◌≡◌, ◌≢◌, ◌<◌, ◌^◌, ◌+◌, ◌⊎◌, ℕ, List, [], ◌∷◌, ◌++◌, length, codes}
use Rattle.std.specs.Prelude.{Ok}
use Rattle.std.specs.List.{All, AllZip}
use Rattle.std.specs.Str.Parse.{IsNumeral, digits_value}
use Rattle.hex.specs.Hex.{decode_of}
use Rattle.qs_service_connections.specs.Step.{Event, Join, Piece, End}

-- the first line of a text, without its LF, and what stands after it; the last LF of a text may be
-- missing
abbrev pub IsFirstLine : List ℕ → List ℕ → List ℕ → Type 0
IsFirstLine text line rest =
    All (λ b. b ≢ 10) line
    × ((text ≡ line ++ 10 ∷ rest) ⊎ ((text ≡ line) × (line ≢ []) × (rest ≡ [])))

-- the lines of a text: where nothing stands there is none, be it after the last LF or in an empty
-- text
abbrev pub AreLines : List ℕ → List (List ℕ) → Type 0
AreLines text [] = text ≡ []
AreLines text (line ∷ lines) = (rest : List ℕ) × IsFirstLine text line rest × AreLines rest lines

-- an id, written in ASCII digits alone, of which there is one or more; it fits 64 bits, and zeros
-- may lead
abbrev pub IsId : List ℕ → ℕ → Type 0
IsId ds id = IsNumeral 10 ds × (digits_value 10 ds < 2 ^ 64) × (id ≡ digits_value 10 ds)

-- the line of an event: its word, its id and its bytes in hex of either case, parted by one space,
-- which stands before an empty hex too
abbrev pub IsLine : List ℕ → Event → Type 0
IsLine line (Join id) = (digits : List ℕ) × IsId digits id × (line ≡ codes "join " ++ digits)
IsLine line (Piece id bytes) = (digits hex : List ℕ) × IsId digits id × (decode_of hex ≡ Ok bytes)
    × (line ≡ codes "piece " ++ (digits ++ 32 ∷ hex))
IsLine line (End id) = (digits : List ℕ) × IsId digits id × (line ≡ codes "end " ++ digits)

-- the text is a script of these events, in their order
abbrev pub IsScript : List ℕ → List Event → Type 0
IsScript text events = (lines : List (List ℕ)) × AreLines text lines × AllZip IsLine lines events

-- the text is no script: the nth of its lines, from 1, is the first that tells no event
abbrev pub IsOtherLine : List ℕ → ℕ → Type 0
IsOtherLine text n =
    (front after : List (List ℕ)) × (line : List ℕ) × (events : List Event)
    × AreLines text (front ++ line ∷ after) × AllZip IsLine front events
    × (¬ ((event : Event) × IsLine line event)) × (n ≡ length front + 1)

-- Definitions over those of `Outcome`, for proofs and the layers between.
use Rattle.std.specs.Prelude.{ℕ, List, Ok}
use Rattle.qs_store.specs.Content.{Content}
use Rattle.qs_update.specs.Request.{Bounds}
use Rattle.qs_update.specs.Outcome.{IsOutcomeOfText, IsSameContent}

-- the request is accepted, and the store holds what it makes
abbrev pub IsAccepted : Bounds → List ℕ → Content → Content → Type 0
IsAccepted bounds text old new =
    (c : Content) × IsOutcomeOfText bounds text old (Ok c) × IsSameContent new c

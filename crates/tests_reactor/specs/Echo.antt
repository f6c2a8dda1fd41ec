-- The replies of the endpoint.
use Rattle.std.specs.Prelude.{ℕ, List, Option, Some, None, Vec, slice_get}

-- the reply that a place holds
abbrev pub reply_in : {A : Type 0} → Option (Option (Vec ℕ A)) → Option (List ℕ)
reply_in None = None
reply_in (Some None) = None
reply_in (Some (Some reply)) = Some reply.items

abbrev pub reply_at : {A : Type 0} → List (Option (Vec ℕ A)) → ℕ → Option (List ℕ)
reply_at replies id = reply_in (slice_get replies id)

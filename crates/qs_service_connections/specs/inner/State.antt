-- Words over those of `State` and `Step`.
use Rattle.std.specs.Prelude.{ℕ, List, Option, None, Some}
use Rattle.qs_service_connections.specs.State.{Exchange, Joined, with_exchange, with_taken}

-- the connections, where that one has come as far as the exchange says
abbrev pub put_exchange : ℕ → Exchange → List Joined → List Joined
put_exchange id exchange joined = with_exchange id (λ _. exchange) joined

-- the connections once bytes are taken: only their count changes
abbrev pub joined_taken : ℕ → ℕ → Option Exchange → List Joined → List Joined
joined_taken id n None joined = joined
joined_taken id n (Some exchange) joined = put_exchange id (with_taken n exchange) joined

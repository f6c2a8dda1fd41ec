-- What a service keeps.
use Rattle.std.specs.Prelude.{ℕ}
use Rattle.qs_store.specs.Content.{Content, Held}
use Rattle.qs_update.specs.Request.{Bounds, bounds_of}
use Rattle.qs_service_connections.specs.State as connections

-- what is stored, and what is fixed for requests
pub record Stored : Type 0 where
  pub content : Content
  pub bounds : Bounds

-- that of a store, where a query or the WHERE of an update may have so many solutions
abbrev pub stored_of : ℕ → Held → Stored
stored_of max_rows held = record { content = held.base; bounds = bounds_of max_rows held }

-- these and the joined connections
abbrev pub State : Type 0
State = connections.State Stored

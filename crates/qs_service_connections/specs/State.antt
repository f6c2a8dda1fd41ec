-- What connections keep: what is stored, and the joined connections.
use Rattle.std.specs.Prelude.{◌+◌, ◌==◌, ℕ, List, [], ◌∷◌, length, take, drop, Option, None, Some}
use Rattle.std.specs.Prelude.{if◌then◌else◌, option_map}
use Rattle.std.specs.List.{find}
use Rattle.qs_service_connections.specs.Message.{Message}

-- how far a connection has come: the bytes so far, or its reply and how many of its bytes were
-- taken
pub data Exchange : Type 0 where
  Reading : (bytes : List ℕ) → Exchange
  Answered : (reply : Message) → (taken : ℕ) → Exchange

pub record Joined : Type 0 where
  pub id : ℕ
  pub exchange : Exchange

-- what is stored, with what is fixed for requests, and the joined connections
pub record State (S : Type 0) : Type 0 where
  pub stored : S
  pub joined : List Joined

-- how far the connection of that id has come
abbrev pub exchange_of : ℕ → List Joined → Option Exchange
exchange_of id joined = option_map (λ c. c.exchange) (find (λ c. c.id == id) joined)

-- the connections, where that one has come as far as f says
abbrev pub with_exchange : ℕ → (Exchange → Exchange) → List Joined → List Joined
with_exchange id f [] = []
with_exchange id f (c ∷ joined) = if c.id == id then record c { exchange = f c.exchange } ∷ joined
    else c ∷ with_exchange id f joined

-- the other connections
abbrev pub without_id : ℕ → List Joined → List Joined
without_id id [] = []
without_id id (c ∷ joined) = if c.id == id then joined else c ∷ without_id id joined

-- the reply, where it stands
abbrev pub reply_in : Option Exchange → Option Message
reply_in (Some (Answered reply taken)) = Some reply
reply_in _ = None

abbrev pub reply_at : ℕ → List Joined → Option Message
reply_at id joined = reply_in (exchange_of id joined)

-- the next n bytes of a reply of which so many were taken, or those that are left where they are
-- fewer; none while there is no reply
abbrev pub next_bytes : ℕ → Exchange → List ℕ
next_bytes n (Reading bytes) = []
next_bytes n (Answered reply taken) = take n (drop taken reply.bytes)

-- these are taken, and nothing else changes
abbrev pub with_taken : ℕ → Exchange → Exchange
with_taken n (Reading bytes) = Reading bytes
with_taken n (Answered reply taken) =
    Answered reply (taken + length (next_bytes n (Answered reply taken)))

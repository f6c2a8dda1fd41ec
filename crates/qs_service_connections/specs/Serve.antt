-- One connection, served apart from the joined ones, over a stream of bytes.
use Rattle.std.specs.Prelude.{◌≡◌, ◌<◌, ℕ, List, [], length, take, Option, Result, Ok, Err}
use Rattle.std.specs.Io.KnownBytes.{Appends, Consumes, IsAtEnd, Keeps}
use Rattle.qs_terms.specs.Device.{one_more}
use Rattle.qs_http.specs.Outcome.{More}
use Rattle.qs_http.specs.RequestOf.{IsRequestOf}
use Rattle.qs_service_connections.specs.Meaning.{RequestMeaning}
use Rattle.qs_service_connections.specs.Message.{Message}
use Rattle.qs_service_connections.specs.State.{Reading, Answered}
use Rattle.qs_service_connections.specs.Step.{Receives}
use Rattle.qs_service_connections.specs.declared.served.Served.{Served}
use Rattle.qs_service_connections.specs.declared.served.Served.TheVariants as served
use Rattle.qs_service_connections.specs.declared.served.ServeFault.{ServeFault}
use Rattle.qs_service_connections.specs.declared.served.ServeFault.TheVariants as fault

-- what became of the bytes read: nothing is carried out unless a reply is made, by the step that
-- they bring. `before` and `after` are the bytes that the stream had taken, where they are known.
-- Answered: it took the whole reply, whose status is told. Silent: more are wanted of all the bytes
-- that it gave. After a fault of writing it took a front of the reply, not all of it, whose length
-- is told
abbrev pub BecomesOf : {S : Type 0} → RequestMeaning S → S → List ℕ → Result Served ServeFault → S
    → Option (List ℕ) → Option (List ℕ) → Option (List ℕ) → Type 0
BecomesOf carries old read (Ok (served.Answered status)) new left before after =
    (reply : Message) × Receives carries old (Reading []) read new (Answered reply 0)
    × (status ≡ reply.status) × Appends before after reply.bytes
BecomesOf carries old read (Ok served.Silent) new left before after =
    IsRequestOf read More × IsAtEnd left × (new ≡ old) × Keeps before after
BecomesOf carries old read (Err fault.Read) new left before after = (new ≡ old) × Keeps before after
BecomesOf carries old read (Err (fault.Write written)) new left before after =
    (reply : Message) × Receives carries old (Reading []) read new (Answered reply 0)
    × (written < length reply.bytes) × Appends before after (take written reply.bytes)

-- some bytes are read from the front of those that the stream gives, and this becomes of them
abbrev pub Serves : {S : Type 0} → RequestMeaning S → S → Option (List ℕ) → Option (List ℕ)
    → Result Served ServeFault → S → Option (List ℕ) → Type 0
Serves carries old given before r new after =
    (read : List ℕ) × (left : Option (List ℕ)) × Consumes given left read
    × BecomesOf carries old read r new left before after

-- a fault of the stream is answered only where its count rose
abbrev pub CountsFault : {A : Type 0} → ℕ → ℕ → Result A ServeFault → Type 0
CountsFault old new (Ok a) = new ≡ old
CountsFault old new (Err e) = new ≡ one_more old

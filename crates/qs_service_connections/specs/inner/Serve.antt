-- The parts of serving a connection: its bytes are read, and its reply is written.
use Rattle.std.specs.Prelude.{◌≡◌, ◌<◌, ℕ, List, [], length, take, Option, None, Some, Result, Ok}
use Rattle.std.specs.Prelude.{Err}
use Rattle.std.specs.Io.KnownBytes.{Appends, Consumes, IsAtEnd}
use Rattle.qs_http.specs.Outcome.{More}
use Rattle.qs_http.specs.RequestOf.{IsRequestOf}
use Rattle.qs_service_connections.specs.Meaning.{RequestMeaning}
use Rattle.qs_service_connections.specs.Message.{Message}
use Rattle.qs_service_connections.specs.State.{Reading, Answered}
use Rattle.qs_service_connections.specs.Step.{Receives}
use Rattle.qs_service_connections.specs.declared.served.ServeFault.{ServeFault}
use Rattle.qs_service_connections.specs.declared.served.ServeFault.TheVariants as fault

-- the bytes read resulted in this request or refusal, or in out of memory: its step was made, and
-- this is its reply
abbrev pub IsAnsweredWith : {S : Type 0} → RequestMeaning S → S → List ℕ → S → Message → Type 0
IsAnsweredWith carries old read new r = Receives carries old (Reading []) read new (Answered r 0)

-- what the bytes read resulted in
abbrev pub ListensTo : {S : Type 0} → RequestMeaning S → S → List ℕ
    → Result (Option Message) ServeFault → S → Option (List ℕ) → Type 0
ListensTo carries old read (Ok (Some reply)) new left = IsAnsweredWith carries old read new reply
ListensTo carries old read (Ok None) new left = IsRequestOf read More × IsAtEnd left × (new ≡ old)
ListensTo carries old read (Err fault.Read) new left = new ≡ old
ListensTo carries old read (Err (fault.Write written)) new left = ⊥

abbrev pub Listens : {S : Type 0} → RequestMeaning S → S → Option (List ℕ)
    → Result (Option Message) ServeFault → S → Option (List ℕ) → Type 0
Listens carries old given r new left =
    (read : List ℕ) × Consumes given left read × ListensTo carries old read r new left

-- the reply was written whole, or a front of it
abbrev pub PutsReply : Message → Option (List ℕ) → Result (Unit {0}) ServeFault → Option (List ℕ)
    → Type 0
PutsReply reply before (Ok done) after = Appends before after reply.bytes
PutsReply reply before (Err fault.Read) after = ⊥
PutsReply reply before (Err (fault.Write written)) after =
    (written < length reply.bytes) × Appends before after (take written reply.bytes)

-- What is written of a reply.
use Rattle.std.proofs.Common.{◌≡◌, ℕ, List, Option, Some, Ok, Err}
use Rattle.std.specs.Io.KnownBytes.{Keeps}
use Rattle.qs_service_connections.specs.Meaning.{RequestMeaning}
use Rattle.qs_service_connections.specs.Message.{Message}
use Rattle.qs_service_connections.specs.Serve.{Serves}
use Rattle.qs_service_connections.specs.inner.Serve.{Listens, PutsReply}
use Rattle.qs_service_connections.specs.declared.served.Served.TheVariants as served
use Rattle.qs_service_connections.specs.declared.served.ServeFault.{ServeFault}
use Rattle.qs_service_connections.specs.declared.served.ServeFault.TheVariants as fault
use Rattle.qs_service_connections.proofs.Listening.{keeps_appends}

-- a reply was made, and then written
module _ {S : Type 0} (carries : RequestMeaning S) (old new : S) (given left before mid after : Option (List ℕ)) (reply : Message) where
  pub served_in_part : (f : ServeFault) → Listens carries old given (Ok (Some reply)) new left → Keeps before mid → PutsReply reply mid (Err f) after → Serves carries old given before (Err f) new after
  served_in_part fault.Read h k p = absurd p
  served_in_part (fault.Write written) h k p = (h.0, left, h.1, (reply, h.2, p.0, keeps_appends before mid after _ k p.1))

  pub served_whole : (status : ℕ) → status ≡ reply.status → Listens carries old given (Ok (Some reply)) new left → Keeps before mid → PutsReply reply mid (Ok tt) after
      → Serves carries old given before (Ok (served.Answered status)) new after
  served_whole status is h k p = (h.0, left, h.1, (reply, h.2, is, keeps_appends before mid after _ k p))

-- What a connection's bytes can result in.
use Rattle.qs_http.specs.declared.fixed_reply.Fixed.{Fixed}
use Rattle.qs_http.specs.declared.request.Request.{Request}

-- more bytes are wanted; a request (SPARQL 1.1 Protocol, 2); or a refusal by a fixed reply
pub data Outcome : Type 0 where
  More : Outcome
  Ready : (request : Request) → Outcome
  Refused : (fixed : Fixed) → Outcome

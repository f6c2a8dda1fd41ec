-- A request, carried out over what is stored (SPARQL 1.1 Protocol, 2.1 and 2.2).
use Rattle.std.specs.Prelude.{◌≡◌, ℕ, List, [], ◌∷◌, ◌++◌, Ok, Err}
use Rattle.serde_json.specs.Written.{compact_text}
use Rattle.qs_terms.specs.Outcome.{Outcome}
use Rattle.qs_terms.specs.declared.fault.QFault.{QFault}
use Rattle.qs_algebra_solutions.specs.declared.answer.Answer.{Answer}
use Rattle.qs_algebra_solutions.specs.declared.answer.Answer.TheVariants.{Solutions, Truth, Graph}
use Rattle.qs_results.specs.Json.{json_of}
use Rattle.qs_results.specs.Lines.{fault_line, fault_status}
use Rattle.qs_results.specs.Triples.{ntriples_of}
use Rattle.qs_http.specs.declared.fixed_reply.Fixed.TheVariants.{NoContent}
use Rattle.qs_http.specs.declared.request.Request.{Request}
use Rattle.qs_http.specs.declared.request.Request.TheVariants.{Query, Update, Dump}
use Rattle.qs_http.specs.declared.media.Media.TheVariants.{Results, NTriples, NQuads, Text}
use Rattle.qs_store.specs.Content.{Content}
use Rattle.qs_update.specs.Outcome.{IsSameContent}
use Rattle.qs_service_connections.specs.Message.{Message, message, fixed_message}
use Rattle.qs_service.specs.Language.{Language}
use Rattle.qs_service.specs.State.{Stored}

-- the line of the fault and LF
abbrev pub fault_reply : QFault → Message
fault_reply f = message (fault_status f) Text (fault_line f ++ 10 ∷ [])

-- solutions and a truth as JSON, a graph as N-Triples
abbrev pub answer_reply : Answer → Message
answer_reply (Solutions vs rows) = message 200 Results (compact_text (json_of (Solutions vs rows)))
answer_reply (Truth b) = message 200 Results (compact_text (json_of (Truth b)))
answer_reply (Graph quads) = message 200 NTriples (ntriples_of (Graph quads))

-- the reply to a query
abbrev pub query_reply : Outcome Answer → Message
query_reply (Ok answer) = answer_reply answer
query_reply (Err f) = fault_reply f

-- what is stored after an update, and its reply: the content that it makes, with what is fixed for
-- requests as it was, and 204; a refused one changes nothing
abbrev pub IsUpdated : Stored → Outcome Content → Stored → Message → Type 0
IsUpdated old (Ok c) new reply =
    IsSameContent new.content c × (new.bounds ≡ old.bounds) × (reply ≡ fixed_message NoContent)
IsUpdated old (Err f) new reply = (new ≡ old) × (reply ≡ fault_reply f)

-- what a request does: carried out over what is stored, with that reply; only an update changes
-- what is stored
abbrev pub Carries : Language → Stored → Request → Stored → Message → Type 0
Carries l old (Query text) new reply =
    (outcome : Outcome Answer) × l.answers old.bounds text old.content outcome × (new ≡ old)
    × (reply ≡ query_reply outcome)
Carries l old (Update text) new reply =
    (outcome : Outcome Content) × l.changes old.bounds text old.content outcome
    × IsUpdated old outcome new reply
Carries l old Dump new reply = (bytes : List ℕ) × l.writes old.content bytes × (new ≡ old)
    × (reply ≡ message 200 NQuads bytes)

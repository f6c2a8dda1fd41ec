-- A reply that was made, or that of out of memory.
use Rattle.std.proofs.Common.{◌≡◌, ◌∙◌, ◌++◌, ℕ, List, length, drop, ap, sym, subst, refl, Result, Ok, Err, IfOk, inl, inr}
use Rattle.std.proofs.Math.Seq.{drop-append_seam}
use Rattle.qs_terms.specs.declared.fault.QFault.{QFault}
use Rattle.qs_algebra_solutions.specs.declared.answer.Answer.{Answer}
use Rattle.qs_http.specs.declared.fixed_reply.Fixed.TheVariants.{NoContent}
use Rattle.qs_http.specs.declared.media.Media.TheVariants.{NQuads}
use Rattle.qs_http.specs.declared.request.Request.{Request}
use Rattle.qs_http.specs.declared.request.Request.TheVariants.{Query, Update, Dump}
use Rattle.qs_store.specs.Content.{Content}
use Rattle.qs_update.specs.Outcome.{IsSameContent}
use Rattle.qs_update.specs.Request.{Bounds}
use Rattle.qs_service_connections.specs.inner.Meaning.{CarriesOrMemory}
use Rattle.qs_service_connections.specs.Message.{Message, message, fixed_message}
use Rattle.qs_service.specs.Carried.{Carries, answer_reply, fault_reply}
use Rattle.qs_service.specs.Language.{Language}
use Rattle.qs_service.specs.State.{Stored}
use Rattle.qs_service.specs.inner.Made.{MadeOf, CarriesDump}

-- a request that left what is stored
pub carries_or : {E : Type 0} (l : Language) (old : Stored) (request : Request) (made : Result Message E) (reply : Message)
    → IfOk made (Carries l old request old) → MadeOf made reply → CarriesOrMemory (Carries l) old request old reply
carries_or l old request (Ok r) reply carries is = inl (subst (λ (x : Message). Carries l old request old x) (sym is) carries)
carries_or l old request (Err e) reply carries is = inr (refl, is)

-- a query's reply
pub asked_answered : {E : Type 0} (l : Language) (old : Stored) (text : List ℕ) (answer : Answer) (r : Result Message E)
    → l.answers old.bounds text old.content (Ok answer) → IfOk r (λ reply. reply ≡ answer_reply answer) → IfOk r (Carries l old (Query text) old)
asked_answered l old text answer (Ok reply) due is = (Ok answer, due, refl, is)
asked_answered l old text answer (Err e) due is = is

pub asked_refused : {E : Type 0} (l : Language) (old : Stored) (text : List ℕ) (f : QFault) (r : Result Message E)
    → l.answers old.bounds text old.content (Err f) → IfOk r (λ reply. reply ≡ fault_reply f) → IfOk r (Carries l old (Query text) old)
asked_refused l old text f (Ok reply) due is = (Err f, due, refl, is)
asked_refused l old text f (Err e) due is = is

-- an update's reply
pub changed_stored : (l : Language) (old new : Stored) (text : List ℕ) (c : Content) (reply : Message)
    → l.changes old.bounds text old.content (Ok c) → IsSameContent new.content c → new.bounds ≡ old.bounds → reply ≡ fixed_message NoContent → CarriesOrMemory (Carries l) old (Update text) new reply
changed_stored l old new text c reply due same bounds is = inl (Ok c, due, (same, bounds, is))

pub changed_refused : {E : Type 0} (l : Language) (old new : Stored) (text : List ℕ) (f : QFault) (made : Result Message E) (reply : Message)
    → l.changes old.bounds text old.content (Err f) → new ≡ old → IfOk made (λ r. r ≡ fault_reply f) → MadeOf made reply → CarriesOrMemory (Carries l) old (Update text) new reply
changed_refused l old new text f (Ok r) reply due same is made = inl (Err f, due, (same, made ∙ is))
changed_refused l old new text f (Err e) reply due same is made = inr (same, made)

-- the dataset's reply, whatever is fixed for requests
pub dumped_at : {E : Type 0} (l : Language) (old : Stored) (r : Result Message E)
    → IfOk r (λ reply. (bounds : Bounds) → CarriesDump l old.content bounds reply) → IfOk r (Carries l old Dump old)
dumped_at l old (Ok reply) h = h old.bounds
dumped_at l old (Err e) h = h

-- the dataset's reply, whose body was written after the room
pub dumped_reply : {E : Type 0} (l : Language) (c : Content) (text body : List ℕ) (r : Result Message E) → l.writes c text → body ≡ text
    → IfOk r (λ reply. reply ≡ message 200 NQuads body) → IfOk r (λ reply. (bounds : Bounds) → CarriesDump l c bounds reply)
dumped_reply l c text body (Ok reply) writes is made = λ bounds. (text, writes, refl, made ∙ ap (message 200 NQuads) is)
dumped_reply l c text body (Err e) writes is made = made

-- what was written after the room, where that has so many bytes
pub after_room : (size : ℕ) (room text buffer : List ℕ) → length room ≡ size → buffer ≡ room ++ text → drop size buffer ≡ text
after_room size room text buffer many is = ap (λ (n : ℕ). drop n buffer) (sym many) ∙ ap (drop (length room)) is ∙ drop-append_seam room text

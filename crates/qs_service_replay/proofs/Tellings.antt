-- What is told of an event.
use Rattle.std.proofs.Common.{◌≡◌, ℕ, List, [], ◌∷◌, ◌++◌, Option, None, Some, Bool, false, Result, Ok, Err, IfOk, MatchResult, String, Global, string_bytes, Vec, codes, refl, sym, ◌∙◌, ap, subst, append_assoc}
use Rattle.std.specs.Fmt.{decimal}
use Rattle.std.specs.Option.{is_some}
use Rattle.std.specs.declared.alloc.AllocError.{AllocError}
use Rattle.hex.specs.Hex.{encode_lower}
use Rattle.qs_service_connections.specs.Meaning.{RequestMeaning}
use Rattle.qs_service_connections.specs.Message.{Message}
use Rattle.qs_service_connections.specs.State.{State, reply_at}
use Rattle.qs_service_connections.specs.Step.{Event, Step}
use Rattle.qs_service_connections.specs.declared.fault.ServiceFault.{ServiceFault}
use Rattle.qs_service_replay.specs.inner.ScriptEvents.{event_of}
use Rattle.qs_service_replay.specs.Replay.{told, Tells, reply_line, made_line}
use Rattle.qs_service_replay.specs.inner.Told.{HadReply}
use Rattle.qs_service_replay.specs.declared.script_event.ScriptEvent.{ScriptEvent}
use Rattle.qs_service_replay.specs.declared.script_event.ScriptEvent.TheVariants as happening

-- the text is told, where it is made
pub tells_of : {S : Type 0} (r : Result (String Global) AllocError) (carries : RequestMeaning S) (old new : State S) (n : ℕ) (event : Event) (outcome : Option ServiceFault) (text : List ℕ) → Step carries old event outcome new → text ≡ told n old event outcome new
    → IfOk r (λ t. string_bytes t ≡ text) → MatchResult r (λ t. Tells carries old n event new (string_bytes t)) (λ _. (x : List ℕ) × Tells carries old n event new x)
tells_of (Ok t) carries old new n event outcome text step is made = (outcome, step, made ∙ is)
tells_of (Err e) carries old new n event outcome text step is made = (text, (outcome, step, is))

none_there : (o : Option Message) → is_some o ≡ false → o ≡ None
none_there None is = refl
none_there (Some reply) is = absurd (cc)

-- a reply that stands now and stood not before
pub made_now : {S : Type 0} (event : ScriptEvent) (id : ℕ) (bytes : Vec ℕ Global) (old new : State S) (n : ℕ) (reply : Message) (had : Bool) → event ≡ happening.Piece id bytes → HadReply old (event_of event) had → had ≡ false
    → Some reply ≡ reply_at id new.joined → reply_line id reply ≡ told n old (event_of event) None new
made_now event id bytes old new n reply had is before none now =
    let gone : reply_at id old.joined ≡ None = none_there (reply_at id old.joined) (subst (λ (h : ScriptEvent). HadReply old (event_of h) had) is before ∙ none) in
    subst (λ (h : ScriptEvent). reply_line id reply ≡ told n old (event_of h) None new) (sym is)
    (subst (λ (o : Option Message). reply_line id reply ≡ made_line id o (reply_at id new.joined)) (sym gone)
    (subst (λ (o : Option Message). reply_line id reply ≡ made_line id None o) now refl))

-- the line of a reply, made of its parts
pub line_of_parts : (id : ℕ) (reply : Message) (start hex line : List ℕ) → start ≡ codes "reply " ++ (decimal id ++ 32 ∷ []) → hex ≡ start ++ encode_lower reply.bytes → line ≡ hex ++ 10 ∷ [] → line ≡ reply_line id reply
line_of_parts id reply start hex line is_start is_hex is_line =
    is_line ∙ (ap (λ (l : List ℕ). l ++ 10 ∷ []) (is_hex ∙ ap (λ (l : List ℕ). l ++ encode_lower reply.bytes) is_start) ∙ simp append_assoc)

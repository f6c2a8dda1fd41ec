-- A reply that was made, or that of out of memory.
use Rattle.std.specs.Prelude.{◌≡◌, Result, Ok, Err}
use Rattle.qs_http.specs.declared.fixed_reply.Fixed.TheVariants.{Memory}
use Rattle.qs_http.specs.declared.request.Request.TheVariants.{Dump}
use Rattle.qs_store.specs.Content.{Content}
use Rattle.qs_update.specs.Request.{Bounds}
use Rattle.qs_service_connections.specs.Message.{Message, fixed_message}
use Rattle.qs_service.specs.Carried.{Carries}
use Rattle.qs_service.specs.Language.{Language}
use Rattle.qs_service.specs.State.{Stored}

abbrev pub MadeOf : {E : Type 0} → Result Message E → Message → Type 0
MadeOf (Ok reply) made = made ≡ reply
MadeOf (Err e) made = made ≡ fixed_message Memory

-- the whole dataset's reply, with that fixed for requests
abbrev pub CarriesDump : Language → Content → Bounds → Message → Type 0
CarriesDump l content bounds reply =
    let stored : Stored =
    record { content = content; bounds = bounds } in Carries l stored Dump stored reply

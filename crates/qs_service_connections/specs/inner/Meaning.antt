-- Definitions over those of `Meaning`, for proofs and the layers between.
use Rattle.std.specs.Prelude.{◌≡◌, ◌⊎◌}
use Rattle.qs_http.specs.declared.fixed_reply.Fixed.TheVariants.{Memory}
use Rattle.qs_service_connections.specs.Message.{fixed_message}
use Rattle.qs_service_connections.specs.Meaning.{RequestMeaning}

-- carried out with that reply, or out of memory: the fixed reply of that, and what is stored stays
abbrev pub CarriesOrMemory : {S : Type 0} → RequestMeaning S → RequestMeaning S
CarriesOrMemory carries old request new reply =
    carries old request new reply ⊎ ((new ≡ old) × (reply ≡ fixed_message Memory))

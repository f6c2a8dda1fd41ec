-- What a request does, as far as connections need it: a parameter of the steps, so that these are
-- read apart from it.
use Rattle.qs_http.specs.declared.request.Request.{Request}
use Rattle.qs_service_connections.specs.Message.{Message}

-- from what is stored, the request may lead to what is stored then, with that reply
abbrev pub RequestMeaning : Type 0 → Type 1
RequestMeaning S = S → Request → S → Message → Type 0

-- The request that a connection's joined bytes ask (RFC 9112, 2 to 6; SPARQL 1.1 Protocol, 2), by
-- six checks in their order. The first that fails decides the reply: the head's length, its grammar
-- and Host, its path, its method, its body's length and media type, its parameters.
use Rattle.std.specs.Prelude.{◌≡◌, ℕ, ◌≤◌, ◌<◌, not, ◌&&◌, nat_lt, nat_le, if◌then◌else◌, List, []}
use Rattle.std.specs.Prelude.{length, take, drop, codes, Option, None, Some, option_map, unwrap_or}
use Rattle.std.specs.Prelude.{MatchOption}
use Rattle.std.specs.Str.{is_utf8}
use Rattle.httparse.specs.Grammar.{RequestHead, ReadsRequest}
use Rattle.qs_http.specs.declared.fixed_reply.Fixed.TheVariants.{BadRequest, HeadTooLarge}
use Rattle.qs_http.specs.declared.request.Request.TheVariants.{Query, Update, Dump}
use Rattle.qs_http.specs.Outcome.{Outcome, More, Ready, Refused}
use Rattle.qs_http.specs.HeadEnd.{head_end, head_limit, without_leading}
use Rattle.qs_http.specs.Head.{Head, plain_head, is_get, at_query, at_data, is_form, body_length}
use Rattle.qs_http.specs.Head.{parameters_of}
use Rattle.qs_http.specs.Checks.{first_due, head_checks}
use Rattle.qs_http.specs.Parameters.{of_pairs, has_graph}

-- how the grammar of the parser, `httparse`, reads the bytes, whole, with room for 64 fields
abbrev pub IsReading : List ℕ → Option Head → Type 0
IsReading bytes (Some head) =
    (h : RequestHead) × ReadsRequest bytes h [] × (length h.fields ≤ 64) × (head ≡ plain_head h)
IsReading bytes None = (h : RequestHead) → ReadsRequest bytes h [] → 64 < length h.fields

-- the sixth check on a POST, whose body is a form or the text itself
unfoldable pub of_body : Head → List ℕ → Outcome
of_body h body =
    if is_form h
    then (if at_query h then of_pairs (codes "query") Query body (parameters_of h)
    else of_pairs (codes "update") Update body (parameters_of h))
    else (if is_utf8 body && not (has_graph (parameters_of h))
    then Ready (if at_query h then Query body else Update body) else Refused BadRequest)

-- the sixth check on a GET
unfoldable pub of_get : Head → Outcome
of_get h = if at_data h then Ready Dump else of_pairs (codes "query") Query (parameters_of h) []

-- what a head that passed the checks asks with these bytes after it: a GET ends with its head, a
-- POST with the last byte of its body
abbrev pub of_sound_head : Head → List ℕ → Outcome
of_sound_head h rest =
    if is_get h then of_get h
    else (if nat_lt (length rest) (body_length h) then More
    else of_body h (take (body_length h) rest))

-- the second check is the reading itself, and the first of `head_checks`
abbrev pub of_reading : Option Head → List ℕ → Outcome
of_reading None rest = Refused BadRequest
of_reading (Some h) rest =
    unwrap_or (option_map Refused (first_due (head_checks h))) (of_sound_head h rest)

-- the bytes result in this: the first check is that the head ends within its limit
unfoldable pub IsRequestOf : List ℕ → Outcome → Type 0
IsRequestOf bytes outcome = MatchOption (head_end bytes)
    (outcome ≡ (if nat_le head_limit (length bytes) then Refused HeadTooLarge else More))
    (λ end. (reading : Option Head) × IsReading (without_leading (take end bytes)) reading
    × (outcome ≡ of_reading reading (drop end bytes)))

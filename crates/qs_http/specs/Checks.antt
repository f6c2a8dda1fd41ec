-- The checks of a head that was parsed, in their order: Host, the path, the method, the body's
-- length, its media type. The parameters are checked after these.
use Rattle.std.specs.Prelude.{Bool, ◌&&◌, ◌||◌, not, ◌==◌, nat_lt, if◌then◌else◌, List, [], ◌∷◌}
use Rattle.std.specs.Prelude.{length, codes, Option, None, Some}
use Rattle.qs_http.specs.declared.fixed_reply.Fixed.{Fixed}
use Rattle.qs_http.specs.declared.fixed_reply.Fixed.TheVariants.{BadRequest, NotFound, QueryMethod}
use Rattle.qs_http.specs.declared.fixed_reply.Fixed.TheVariants.{UpdateMethod, DataMethod, NoLength}
use Rattle.qs_http.specs.declared.fixed_reply.Fixed.TheVariants.{BodyTooLarge, MediaType}
use Rattle.qs_http.specs.Head.{Head, values_of, first_of, is_get, is_post, at_query}
use Rattle.qs_http.specs.Head.{at_update, at_data, is_form, is_direct, is_number}
use Rattle.qs_http.specs.Head.{body_length}

-- of tests with the replies that are due where they hold, the first that holds decides
abbrev pub first_due : List (Bool × Fixed) → Option Fixed
first_due [] = None
first_due (check ∷ checks) = if check.0 then Some check.1 else first_due checks

-- There isn't exactly one Host field in HTTP/1.1 (RFC 9112, 3.2). The target up to its first `?`
-- isn't one of the three paths. The method isn't one of the path's. The rest are checks of a POST:
-- there is a Transfer-Encoding, or no Content-Length; there are two Content-Length fields, or the
-- value isn't digits alone. The length is above 4,194,304. There isn't exactly one Content-Type, or
-- it isn't one of the path's two.
abbrev pub head_checks : Head → List (Bool × Fixed)
head_checks h =
    let lengths = values_of (codes "content-length") h in
    let types = values_of (codes "content-type") h in
    let codings = values_of (codes "transfer-encoding") h in
    (h.minor == 1 && not (length (values_of (codes "host") h) == 1), BadRequest)
    ∷ (not (at_query h || at_update h || at_data h), NotFound)
    ∷ (at_query h && not (is_get h || is_post h), QueryMethod)
    ∷ (at_update h && not (is_post h), UpdateMethod)
    ∷ (at_data h && not (is_get h), DataMethod)
    ∷ (is_post h && (not (length codings == 0) || length lengths == 0), NoLength)
    ∷ (is_post h && not (length lengths == 1 && is_number (first_of lengths)), BadRequest)
    ∷ (is_post h && nat_lt 4194304 (body_length h), BodyTooLarge)
    ∷ (is_post h && not (length types == 1 && (is_form h || is_direct h)), MediaType)
    ∷ []

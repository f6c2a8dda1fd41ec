-- The tests of the checks, each by its name.
use Rattle.std.specs.Prelude.{ℕ, List, Bool, ◌&&◌, ◌||◌, not, ◌==◌, nat_lt, length, codes}
use Rattle.qs_http.specs.Head.{Head, values_of, first_of, is_get, is_post, at_query}
use Rattle.qs_http.specs.Head.{at_update, at_data, is_form, is_direct, is_number}
use Rattle.qs_http.specs.Head.{body_length}

abbrev pub lengths : Head → List (List ℕ)
lengths h = values_of (codes "content-length") h

-- there isn't exactly one Host field in HTTP/1.1 (RFC 9112, 3.2)
unfoldable pub lacks_host : Head → Bool
lacks_host h = h.minor == 1 && not (length (values_of (codes "host") h) == 1)

-- the target up to its first `?` isn't one of the three paths
unfoldable pub is_unknown_path : Head → Bool
is_unknown_path h = not (at_query h || at_update h || at_data h)

-- the method isn't one of the path's
unfoldable pub query_method_not_allowed : Head → Bool
query_method_not_allowed h = at_query h && not (is_get h || is_post h)

unfoldable pub update_method_not_allowed : Head → Bool
update_method_not_allowed h = at_update h && not (is_post h)

unfoldable pub data_method_not_allowed : Head → Bool
data_method_not_allowed h = at_data h && not (is_get h)

-- the rest are checks of a POST: there is a Transfer-Encoding, or no Content-Length
unfoldable pub lacks_length : Head → Bool
lacks_length h =
    is_post h && (not (length (values_of (codes "transfer-encoding") h) == 0)
    || length (lengths h) == 0)

-- there are two Content-Length fields, or the value isn't digits alone
unfoldable pub has_bad_length : Head → Bool
has_bad_length h = is_post h && not (length (lengths h) == 1 && is_number (first_of (lengths h)))

-- the length is above 4,194,304
unfoldable pub has_long_body : Head → Bool
has_long_body h = is_post h && nat_lt 4194304 (body_length h)

-- there isn't exactly one Content-Type, or it isn't one of the path's two
unfoldable pub has_other_media : Head → Bool
has_other_media h =
    is_post h
    && not (length (values_of (codes "content-type") h) == 1 && (is_form h || is_direct h))

-- The head of a request (RFC 9112, 3 and 5), and what the checks read in it.
use Rattle.std.specs.Prelude.{ℕ, ◌+◌, Bool, ◌&&◌, ◌==◌, nat_lt, if◌then◌else◌, List, [], ◌∷◌}
use Rattle.std.specs.Prelude.{length, take, drop, map, filter, codes}
use Rattle.std.specs.List.{list_all, position_or_len}
use Rattle.std.specs.Char.{is_ascii_digit}
use Rattle.std.specs.Str.{bytes_eq, str_eq_ignore_ascii_case}
use Rattle.std.specs.Str.Parse.{digits_value}
use Rattle.httparse.specs.Grammar.{RequestHead, trim_ows}
use Rattle.httparse.specs.Spans.{name_and_value}

-- a head without its line ends: the fields' names, and their values without white space around them
pub record Head : Type 0 where
  pub method : List ℕ
  pub target : List ℕ
  pub minor : ℕ
  pub fields : List (List ℕ × List ℕ)

-- the same of a head as the parser's grammar reads it
abbrev pub plain_head : RequestHead → Head
plain_head h = record {
  method = h.method;
  target = h.target;
  minor = h.minor;
  fields = map name_and_value h.fields;
}

-- the values of the fields of that name, ASCII case aside (RFC 9110, 5.1)
unfoldable pub values_of : List ℕ → Head → List (List ℕ)
values_of name h = map (λ f. f.1) (filter (λ f. str_eq_ignore_ascii_case name f.0) h.fields)

abbrev pub first_of : List (List ℕ) → List ℕ
first_of [] = []
first_of (value ∷ values) = value

-- the target up to its first `?`
abbrev pub path_of : Head → List ℕ
path_of h = take (position_or_len (λ b. b == 63) h.target) h.target

-- the target after its first `?`
unfoldable pub parameters_of : Head → List ℕ
parameters_of h = drop (position_or_len (λ b. b == 63) h.target + 1) h.target

unfoldable pub is_get : Head → Bool
is_get h = bytes_eq h.method (codes "GET")

unfoldable pub is_post : Head → Bool
is_post h = bytes_eq h.method (codes "POST")

unfoldable pub at_query : Head → Bool
at_query h = bytes_eq (path_of h) (codes "/query")

unfoldable pub at_update : Head → Bool
at_update h = bytes_eq (path_of h) (codes "/update")

unfoldable pub at_data : Head → Bool
at_data h = bytes_eq (path_of h) (codes "/data")

-- the media type's value up to its first `;`, without spaces and tabs around it (RFC 9110, 8.3)
abbrev pub media_of : Head → List ℕ
media_of h =
    let value = first_of (values_of (codes "content-type") h) in
    trim_ows (take (position_or_len (λ b. b == 59) value) value)

-- the media type of a form
unfoldable pub is_form : Head → Bool
is_form h = str_eq_ignore_ascii_case (media_of h) (codes "application/x-www-form-urlencoded")

-- the media type of the path's text by itself (SPARQL 1.1 Protocol, 2.1.3 and 2.2.2)
unfoldable pub is_direct : Head → Bool
is_direct h =
    str_eq_ignore_ascii_case (media_of h) (if at_query h then codes "application/sparql-query"
    else codes "application/sparql-update")

-- digits alone, and at least one (RFC 9110, 8.6)
abbrev pub is_number : List ℕ → Bool
is_number value = nat_lt 0 (length value) && list_all is_ascii_digit value

-- the number that the first Content-Length writes
unfoldable pub body_length : Head → ℕ
body_length h = digits_value 10 (first_of (values_of (codes "content-length") h))

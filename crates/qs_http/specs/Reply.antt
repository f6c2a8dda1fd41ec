-- The bytes of a reply (RFC 9112, 4 and 5).
use Rattle.std.specs.Prelude.{ℕ, List, [], ◌∷◌, ◌++◌, length, codes, ◌==◌, if◌then◌else◌}
use Rattle.std.specs.Fmt.{decimal}
use Rattle.qs_http.specs.declared.fixed_reply.Fixed.{Fixed}
use Rattle.qs_http.specs.declared.fixed_reply.Fixed.TheVariants.{NoContent, BadRequest, NotFound}
use Rattle.qs_http.specs.declared.fixed_reply.Fixed.TheVariants.{QueryMethod, UpdateMethod}
use Rattle.qs_http.specs.declared.fixed_reply.Fixed.TheVariants.{DataMethod, NoLength, BodyTooLarge}
use Rattle.qs_http.specs.declared.fixed_reply.Fixed.TheVariants.{MediaType, HeadTooLarge, Memory}
use Rattle.qs_http.specs.declared.media.Media.{Media}
use Rattle.qs_http.specs.declared.media.Media.TheVariants.{Results, NTriples, NQuads, Text}

-- the line and its CR LF
abbrev pub line : List ℕ → List ℕ
line text = text ++ 13 ∷ 10 ∷ []

-- the phrase of a reply that isn't fixed (RFC 9110, 15)
abbrev pub phrase_of : ℕ → List ℕ
phrase_of status = if status == 200 then codes "OK"
    else (if status == 400 then codes "Bad Request" else codes "Internal Server Error")

-- the media types of SPARQL 1.1 Query Results JSON, N-Triples and N-Quads
abbrev pub media_text : Media → List ℕ
media_text Results = codes "application/sparql-results+json"
media_text NTriples = codes "application/n-triples"
media_text NQuads = codes "application/n-quads"
media_text Text = codes "text/plain; charset=utf-8"

-- of a status code and its phrase
unfoldable pub status_line : ℕ × List ℕ → List ℕ
status_line status = line (codes "HTTP/1.1 " ++ decimal status.0 ++ codes " " ++ status.1)

unfoldable pub closing : List ℕ
closing = line (codes "Connection: close")

-- the type and the length of a body, an empty line, and the body
unfoldable pub with_body : Media → List ℕ → List ℕ
with_body media body =
    line (codes "Content-Type: " ++ media_text media)
    ++ line (codes "Content-Length: " ++ decimal (length body))
    ++ line [] ++ body

-- a reply with that status, type and body
unfoldable pub reply_of : ℕ → Media → List ℕ → List ℕ
reply_of status m body = status_line (status, phrase_of status) ++ closing ++ with_body m body

-- the status of a fixed reply and its phrase (RFC 9110, 15; RFC 6585, 5)
abbrev pub status_of : Fixed → ℕ × List ℕ
status_of NoContent = (204, codes "No Content")
status_of BadRequest = (400, codes "Bad Request")
status_of NotFound = (404, codes "Not Found")
status_of QueryMethod = (405, codes "Method Not Allowed")
status_of UpdateMethod = (405, codes "Method Not Allowed")
status_of DataMethod = (405, codes "Method Not Allowed")
status_of NoLength = (411, codes "Length Required")
status_of BodyTooLarge = (413, codes "Payload Too Large")
status_of MediaType = (415, codes "Unsupported Media Type")
status_of HeadTooLarge = (431, codes "Request Header Fields Too Large")
status_of Memory = (500, codes "Internal Server Error")

-- the methods that the path has, where it lacks the request's (RFC 9110, 10.2.1)
abbrev pub allow_line : Fixed → List ℕ
allow_line QueryMethod = line (codes "Allow: GET, POST")
allow_line UpdateMethod = line (codes "Allow: POST")
allow_line DataMethod = line (codes "Allow: GET")
allow_line fixed = []

-- the phrase again, or the fault line, and an LF
abbrev pub fixed_body : Fixed → List ℕ
fixed_body Memory = codes "F9 out of memory" ++ 10 ∷ []
fixed_body fixed = (status_of fixed).1 ++ 10 ∷ []

-- No Content has no body, and neither type nor length of one (RFC 9110, 8.6 and 15.3.5)
abbrev pub fixed_rest : Fixed → List ℕ
fixed_rest NoContent = line []
fixed_rest fixed = with_body Text (fixed_body fixed)

-- the reply that is the same bytes each time
unfoldable pub fixed_of : Fixed → List ℕ
fixed_of fixed = status_line (status_of fixed) ++ closing ++ allow_line fixed ++ fixed_rest fixed

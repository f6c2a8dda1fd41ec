-- Definitions over those of `Reply`, for proofs and the layers between.
use Rattle.std.specs.Prelude.{ℕ, ◌≡◌, ◌⊎◌, List, [], ◌++◌, codes}
use Rattle.std.specs.Fmt.{decimal}
use Rattle.qs_http.specs.declared.media.Media.{Media}
use Rattle.qs_http.specs.Reply.{line, media_text, status_line, phrase_of, closing}

-- the statuses of such a reply
abbrev pub IsReplyStatus : ℕ → Type 0
IsReplyStatus status = (status ≡ 200) ⊎ ((status ≡ 400) ⊎ (status ≡ 500))

-- the type and the length of a body of so many bytes, and an empty line
unfoldable pub body_fields : Media → ℕ → List ℕ
body_fields media size =
    line (codes "Content-Type: " ++ media_text media)
    ++ line (codes "Content-Length: " ++ decimal size)
    ++ line []

-- all that stands before the body in a reply with that status and type, and a body of so many bytes
unfoldable pub head_of : ℕ → Media → ℕ → List ℕ
head_of status m size = status_line (status, phrase_of status) ++ closing ++ body_fields m size

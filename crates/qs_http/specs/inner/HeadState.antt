-- The search for the head's end, byte by byte.
use Rattle.std.specs.Prelude.{ℕ, Bool, false, ◌==◌, if◌then◌else◌, List, [], ◌∷◌, Option, None}
use Rattle.std.specs.Prelude.{Some}
use Rattle.qs_http.specs.declared.head_end.HeadState.{HeadState}
use Rattle.qs_http.specs.declared.head_end.HeadState.TheVariants.{Leading, Line, Feed, FeedReturn}
use Rattle.qs_http.specs.inner.HeadEnd.{is_line_break, later}

-- where the byte leads to
abbrev pub place_after : HeadState → ℕ → HeadState
place_after Leading b = if is_line_break b then Leading else Line
place_after Line b = if b == 10 then Feed else Line
place_after Feed b = if b == 13 then FeedReturn else (if b == 10 then Feed else Line)
place_after FeedReturn b = if b == 10 then Feed else Line

-- the byte is an LF that directly follows an LF or an LF CR of the head
abbrev pub ends_head : HeadState → ℕ → Bool
ends_head Leading b = false
ends_head Line b = false
ends_head Feed b = b == 10
ends_head FeedReturn b = b == 10

-- how many bytes there are up to the head's end, counted from a place on; None: it hasn't come
unfoldable pub end_from : HeadState → List ℕ → Option ℕ
end_from place [] = None
end_from place (b ∷ bytes) =
    if ends_head place b then Some 1 else later 1 (end_from (place_after place b) bytes)

-- where the bytes lead to
unfoldable pub place_from : HeadState → List ℕ → HeadState
place_from place [] = place
place_from place (b ∷ bytes) = place_from (place_after place b) bytes

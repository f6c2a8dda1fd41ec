-- Pieces of a text, each from one byte place to another.
use Rattle.std.specs.Prelude.{ℕ, Bool, not, ◌&&◌, nat_le, List, [], length, slice_index}
use Rattle.std.specs.Prelude.{slice_range, if◌then◌else◌}
use Rattle.std.specs.Int.{is_in_range}

-- whether the text may be cut at the place: no byte within a character stands there
abbrev pub is_boundary : List ℕ → ℕ → Bool
is_boundary text at = nat_le at (length text) && not (is_in_range 128 191 (slice_index text at))

-- the bytes from start to end, or none where these are no piece of the text: one of them is past it
-- or within a character, or the end comes before the start
unfoldable pub piece : List ℕ → ℕ → ℕ → List ℕ
piece text start end = if nat_le start end && (is_boundary text start && is_boundary text end)
    then slice_range text start end else []

-- Words over those of `HeadEnd`.
use Rattle.std.specs.Prelude.{ℕ, ◌+◌, Bool, false, ◌&&◌, ◌||◌, not, ◌==◌, List, [], ◌∷◌, Option}
use Rattle.std.specs.Prelude.{option_map}

-- CR or LF
abbrev pub is_line_break : ℕ → Bool
is_line_break b = b == 13 || b == 10

-- neither CR nor LF
abbrev pub is_in_line : ℕ → Bool
is_in_line b = not (is_line_break b)

-- the first byte is an LF
abbrev pub begins_with_feed : List ℕ → Bool
begins_with_feed [] = false
begins_with_feed (b ∷ bytes) = b == 10

-- the first two bytes are a CR and an LF
abbrev pub begins_with_return_feed : List ℕ → Bool
begins_with_return_feed [] = false
begins_with_return_feed (b ∷ bytes) = b == 13 && begins_with_feed bytes

-- the same count, from so many bytes before
abbrev pub later : ℕ → Option ℕ → Option ℕ
later i o = option_map (λ n. i + n) o

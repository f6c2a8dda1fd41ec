-- Where the head of a request ends, among the bytes that a connection brought (RFC 9112, 2.1 and
-- 2.2). Line ends before the head are passed over.
use Rattle.std.specs.Prelude.{ℕ, ◌+◌, ◌||◌, not, ◌==◌, nat_eq, if◌then◌else◌, List, [], ◌∷◌}
use Rattle.std.specs.Prelude.{take, drop, Option, None, Some, option_map}
use Rattle.std.specs.List.{position_or_len, starts_with}

-- how many CR and LF bytes, 13 and 10, stand at the front
abbrev pub leading : List ℕ → ℕ
leading bytes = position_or_len (λ b. not (b == 13 || b == 10)) bytes

-- the bytes after those
abbrev pub without_leading : List ℕ → List ℕ
without_leading bytes = drop (leading bytes) bytes

-- how many bytes there are up to the first LF that directly follows an LF or an LF CR, that one
-- counted; None: there is none
unfoldable pub end_of_head : List ℕ → Option ℕ
end_of_head [] = None
end_of_head (b ∷ bytes) =
    if starts_with nat_eq (b ∷ bytes) (10 ∷ 10 ∷ []) then Some 2
    else (if starts_with nat_eq (b ∷ bytes) (10 ∷ 13 ∷ 10 ∷ []) then Some 3
    else option_map (λ n. 1 + n) (end_of_head bytes))

-- the longest head, the leading CR and LF bytes counted
abbrev pub head_limit : ℕ
head_limit = 16384

-- how many bytes there are up to the head's end, the leading CR and LF bytes counted; None: the end
-- isn't among the first 16,384 bytes
unfoldable pub head_end : List ℕ → Option ℕ
head_end bytes =
    let front = take head_limit bytes in
    option_map (λ n. leading front + n) (end_of_head (without_leading front))

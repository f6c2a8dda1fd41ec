-- What may stand before each token: spaces and tabs, and a comment up to the line's end
-- (RDF 1.1 N-Quads, 4).
use Rattle.std.specs.Prelude.{ℕ, Bool, true, false, cond, ◌||◌, ◌==◌, List, [], ◌∷◌}

-- a space or a tab
unfoldable pub is_blank : ℕ → Bool
is_blank c = c == 32 || c == 9

-- LF or CR, before which a comment ends
unfoldable pub is_line_end : ℕ → Bool
is_line_end c = c == 10 || c == 13

-- the characters without the spaces, tabs and the comment at their front, which may begin within a
-- comment
abbrev pub skip : Bool → List ℕ → List ℕ
skip in_comment [] = []
skip true (c ∷ cs) = cond (is_line_end c) (c ∷ cs) (skip true cs)
skip false (c ∷ cs) = cond (is_blank c) (skip false cs) (cond (c == 35) (skip true cs) (c ∷ cs))

-- The token list of a text (SPARQL 1.1 Query, 19.8): after white space and comments the longest
-- token, again and again, until only white space and comments are left. So `<=>` is an IRI, where
-- `<` could begin a comparison.
use Rattle.std.specs.Prelude.{◌≡◌, ◌≤◌, ◌<◌, ℕ, ◌+◌, Bool, true, false, not, cond, ◌||◌, ◌==◌, List}
use Rattle.std.specs.Prelude.{[], ◌∷◌, ◌++◌, length}
use Rattle.std.specs.Str.{chars, encode_utf8_all}
use Rattle.qs_lex_regular.specs.Longest.{IsFirst, HasNoFront}
use Rattle.qs_lex.specs.Table.{table}
use Rattle.qs_lex.specs.declared.token.Class.{Class}

-- a token, with the place of its first byte and its bytes
pub record Lexeme : Type 0 where
  pub class : Class
  pub place : ℕ
  pub text : List ℕ

-- white space (SPARQL 1.1 Query, 19.8, [162]): space, tab, LF, CR
unfoldable pub is_blank : ℕ → Bool
is_blank c = c == 32 || c == 9 || c == 10 || c == 13

-- LF or CR, up to which a comment runs (SPARQL 1.1 Query, 19.4)
unfoldable pub is_line_end : ℕ → Bool
is_line_end c = c == 10 || c == 13

-- the characters without the white space and the comments at their front, which may begin within a
-- comment
abbrev pub skip : Bool → List ℕ → List ℕ
skip in_comment [] = []
skip true (c ∷ cs) = skip (not (is_line_end c)) cs
skip false (c ∷ cs) = cond (is_blank c) (skip false cs) (cond (c == 35) (skip true cs) (c ∷ cs))

-- x is a token of the class, the first of the table that it spells, and no longer front of
-- x ++ rest is a token
pub record IsLongest (k : Class) (x rest : List ℕ) : Type 0 where
  pub token : IsFirst table k x
  pub longest : (j : Class) (u v : List ℕ) → x ++ rest ≡ u ++ v → IsFirst table j u
      → length u ≤ length x

-- what is left, of a text of n bytes, begins at this place
abbrev pub IsPlace : ℕ → List ℕ → ℕ → Type 0
IsPlace n cs place = place + length (encode_utf8_all cs) ≡ n

-- Of a text of n bytes the characters cs are left; they begin with these tokens, and after them
-- with rest.
abbrev pub Reads : ℕ → List ℕ → List Lexeme → List ℕ → Type 0
Reads n cs [] rest = cs ≡ rest
Reads n cs (t ∷ ts) rest =
    (x : List ℕ) × (more : List ℕ) × (skip false cs ≡ x ++ more) × IsLongest t.class x more
    × (t.text ≡ encode_utf8_all x) × IsPlace n (x ++ more) t.place
    × Reads n more ts rest

-- the tokens of the text are these
abbrev pub Lexes : List ℕ → List Lexeme → Type 0
Lexes text ts = (rest : List ℕ) × Reads (length text) (chars text) ts rest × (skip false rest ≡ [])

-- after some tokens, white space and comments something is left of which no front is a token; it
-- begins at this byte place
abbrev pub StopsAt : List ℕ → ℕ → Type 0
StopsAt text place =
    (ts : List Lexeme) × (rest : List ℕ) × Reads (length text) (chars text) ts rest
    × (0 < length (skip false rest)) × HasNoFront table (skip false rest)
    × IsPlace (length text) (skip false rest) place

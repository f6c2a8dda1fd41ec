-- Texts with their escapes decoded.
use Rattle.std.specs.Prelude.{ℕ, zero, suc, not, ◌==◌, List, [], ◌∷◌, ◌++◌, filter, encode_utf8}
use Rattle.std.specs.Prelude.{Option, if◌then◌else◌}
use Rattle.std.specs.Option.{option_map_or}
use Rattle.qs_lex_escapes.specs.declared.escape.Escape.{Escape}

-- the bytes after the first n, with what each backslash and the escape after it denote: the
-- character that the escape names, or the backslash itself where none begins
unfoldable pub decoded_after : (List ℕ → Option Escape) → ℕ → List ℕ → List ℕ
decoded_after escape n [] = []
decoded_after escape (suc n) (c ∷ cs) = decoded_after escape n cs
decoded_after escape zero (c ∷ cs) =
    if c == 92 then (option_map_or (λ e. encode_utf8 e.character) (escape cs) (92 ∷ [])
    ++ decoded_after escape (option_map_or (λ e. e.length) (escape cs) 0) cs)
    else (c ∷ decoded_after escape zero cs)

-- the bytes with the escapes decoded
abbrev pub decoded : (List ℕ → Option Escape) → List ℕ → List ℕ
decoded escape text = decoded_after escape 0 text

-- a local name without the backslashes of its escapes (SPARQL 1.1 Query, 19.8, PN_LOCAL_ESC); `%`
-- stays as it is written
abbrev pub unescaped : List ℕ → List ℕ
unescaped local = filter (λ c. not (c == 92)) local

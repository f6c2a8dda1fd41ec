-- Escapes, as they stand after their backslash (SPARQL 1.1 Query, 19.2 and 19.8; RDF 1.1 N-Quads,
-- 4).
use Rattle.std.specs.Prelude.{ℕ, zero, suc, ◌+◌, ◌*◌, ◌==◌, List, [], ◌∷◌, Option, Some, None}
use Rattle.std.specs.Prelude.{if◌then◌else◌}
use Rattle.std.specs.Map.{lookup}
use Rattle.std.specs.Option.{option_map_or}
use Rattle.qs_lex_regular.specs.Character.{is_hex, hex_value, is_scalar}
use Rattle.qs_lex_escapes.specs.declared.escape.Escape.{Escape}

-- n more hexadecimal digits after digits of this value: the value of them all
unfoldable pub hex_number : ℕ → ℕ → List ℕ → Option ℕ
hex_number zero v cs = Some v
hex_number (suc n) v [] = None
hex_number (suc n) v (c ∷ cs) = if is_hex c then hex_number n (v * 16 + hex_value c) cs else None

-- the character of a code, which so many bytes name
abbrev pub escape_of : ℕ → Option ℕ → Option Escape
escape_of length None = None
escape_of length (Some code) =
    if is_scalar code then Some (record { character = code; length = length }) else None

-- a codepoint escape (19.2, UCHAR): `u` and four digits, or `U` and eight
abbrev pub uchar : List ℕ → Option Escape
uchar [] = None
uchar (c ∷ cs) = if c == 117 then escape_of 5 (hex_number 4 0 cs)
    else (if c == 85 then escape_of 9 (hex_number 8 0 cs) else None)

-- ECHAR ([160]): `t` is a tab, `b` a backspace, `n` LF, `r` CR, `f` a form feed, and `"`, `'` and
-- `\` are themselves
abbrev pub echar_of : ℕ → Option ℕ
echar_of c =
    lookup (λ letter. letter == c) ((116, 9) ∷ (98, 8) ∷ (110, 10) ∷ (114, 13) ∷ (102, 12)
    ∷ (34, 34) ∷ (39, 39) ∷ (92, 92) ∷ [])

-- an escape of a string: ECHAR or UCHAR
abbrev pub string_escape : List ℕ → Option Escape
string_escape [] = None
string_escape (c ∷ cs) =
    option_map_or (λ e. Some (record { character = e; length = 1 })) (echar_of c) (uchar (c ∷ cs))

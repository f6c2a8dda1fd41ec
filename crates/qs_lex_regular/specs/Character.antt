-- Classes of characters of names and of IRIs that SPARQL and N-Quads share, each as a test of a
-- code point (SPARQL 1.1 Query, 19.8; RDF 1.1 N-Quads, 4).
use Rattle.std.specs.Prelude.{ℕ, Bool, not, ◌||◌, ◌&&◌, ◌==◌, nat_le, nat_lt, List, codes}
use Rattle.std.specs.Int.{is_in_range}
use Rattle.std.specs.List.{list_any}
use Rattle.std.specs.Char.{is_ascii_digit, is_ascii_alphabetic, is_ascii_alphanumeric}
use Rattle.std.specs.Char.{is_ascii_hexdigit, digit_value}

abbrev pub is_one_of : List ℕ → ℕ → Bool
is_one_of xs c = list_any (λ x. c == x) xs

-- [0-9]
unfoldable pub is_digit : ℕ → Bool
is_digit = is_ascii_digit

-- [A-Za-z]
unfoldable pub is_letter : ℕ → Bool
is_letter = is_ascii_alphabetic

-- [A-Za-z0-9]
unfoldable pub is_letter_or_digit : ℕ → Bool
is_letter_or_digit = is_ascii_alphanumeric

-- HEX (SPARQL 1.1 Query, 19.8, [172]): [0-9A-Fa-f]
unfoldable pub is_hex : ℕ → Bool
is_hex = is_ascii_hexdigit

-- the value of a hexadecimal digit
unfoldable pub hex_value : ℕ → ℕ
hex_value = digit_value

-- BASE: PN_CHARS_BASE (SPARQL 1.1 Query, 19.8, [164]; RDF 1.1 N-Quads, 4)
unfoldable pub is_base : ℕ → Bool
is_base c =
    is_ascii_alphabetic c || is_in_range 0xC0 0xD6 c || is_in_range 0xD8 0xF6 c
    || is_in_range 0xF8 0x2FF c || is_in_range 0x370 0x37D c || is_in_range 0x37F 0x1FFF c
    || is_in_range 0x200C 0x200D c || is_in_range 0x2070 0x218F c || is_in_range 0x2C00 0x2FEF c
    || is_in_range 0x3001 0xD7FF c || is_in_range 0xF900 0xFDCF c || is_in_range 0xFDF0 0xFFFD c
    || is_in_range 0x1_0000 0xE_FFFF c

-- U: PN_CHARS_U of SPARQL (1.1 Query, 19.8, [165]), BASE or `_`; that of N-Quads has `:` too
unfoldable pub is_pn_chars_u : ℕ → Bool
is_pn_chars_u c = is_base c || c == 95

-- what a name may hold, but not begin with: U+00B7, U+0300 to 036F, U+203F to 2040
unfoldable pub is_mark_in_name : ℕ → Bool
is_mark_in_name c = c == 0xB7 || is_in_range 0x300 0x36F c || is_in_range 0x203F 0x2040 c

-- CHARS: PN_CHARS of SPARQL (1.1 Query, 19.8, [167]), U, `-`, a digit or one of the marks above
unfoldable pub is_pn_chars : ℕ → Bool
is_pn_chars c = is_pn_chars_u c || c == 45 || is_digit c || is_mark_in_name c

-- what an IRI holds (SPARQL 1.1 Query, 19.8, [139]): no character up to U+0020 and none of < > " {
-- } | ^ ` \
unfoldable pub is_iri_char : ℕ → Bool
is_iri_char c = not (nat_le c 0x20 || is_one_of (codes "<>\"{}|^`\\") c)

-- a code point that is no surrogate (RDF 1.1 N-Quads, 4: what UCHAR names)
unfoldable pub is_scalar : ℕ → Bool
is_scalar c = nat_lt c 0xD800 || is_in_range 0xE000 0x10_FFFF c

-- what an escape in an IRI may name
unfoldable pub is_iri_scalar : ℕ → Bool
is_iri_scalar c = is_scalar c && is_iri_char c

-- what stands after the backslash of an ECHAR (SPARQL 1.1 Query, 19.8, [160])
unfoldable pub is_escaped : ℕ → Bool
is_escaped = is_one_of (codes "tbnrf\"'\\")

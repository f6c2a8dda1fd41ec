-- The token table: thirteen classes of tokens, each as a form over characters (SPARQL 1.1 Query,
-- 19.8).
use Rattle.std.specs.Prelude.{ℕ, Bool, not, ◌||◌, ◌==◌, [], ◌∷◌, codes}
use Rattle.std.specs.Char.{is_ascii_alphanumeric}
use Rattle.qs_lex_regular.specs.Character.{is_one_of, is_digit, is_letter}
use Rattle.qs_lex_regular.specs.Character.{is_hex, is_base, is_pn_chars_u, is_mark_in_name}
use Rattle.qs_lex_regular.specs.Character.{is_pn_chars, is_iri_char, is_scalar, is_iri_scalar}
use Rattle.qs_lex_regular.specs.Form.{Form, one, many, ◌⨾◌, ◌∣◌, maybe, plus, char, literal, echar}
use Rattle.qs_lex_regular.specs.Form.{lang_tag, uchar}
use Rattle.qs_lex_regular.specs.Longest.{Table}
use Rattle.qs_lex.specs.declared.token.Class.{Class}
use Rattle.qs_lex.specs.declared.token.Class.TheVariants as class

-- ---- classes of characters of SPARQL alone

-- a letter, a digit or `_`
unfoldable pub is_word_char : ℕ → Bool
is_word_char c = is_ascii_alphanumeric c || c == 95

-- `e` or `E`
unfoldable pub is_exponent : ℕ → Bool
is_exponent c = c == 101 || c == 69

-- `+` or `-`
unfoldable pub is_sign : ℕ → Bool
is_sign c = c == 43 || c == 45

-- what a backslash in a local name may stand before (PN_LOCAL_ESC, [173])
unfoldable pub is_escapable : ℕ → Bool
is_escapable = is_one_of (codes "_~.-!$&'()*+,;=/?#@%")

-- ---- names and their parts

-- optionally (CHARS or `.`)* CHARS
abbrev pub name_rest : Form
name_rest = maybe (many (one (λ c. is_pn_chars c || c == 46)) ⨾ one is_pn_chars)

-- PNAME_NS ([140]): optionally BASE and a rest (PN_PREFIX, [168]), then `:`
abbrev pub pname_ns : Form
pname_ns = maybe (one is_base ⨾ name_rest) ⨾ literal ":"

-- X (PLX, [170]): `%` with two hexadecimal digits, or a backslash with an escapable character
abbrev pub name_escape : Form
name_escape = literal "%" ⨾ one is_hex ⨾ one is_hex ∣ char 92 ⨾ one is_escapable

-- L: U, `:`, a digit or X
abbrev pub local_first : Form
local_first = one (λ c. is_pn_chars_u c || c == 58 || is_digit c) ∣ name_escape

-- M: CHARS, `.`, `:` or X
abbrev pub local_middle : Form
local_middle = one (λ c. is_pn_chars c || c == 46 || c == 58) ∣ name_escape

-- N: CHARS, `:` or X
abbrev pub local_last : Form
local_last = one (λ c. is_pn_chars c || c == 58) ∣ name_escape

-- VAR ([143], [144], [166]): `?` or `$`, then U or a digit, then any number of U, digits and marks
-- of names
abbrev pub var : Form
var = one (is_one_of (codes "?$")) ⨾ one (λ c. is_pn_chars_u c || is_digit c)
    ⨾ many (one (λ c. is_pn_chars_u c || is_digit c || is_mark_in_name c))

-- ---- numbers and their parts

abbrev pub digit : Form
digit = one is_digit

abbrev pub sign : Form
sign = one is_sign

-- E ([155]): `e` or `E`, optionally a sign, digits
abbrev pub exponent : Form
exponent = one is_exponent ⨾ maybe sign ⨾ plus digit

-- DOUBLE ([148], [151], [154]): optionally a sign, then digits `.` any digits E, or `.` digits E,
-- or digits E
abbrev pub double : Form
double = maybe sign ⨾ (plus digit ⨾ literal "." ⨾ many digit ⨾ exponent
    ∣ literal "." ⨾ plus digit ⨾ exponent ∣ plus digit ⨾ exponent)

-- ---- strings, by their quotation mark

-- ([156], [157]): the mark, any number of ECHAR, UCHAR or characters other than the mark, `\`, LF
-- and CR, the mark
abbrev pub short_string : ℕ → Form
short_string q = char q ⨾ many (echar ∣ uchar is_scalar
    ∣ one (λ c. not (is_one_of (q ∷ 92 ∷ 10 ∷ 13 ∷ []) c))) ⨾ char q

-- ([158], [159]): three marks, any number of ECHAR, UCHAR or characters other than the mark and
-- `\`, each after at most two marks, three marks
abbrev pub long_string : ℕ → Form
long_string q = char q ⨾ char q ⨾ char q ⨾ many (maybe (char q ⨾ maybe (char q)) ⨾
    (echar ∣ uchar is_scalar ∣ one (λ c. not (is_one_of (q ∷ 92 ∷ []) c))))
    ⨾ char q ⨾ char q ⨾ char q

-- ---- the table

abbrev pub table : Table Class
table =
    -- IRIREF ([139]): `<`, characters of IRIs or UCHAR for such a character, `>`
    (class.IriRef, literal "<" ⨾ many (one is_iri_char ∣ uchar is_iri_scalar) ⨾ literal ">")
    -- PNAME_NS ([140])
    ∷ (class.PnameNs, pname_ns)
    -- PNAME_LN ([141]): PNAME_NS, then L, then optionally M* N
    ∷ (class.PnameLn, pname_ns ⨾ local_first ⨾ maybe (many local_middle ⨾ local_last))
    -- BLANK ([142]): `_:`, U or a digit, then optionally (CHARS or `.`)* CHARS
    ∷ (class.BlankLabel, literal "_:" ⨾ one (λ c. is_pn_chars_u c || is_digit c) ⨾ name_rest)
    -- VAR ([143], [144])
    ∷ (class.Var, var)
    -- INTEGER ([146]): digits
    ∷ (class.Integer, plus digit)
    -- SIGNED ([149], [152]): a sign directly before digits
    ∷ (class.Signed, sign ⨾ plus digit)
    -- DECIMAL ([147], [150], [153]): optionally a sign, any digits, `.`, digits
    ∷ (class.Decimal, maybe sign ⨾ many digit ⨾ literal "." ⨾ plus digit)
    -- DOUBLE ([148], [151], [154])
    ∷ (class.Double, double)
    -- STRING ([156] to [159]): short or long, in `"` or in `'`
    ∷ (class.String, short_string 34 ∣ short_string 39 ∣ long_string 34 ∣ long_string 39)
    -- LANGTAG ([145])
    ∷ (class.LangTag, lang_tag)
    -- WORD: a letter, then letters, digits and `_`
    ∷ (class.Word, one is_letter ⨾ many (one is_word_char))
    -- marks
    ∷ (
      class.Mark,
      one (is_one_of (codes "{}()[].,;*/+-|^?!=<>"))
          ∣ literal "||" ∣ literal "^^" ∣ literal "!=" ∣ literal "<=" ∣ literal ">=" ∣ literal "&&",
    )
    ∷ []

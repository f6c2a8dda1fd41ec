-- The token table: each class of fronts of a text as a form over characters (RDF 1.1 N-Quads, 4).
-- Productions have the standard's numbers. Two more classes are an IRI or a string without its
-- end, and each of them up to a backslash. The longest front decides: a `\` in an IRI or a string
-- that begins no lawful escape is `escape`, also one cut short by the end of the bytes. A `\`
-- elsewhere is `token`.
use Rattle.std.specs.Prelude.{ℕ, Bool, not, ◌||◌, ◌==◌, [], ◌∷◌}
use Rattle.qs_lex_regular.specs.Character.{is_one_of, is_digit, is_pn_chars_u, is_pn_chars}
use Rattle.qs_lex_regular.specs.Character.{is_iri_char, is_scalar}
use Rattle.qs_lex_regular.specs.Form.{Form, one, many, ◌⨾◌, ◌∣◌, maybe, char, lang_tag, echar}
use Rattle.qs_lex_regular.specs.Form.{uchar}
use Rattle.qs_lex_regular.specs.Longest.{Table}
use Rattle.qs_nquads.specs.declared.class.Class.{Class}
use Rattle.qs_nquads.specs.declared.class.Class.TheVariants as class

-- ---- classes of characters

-- what a string holds beside escapes ([11]): no `"`, `\`, LF or CR
unfoldable pub is_string_char : ℕ → Bool
is_string_char c = not (is_one_of (34 ∷ 92 ∷ 10 ∷ 13 ∷ []) c)

-- what a label begins with ([141s]): PN_CHARS_U, in which N-Quads has `:` ([158s]), or a digit
unfoldable pub is_label_start : ℕ → Bool
is_label_start c = is_pn_chars_u c || c == 58 || is_digit c

-- what a label holds, and ends with: PN_CHARS ([160s])
unfoldable pub is_label_char : ℕ → Bool
is_label_char c = is_pn_chars c || c == 58

-- ---- what stands within labels, IRIs and strings

-- optionally characters and dots, and no dot at the end
abbrev pub label_rest : Form
label_rest = maybe (many (one (λ c. is_label_char c || c == 46)) ⨾ one is_label_char)

-- IRIREF ([10]): characters of IRIs and UCHAR; whether an escape names a character of
-- IRIs is asked later
abbrev pub iri_body : Form
iri_body = many (one is_iri_char ∣ uchar is_scalar)

-- STRING_LITERAL_QUOTE ([11]): characters of strings, ECHAR and UCHAR
abbrev pub string_body : Form
string_body = many (one is_string_char ∣ echar ∣ uchar is_scalar)

-- ---- the table

abbrev pub table : Table Class
table =
    -- IRIREF ([10])
    (class.Iri, char 60 ⨾ iri_body ⨾ char 62)
    -- STRING_LITERAL_QUOTE ([11])
    ∷ (class.String, char 34 ⨾ string_body ⨾ char 34)
    -- LANGTAG ([144s])
    ∷ (class.Tag, lang_tag)
    -- BLANK_NODE_LABEL ([141s]): `_:`, a first character, and a rest
    ∷ (class.Label, char 95 ⨾ char 58 ⨾ one is_label_start ⨾ label_rest)
    -- `^^` of a literal's datatype ([7])
    ∷ (class.Carets, char 94 ⨾ char 94)
    -- the `.` of a statement ([2])
    ∷ (class.Dot, char 46)
    -- a character of EOL ([8]): LF or CR
    ∷ (class.LineEnd, one (is_one_of (10 ∷ 13 ∷ [])))
    -- no token: an IRI or a string without its end
    ∷ (class.Open, char 60 ⨾ iri_body ∣ char 34 ⨾ string_body)
    -- no token: the same up to a backslash, which is the longest front only where no escape
    -- begins at that backslash
    ∷ (class.Broken, (char 60 ⨾ iri_body) ⨾ char 92 ∣ (char 34 ⨾ string_body) ⨾ char 92)
    ∷ []

-- The first token of a text that the profile leaves out: a decimal, a double, or one of 51 words of
-- SPARQL 1.1 (Query, 19.8).
use Rattle.std.specs.Prelude.{ℕ, Bool, true, false, List, [], ◌∷◌, codes, Option, option_map, find}
use Rattle.std.specs.List.{list_any}
use Rattle.std.specs.Str.{str_eq_ignore_ascii_case}
use Rattle.qs_syntax_tree.specs.declared.kind.Kind.{Kind}
use Rattle.qs_syntax_tree.specs.declared.kind.Kind.TheVariants.{Decimal, Double, Word}
use Rattle.qs_lex_escapes.specs.Piece.{piece}
use Rattle.qs_syntax_tree.specs.declared.token.Token.{Token}

-- Keywords and names of functions of SPARQL 1.1 Query and Update that the grammar doesn't have.
abbrev pub words : List (List ℕ)
words =
    codes "BASE" ∷ codes "DESCRIBE" ∷ codes "FROM" ∷ codes "USING" ∷ codes "SERVICE" ∷
    codes "LOAD" ∷ codes "GROUP" ∷ codes "HAVING" ∷ codes "EXISTS" ∷ codes "COUNT" ∷ codes "SUM" ∷
    codes "MIN" ∷ codes "MAX" ∷ codes "AVG" ∷ codes "SAMPLE" ∷ codes "GROUP_CONCAT" ∷
    codes "SEPARATOR" ∷ codes "REGEX" ∷ codes "REPLACE" ∷ codes "SUBSTR" ∷ codes "STRBEFORE" ∷
    codes "STRAFTER" ∷ codes "UCASE" ∷ codes "LCASE" ∷ codes "ENCODE_FOR_URI" ∷ codes "ABS" ∷
    codes "ROUND" ∷ codes "CEIL" ∷ codes "FLOOR" ∷ codes "RAND" ∷ codes "NOW" ∷ codes "YEAR" ∷
    codes "MONTH" ∷ codes "DAY" ∷ codes "HOURS" ∷ codes "MINUTES" ∷ codes "SECONDS" ∷
    codes "TIMEZONE" ∷ codes "TZ" ∷ codes "UUID" ∷ codes "STRUUID" ∷ codes "MD5" ∷ codes "SHA1" ∷
    codes "SHA256" ∷ codes "SHA384" ∷ codes "SHA512" ∷ codes "IRI" ∷ codes "URI" ∷ codes "BNODE" ∷
    codes "STRDT" ∷ codes "STRLANG" ∷ []

-- it is one of these, without regard to case
unfoldable pub is_left_out_word : List ℕ → Bool
is_left_out_word word = list_any (str_eq_ignore_ascii_case word) words

-- ---- the first token

-- decimals and doubles have no terms here
abbrev pub is_left_out_kind : Kind → List ℕ → Bool
is_left_out_kind Decimal written = true
is_left_out_kind Double written = true
is_left_out_kind Word written = is_left_out_word written
is_left_out_kind other written = false

-- as it is written in the text
abbrev pub left_out : List ℕ → List Token → Option (List ℕ)
left_out text tokens = option_map (λ token. piece text token.span.start token.span.end)
    (find (λ t. is_left_out_kind t.kind (piece text t.span.start t.span.end)) tokens)

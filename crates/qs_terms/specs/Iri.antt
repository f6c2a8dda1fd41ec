-- Lawful IRIs (RFC 3987, 2.2; RDF 1.1 Concepts, 3.2): absolute, so with a scheme and a colon at the
-- front, and without a character that IRIs exclude. No more of the grammar of RFC 3987 is asked.
use Rattle.std.specs.Prelude.{ℕ, Bool, true, false, ◌&&◌, ◌||◌, ◌==◌, List, [], ◌∷◌, Result, Ok}
use Rattle.std.specs.Prelude.{Err, codes, if◌then◌else◌}
use Rattle.std.specs.List.{list_any}
use Rattle.std.specs.Char.{is_ascii_alphabetic, is_ascii_alphanumeric}
use Rattle.std.specs.Int.{is_in_range}
use Rattle.qs_terms.specs.declared.fault.TermFault.{TermFault}
use Rattle.qs_terms.specs.declared.fault.TermFault.TheVariants.{NotAbsolute, BadChar}

-- what may follow a scheme's first letter: ASCII letters and digits, `+`, `-` and `.`
abbrev pub is_scheme_char : ℕ → Bool
is_scheme_char c = is_ascii_alphanumeric c || (c == 43 || (c == 45 || c == 46))

-- characters of a scheme, and then a colon
abbrev pub reaches_colon : List ℕ → Bool
reaches_colon [] = false
reaches_colon (c ∷ cs) = if c == 58 then true else (is_scheme_char c && reaches_colon cs)

-- an ASCII letter, any number of a scheme's characters, and a colon
abbrev pub has_scheme : List ℕ → Bool
has_scheme [] = false
has_scheme (c ∷ cs) = is_ascii_alphabetic c && reaches_colon cs

-- up to U+0020, and `"` `<` `>` `\` `^` `` ` `` `{` `|` `}` (SPARQL 1.1 Query, 19.8, IRIREF)
abbrev pub is_excluded : ℕ → Bool
is_excluded c = is_in_range 0 32 c || list_any (λ x. c == x) (codes "\"<>\\^`{|}")

-- the IRI of the bytes, or what is wrong with them: a missing scheme is told before an excluded
-- character
abbrev pub checked_iri : List ℕ → Result (List ℕ) TermFault
checked_iri text =
    if has_scheme text then (if list_any is_excluded text then Err BadChar else Ok text)
    else Err NotAbsolute

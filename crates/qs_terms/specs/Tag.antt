-- Language tags (SPARQL 1.1 Query, 19.8, LANGTAG; RDF 1.1 N-Quads, 4), without their `@`.
use Rattle.std.specs.Prelude.{ℕ, Bool, true, false, ◌&&◌, ◌==◌, not, List, [], ◌∷◌, map}
use Rattle.std.specs.Prelude.{if◌then◌else◌}
use Rattle.std.specs.Char.{is_ascii_alphabetic, is_ascii_alphanumeric, to_ascii_lowercase}

-- what a subtag holds: the first of a tag holds letters, the later ones letters and digits
abbrev pub is_subtag_char : Bool → ℕ → Bool
is_subtag_char first c = if first then is_ascii_alphabetic c else is_ascii_alphanumeric c

-- the rest of a tag, within its first subtag or a later one, of which nothing stands yet or
-- something does: subtags are parted by `-`, and none is empty
abbrev pub is_tag_rest : Bool → Bool → List ℕ → Bool
is_tag_rest first empty [] = not empty
is_tag_rest first empty (c ∷ cs) =
    if c == 45 then (not empty && is_tag_rest false true cs)
    else (is_subtag_char first c && is_tag_rest first false cs)

-- one or more ASCII letters, and then any number of `-` with one or more ASCII letters and digits
abbrev pub is_tag : List ℕ → Bool
is_tag text = is_tag_rest true true text

-- a tag as it is kept: in lower case (RDF 1.1 Concepts, 3.3)
abbrev pub lowered : List ℕ → List ℕ
lowered text = map to_ascii_lowercase text

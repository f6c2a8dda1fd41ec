-- Whether a prefix goes on to its colon.
use Rattle.std.specs.Prelude.{◌≡◌, ◌<◌, ℕ, Bool, true, false, cond, ◌&&◌, ◌==◌, List, [], ◌∷◌, ◌++◌}
use Rattle.std.specs.Prelude.{length}
use Rattle.std.specs.Str.{encode_utf8_all}
use Rattle.qs_lex_regular.specs.Form.{one, many}
use Rattle.qs_lex_regular.specs.Character.{is_pn_chars, is_letter}
use Rattle.qs_lex.specs.Table.{is_word_char}
use Rattle.qs_lex.specs.inner.Table.{Left}
use Rattle.qs_lex.specs.declared.token.Class.TheVariants as class

-- CHARS and dots, the last of them no dot, and a colon; `last` says whether there is one that is no
-- dot before
abbrev pub names : Bool → List ℕ → Bool
names last [] = false
names last (c ∷ cs) =
    cond (is_pn_chars c) (names true cs) (cond (c == 46) (names false cs) (c == 58 && last))

-- at no letter that is more than `left` bytes before the end a prefix begins
abbrev pub IsBarren : List ℕ → ℕ → Type 0
IsBarren cs left = (u v : List ℕ) (c : ℕ) → cs ≡ u ++ c ∷ v
    → left < length (encode_utf8_all (c ∷ v)) → is_letter c ≡ true → names true v ≡ false

-- no prefix begins with the letter at the front
abbrev pub IsNoPrefix : List ℕ → Type 0
IsNoPrefix cs = (c : ℕ) (v : List ℕ) → cs ≡ c ∷ v → is_letter c ≡ true → names true v ≡ false

-- what is left of a word that is no prefix
abbrev pub plain : Left
plain = (class.Word, many (one is_word_char)) ∷ []

-- Definitions over those of `Decoded`, for proofs and the layers between.
use Rattle.std.specs.Prelude.{ℕ, Bool, ◌==◌, List, [], ◌∷◌, Option, encode_utf8}
use Rattle.std.specs.Option.{option_map_or}
use Rattle.qs_lex_escapes.specs.declared.escape.Escape.{Escape}

abbrev pub is_backslash : ℕ → Bool
is_backslash c = c == 92

-- the character that an escape names; a backslash that begins none denotes itself
abbrev pub stands_for : Option Escape → List ℕ
stands_for found = option_map_or (λ e. encode_utf8 e.character) found (92 ∷ [])

abbrev pub length_of : Option Escape → ℕ
length_of found = option_map_or (λ e. e.length) found 0

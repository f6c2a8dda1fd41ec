-- Definitions over those of `Escape`, for proofs and the layers between.
use Rattle.std.specs.Prelude.{ℕ, List, Option, Some}
use Rattle.std.specs.Option.{option_map_or}
use Rattle.qs_lex_escapes.specs.declared.escape.Escape.{Escape}
use Rattle.qs_lex_escapes.specs.declared.escape.Escapes.{Escapes}
use Rattle.qs_lex_escapes.specs.declared.escape.Escapes.TheVariants.{Codepoints, Strings}
use Rattle.qs_lex_escapes.specs.Escape.{uchar, string_escape}

-- an escape of that sort: codepoint escapes alone, as IRIs have them, or those of a string
abbrev pub escape : Escapes → List ℕ → Option Escape
escape Codepoints = uchar
escape Strings = string_escape

abbrev pub echar_or : Option ℕ → Option Escape → Option Escape
echar_or letter other =
    option_map_or (λ e. Some (record { character = e; length = 1 })) letter other

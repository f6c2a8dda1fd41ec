-- What a character makes of the digits of an escape.
use Rattle.std.specs.Prelude.{◌≡◌, ◌+◌, ◌*◌, true, false, ℕ}
use Rattle.qs_lex_regular.specs.Character.{is_hex, hex_value}
use Rattle.qs_lex_regular.specs.declared.hex_digits.HexDigits.{HexDigits}
use Rattle.qs_lex_regular.specs.declared.push.PushResult.{PushResult}
use Rattle.qs_lex_regular.specs.declared.push.PushResult.TheVariants.{Digit, Whole, Other}

-- one digit more, the last one with the value of them all, or no digit
abbrev pub IsPushed : HexDigits → ℕ → PushResult → Type 0
IsPushed e c (Digit f) =
    (is_hex c ≡ true) × (e.after ≡ f.after + 1) × (f.value ≡ e.value * 16 + hex_value c)
IsPushed e c (Whole v) = (is_hex c ≡ true) × (e.after ≡ 0) × (v ≡ e.value * 16 + hex_value c)
IsPushed e c Other = is_hex c ≡ false

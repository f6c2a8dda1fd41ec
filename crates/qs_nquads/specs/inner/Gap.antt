-- Gaps of texts, as bytes.
use Rattle.std.specs.Prelude.{ℕ, false, List}
use Rattle.std.specs.Str.{chars, encode_utf8_all}
use Rattle.qs_nquads.specs.Gap.{skip}

-- the bytes of what is left after the gap at the front of a text
abbrev pub behind_gap : List ℕ → List ℕ
behind_gap text = encode_utf8_all (skip false (chars text))

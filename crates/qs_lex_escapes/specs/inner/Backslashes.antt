-- Texts in which an escape begins at each backslash.
use Rattle.std.specs.Prelude.{ℕ, zero, suc, Bool, true, ◌&&◌, ◌==◌, List, [], ◌∷◌, Option}
use Rattle.std.specs.Prelude.{if◌then◌else◌}
use Rattle.std.specs.Option.{is_some}
use Rattle.qs_lex_escapes.specs.inner.Decoded.{length_of}
use Rattle.qs_lex_escapes.specs.declared.escape.Escape.{Escape}

-- the same after the first n bytes, which an escape took
unfoldable pub begins_behind : (List ℕ → Option Escape) → ℕ → List ℕ → Bool
begins_behind escape n [] = true
begins_behind escape (suc n) (c ∷ cs) = begins_behind escape n cs
begins_behind escape zero (c ∷ cs) =
    if c == 92 then (is_some (escape cs) && begins_behind escape (length_of (escape cs)) cs)
    else (begins_behind escape zero cs)

-- an escape begins at each backslash, but for those that an escape before them took
abbrev pub escapes_begin : (List ℕ → Option Escape) → List ℕ → Bool
escapes_begin escape text = begins_behind escape 0 text

-- Runs of plain characters at the front of a text, a byte at a time.
use Rattle.std.specs.Prelude.{◌≡◌, ℕ, ◌+◌, Bool, not, ◌&&◌, nat_lt, List, drop, Option}
use Rattle.std.specs.Str.{chars, IsCharBoundary}
use Rattle.qs_lex_regular.specs.Character.{is_iri_char}
use Rattle.qs_lex_regular.specs.inner.Best.{best}
use Rattle.qs_lex_regular.specs.inner.Scan.{later}
use Rattle.qs_nquads.specs.Table.{is_string_char}
use Rattle.qs_nquads.specs.inner.State.{left}
use Rattle.qs_nquads.specs.declared.class.Class.{Class}
use Rattle.qs_nquads.specs.declared.state.State.{State}

-- what ends a run within an IRI: all but the characters of ASCII that an IRI holds
unfoldable pub ends_in_iri : ℕ → Bool
ends_in_iri b = not (nat_lt b 128 && is_iri_char b)

-- within a string: all but the characters of ASCII that a string holds
unfoldable pub ends_in_string : ℕ → Bool
ends_in_string b = not (nat_lt b 128 && is_string_char b)

-- n bytes at the front of a text leave the state as it is, with whatever was found before
pub record HasRun (state : State) (text : List ℕ) (n : ℕ) : Type 0 where
  pub boundary : IsCharBoundary text n
  pub best : (len : ℕ) (found : Option (Class × ℕ)) → later (best (left state) (chars text)) len
      found ≡ later (best (left state) (chars (drop n text))) (len + n) found

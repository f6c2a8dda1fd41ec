-- Two tables of characters that are told apart in two ways.
use Rattle.std.proofs.Common.{◌≡◌, ℕ, not, arith}
use Rattle.std.proofs.lemmas.Bool.Decides.{nat_tests}
use Rattle.std.specs.Option.{is_some}
use Rattle.qs_lex_regular.specs.Character.{is_iri_char, is_escaped}
use Rattle.qs_terms.specs.Iri.{is_excluded}
use Rattle.qs_lex_escapes.specs.Escape.{echar_of}

pub iris : (c : ℕ) → is_iri_char c ≡ not (is_excluded c)
unfolding is_iri_char
iris c = grind (arith, nat_tests)

pub letters : (c : ℕ) → is_escaped c ≡ is_some (echar_of c)
unfolding is_escaped
letters c = grind (arith, nat_tests)

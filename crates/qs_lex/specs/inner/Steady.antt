-- Characters of which tokens hold many in a row.
use Rattle.std.specs.Prelude.{ℕ, Bool, not, cond, List, [], ◌∷◌}
use Rattle.qs_lex_regular.specs.Character.{is_digit, is_iri_char, is_one_of}
use Rattle.qs_lex.specs.Table.{is_word_char}
use Rattle.qs_lex.specs.declared.steady.Steady.{Steady}
use Rattle.qs_lex.specs.declared.steady.Steady.TheVariants as steady

abbrev pub is_steady : Steady → ℕ → Bool
is_steady steady.Word c = is_word_char c
is_steady steady.Digit c = is_digit c
is_steady steady.Iri c = is_iri_char c
is_steady (steady.Quoted q) c = not (is_one_of (q.mark ∷ 92 ∷ 10 ∷ 13 ∷ []) c)

-- the characters after those at the front that pass a test
abbrev pub pass : (ℕ → Bool) → List ℕ → List ℕ
pass p [] = []
pass p (c ∷ cs) = cond (p c) (pass p cs) (c ∷ cs)

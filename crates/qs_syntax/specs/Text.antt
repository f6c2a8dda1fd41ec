-- The tokens of a text, and the places of their faults (SPARQL 1.1 Query, 19.8).
use Rattle.std.specs.Prelude.{◌≡◌, ℕ, List, map, slice_get, unwrap_or, option_map}
use Rattle.qs_syntax_grammar.specs.Grammar.{Spells, IsDue}
use Rattle.qs_lex.specs.Lexes.{Lexeme, Lexes}
use Rattle.qs_syntax_tree.specs.declared.token.Token.{Token}
use Rattle.qs_syntax_tree.specs.Sparql.{Rule}
use Rattle.qs_syntax_tree.specs.Table.{grammar}
use Rattle.qs_syntax.specs.Kinds.{token_of}

-- the tokens are those of the text
abbrev pub AreTokensOf : List ℕ → List Token → Type 0
AreTokensOf text tokens = (ts : List Lexeme) × Lexes text ts × (tokens ≡ map token_of ts)

-- the place of the token of that number, or the end where there is none
abbrev pub place_of_number : ℕ → ℕ → List Token → ℕ
place_of_number end n tokens = unwrap_or (option_map (λ t. t.span.start) (slice_get tokens n)) end

-- The tokens spell no tree, and this is the place of the first token such that no tokens that spell
-- one begin with those up to it and with it, or the end.
abbrev pub IsBlamed : {A : Type 0} → Rule A → ℕ → List Token → ℕ → Type 0
IsBlamed {A} start end tokens place =
    ((tree : A) → Spells grammar start tokens tree → ⊥) × (n : ℕ) × IsDue grammar start tokens n
    × (place ≡ place_of_number end n tokens)

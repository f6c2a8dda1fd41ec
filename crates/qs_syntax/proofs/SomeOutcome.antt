-- A text results in something.
use Rattle.std.proofs.Common.{◌≡◌, ◌⊎◌, inl, inr, ◌-◌, ℕ, true, List, length, map, Result, Ok, Err, refl, arith, IsUtf8}
use Rattle.qs_syntax_grammar.specs.Grammar.{Spells}
use Rattle.qs_syntax_grammar.specs.inner.Grammar.{is_start, read, whole}
use Rattle.qs_syntax_grammar.specs.declared.fault.Fault.{Fault}
use Rattle.qs_syntax_grammar.specs.declared.fault.Fault.TheVariants as reading
use Rattle.qs_syntax_grammar.proofs.Whole.{found_spelt, not_deep, is_due, none_spelt}
use Rattle.qs_lex.specs.Lexes.{Lexeme, Lexes, StopsAt}
use Rattle.qs_terms.specs.Outcome.{Outcome}
use Rattle.qs_terms.specs.declared.fault.QFault.TheVariants as fault
use Rattle.qs_syntax_tree.specs.declared.token.Token.{Token}
use Rattle.qs_syntax_tree.specs.Sparql.{Rule, sparql}
use Rattle.qs_syntax_tree.specs.Table.{grammar}
use Rattle.qs_syntax_tree.specs.inner.Table.{guided}
use Rattle.qs_syntax_tree.proofs.SameRules.{grammar_same}
use Rattle.qs_syntax_tree.proofs.Sure.{lawful, passes_each, examples}
use Rattle.qs_syntax.specs.Outcome.{screened, AfterScreen, IsParsed}
use Rattle.qs_syntax.specs.Kinds.{token_of}
use Rattle.qs_syntax.specs.Text.{IsBlamed, place_of_number}
use Rattle.qs_syntax.proofs.Remembers.{wants_none}

module _ {A : Type 0} (start : Rule A) (begin : is_start guided start ≡ true) where
  -- a tree that the tokens spell, or the number of the token that is to blame
  abbrev Tree : ℕ → List Token → Type 0
  Tree end tokens = ((tree : A) × Spells grammar start tokens tree) ⊎ ((place : ℕ) × IsBlamed start end tokens place)

  by_reading : (end : ℕ) (tokens : List Token) (o : Result A Fault) → whole (read guided (length tokens) start tokens) ≡ o → Tree end tokens
  by_reading end tokens (Ok tree) e = rw grammar_same (inl (tree, found_spelt sparql lawful guided passes_each 2 examples A start begin (length tokens) tokens tree e))
  by_reading end tokens (Err (reading.Syntax left)) e =
      let n : ℕ = length tokens - left in
      rw grammar_same (inr (
        place_of_number end n tokens,
        (
          none_spelt sparql lawful guided passes_each 2 examples A start begin (length tokens) tokens (reading.Syntax left) (omega arith) e,
          n,
          is_due sparql lawful guided passes_each 2 examples A start begin (length tokens) tokens left n e refl,
          refl,
        ),
      ))
  by_reading end tokens (Err reading.Deep) e = absurd (not_deep sparql lawful guided passes_each 2 examples A start begin (length tokens) tokens (omega arith) e)
  by_reading end tokens (Err reading.Memory) e = absurd (wants_none sparql guided start (length tokens) tokens e)

  pub tree_or_place : (end : ℕ) (tokens : List Token) → Tree end tokens
  tree_or_place end tokens = by_reading end tokens (whole (read guided (length tokens) start tokens)) refl

  module _ {B : Type 0} (text : List ℕ) (tokens : List Token) (settle : A → Outcome B) where
    after_tree : Tree (length text) tokens → (outcome : Outcome B) × AfterScreen start settle text tokens (Ok tt) outcome
    after_tree (inl t) = (settle t.0, inl (t.0, t.1, refl))
    after_tree (inr d) = (Err (fault.Syntax d.0), inr (d.0, d.1, refl))

    after_screen : (s : Outcome (Unit {0})) → (outcome : Outcome B) × AfterScreen start settle text tokens s outcome
    after_screen (Err f) = (Err f, refl)
    after_screen (Ok done) = after_tree (tree_or_place (length text) tokens)

  pub some_outcome : {B : Type 0} (lexed : (text : List ℕ) → IsUtf8 text → ((ts : List Lexeme) × Lexes text ts) ⊎ ((place : ℕ) × StopsAt text place))
      (settle : List ℕ → A → Outcome B) (text : List ℕ) → IsUtf8 text → (outcome : Outcome B) × IsParsed start (settle text) text outcome
  some_outcome lexed settle text u = elim (lexed text u) [
    | inl l ↦
        (let tokens : List Token = map token_of l.0 in
        let r = after_screen text tokens (settle text) (screened text tokens) in
        (r.0, inr (tokens, (l.0, l.1, refl), r.1)))
    | inr s ↦ (Err (fault.Syntax s.0), inl (s.0, s.1, refl))
  ]

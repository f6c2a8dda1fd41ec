-- A text results in one thing at most.
use Rattle.std.proofs.Common.{◌≡◌, ◌≤◌, ◌<◌, ◌+◌, ℕ, List, ◌++◌, length, take, drop, map, Ok, Err, sym, ◌∙◌, ap, subst, ⊎_elim, inl, inr, arith, append_assoc}
use Rattle.std.proofs.lemmas.Bool.{cases_lt}
use Rattle.std.proofs.lemmas.List.{take-take, take-append-drop}
use Rattle.qs_syntax_grammar.specs.Grammar.{Spells, IsDue, IsViable}
use Rattle.qs_lex.specs.Lexes.{Lexeme, Lexes, StopsAt}
use Rattle.qs_terms.specs.declared.fault.QFault.TheVariants as fault
use Rattle.qs_syntax_tree.specs.declared.token.Token.{Token}
use Rattle.qs_syntax_tree.specs.Sparql.{Rule}
use Rattle.qs_syntax_tree.specs.Table.{grammar}
use Rattle.qs_syntax_tree.specs.inner.Table.{IsUnambiguous}
use Rattle.qs_terms.specs.Outcome.{Outcome}
use Rattle.qs_syntax.specs.Outcome.{screened, AfterScreen, IsParsed}
use Rattle.qs_syntax.specs.Kinds.{token_of}
use Rattle.qs_syntax.specs.Text.{IsBlamed, place_of_number}

module _ {A : Type 0} (start : Rule A) where
  -- what begins a text that has a tree begins one with fewer tokens too
  front_viable : (tokens : List Token) (k m : ℕ) → k ≤ m → IsViable grammar start (take m tokens) → IsViable grammar start (take k tokens)
  front_viable tokens k m h v =
      let front : take k (take m tokens) ++ drop k (take m tokens) ≡ take m tokens = take-append-drop k (take m tokens) in
      let shorter : take k (take m tokens) ≡ take k tokens = take-take k m tokens h in
      let parts : take m tokens ++ v.0 ≡ take k tokens ++ (drop k (take m tokens) ++ v.0) =
      ap (λ ts. ts ++ v.0) (sym front) ∙ append_assoc (take k (take m tokens)) (drop k (take m tokens)) v.0 ∙ ap (λ ts. ts ++ (drop k (take m tokens) ++ v.0)) shorter in
      (drop k (take m tokens) ++ v.0, v.1, subst (λ ts. Spells grammar start ts v.1) parts v.2)

  not_before : (tokens : List Token) (m n : ℕ) → IsDue grammar start tokens m → IsDue grammar start tokens n → m < n → ⊥
  not_before tokens m n a b l =
      let within : m < length tokens = omega (arith, l, b.0) in
      a.2 within (front_viable tokens (m + 1) n (omega (arith, l)) b.1)

  -- one place is due
  one_due : (tokens : List Token) (m n : ℕ) → IsDue grammar start tokens m → IsDue grammar start tokens n → m ≡ n
  one_due tokens m n a b = ⊎_elim
      (λ (l : m < n). absurd (not_before tokens m n a b l))
      (λ (h : n ≤ m). ⊎_elim (λ (l : n < m). absurd (not_before tokens n m b a l)) (λ (k : m ≤ n). omega (arith, h, k)) (cases_lt n m))
      (cases_lt m n)

  one_place : (end : ℕ) (tokens : List Token) (place other : ℕ) → IsBlamed start end tokens place → IsBlamed start end tokens other → place ≡ other
  one_place end tokens place other h k = h.3 ∙ ap (λ n. place_of_number end n tokens) (one_due tokens h.1 k.1 h.2 k.2) ∙ sym k.3

  module _ {B : Type 0} (unambiguous : IsUnambiguous start) (text : List ℕ) (tokens : List Token) (settle : A → Outcome B) where
    after_screen : (s : Outcome (Unit {0})) (a b : Outcome B) → AfterScreen start settle text tokens s a → AfterScreen start settle text tokens s b → a ≡ b
    after_screen (Err f) a b h k = h ∙ sym k
    after_screen (Ok done) a b (inl h) (inl k) = h.2 ∙ ap settle (unambiguous tokens h.0 k.0 h.1 k.1) ∙ sym k.2
    after_screen (Ok done) a b (inl h) (inr k) = absurd (k.1.0 h.0 h.1)
    after_screen (Ok done) a b (inr h) (inl k) = absurd (h.1.0 k.0 k.1)
    after_screen (Ok done) a b (inr h) (inr k) = h.2 ∙ ap (λ p. Err (fault.Syntax p)) (one_place (length text) tokens h.0 k.0 h.1 k.1) ∙ sym k.2

  pub one_outcome : {B : Type 0} → IsUnambiguous start
      → ((text : List ℕ) (ts us : List Lexeme) → Lexes text ts → Lexes text us → ts ≡ us)
      → ((text : List ℕ) (ts : List Lexeme) (place : ℕ) → Lexes text ts → StopsAt text place → ⊥)
      → ((text : List ℕ) (place other : ℕ) → StopsAt text place → StopsAt text other → place ≡ other)
      → (settle : List ℕ → A → Outcome B) (text : List ℕ) (a b : Outcome B)
      → IsParsed start (settle text) text a → IsParsed start (settle text) text b → a ≡ b
  one_outcome unambiguous lists apart places settle text a b (inl h) (inl k) =
      h.2 ∙ ap (λ p. Err (fault.Syntax p)) (places text h.0 k.0 h.1 k.1) ∙ sym k.2
  one_outcome unambiguous lists apart places settle text a b (inl h) (inr k) = absurd (apart text k.1.0 h.0 k.1.1 h.1)
  one_outcome unambiguous lists apart places settle text a b (inr h) (inl k) = absurd (apart text h.1.0 k.0 h.1.1 k.1)
  one_outcome unambiguous lists apart places settle text a b (inr h) (inr k) =
      let same : k.0 ≡ h.0 = k.1.2 ∙ ap (map token_of) (lists text k.1.0 h.1.0 k.1.1 h.1.1) ∙ sym h.1.2 in
      after_screen unambiguous text h.0 (settle text) (screened text h.0) a b h.2
      (subst (λ ts. AfterScreen start (settle text) text ts (screened text ts) b) same k.2)

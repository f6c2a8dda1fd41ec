-- Ways to write rules.
use Rattle.std.specs.Prelude.{List, ◌∷◌, Option, Some, None}
use Rattle.qs_syntax_grammar.specs.Rule.{Language, Rule, empty, both, either, made}

infixr 11 ◌<$>◌
abbrev pub ◌<$>◌ : {L : Language} {A B : Type 0} → (A → B) → Rule L A → Rule L B
f <$> p = made f p

infixl 12 ◌>>◌
abbrev pub ◌>>◌ : {L : Language} {A B : Type 0} → Rule L A → Rule L B → Rule L B
p >> q = made (λ x. x.1) (both p q)

infixl 12 ◌<<◌
abbrev pub ◌<<◌ : {L : Language} {A B : Type 0} → Rule L A → Rule L B → Rule L A
p << q = made (λ x. x.0) (both p q)

infixl 12 ◌&◌
abbrev pub ◌&◌ : {L : Language} {A B : Type 0} → Rule L A → Rule L B → Rule L (A × B)
p & q = both p q

infixr 10 ◌<|>◌
abbrev pub ◌<|>◌ : {L : Language} {A : Type 0} → Rule L A → Rule L A → Rule L A
p <|> q = either p q

-- at most once, with a tree for none
abbrev pub or : {L : Language} {A : Type 0} → A → Rule L A → Rule L A
or a p = either p (empty a)

-- p?
abbrev pub opt : {L : Language} {A : Type 0} → Rule L A → Rule L (Option A)
opt p = or None (made Some p)

abbrev pub cons : {A : Type 0} → A × List A → List A
cons x = x.0 ∷ x.1

-- What a grammar spells.
-- A law over all grammars is a statement over types, which no contract of a call can make. So laws
-- of grammars are lemmas that proofs above cite, as they cite std's; for SPARQL's grammar they are
-- clauses of public calls.
use Rattle.std.specs.Prelude.{◌<◌, ◌≤◌, ◌+◌, ℕ, zero, suc, List, ◌++◌, length, take}
use Rattle.qs_syntax_grammar.specs.Rule.{Language, Rule, Spelt}

-- the rule of each name
abbrev pub Grammar : Language → Type 1
Grammar L = (n : L.Name) → Rule L (L.Tree n)

-- ---- what is spelt

-- the tokens spell the tree of a named rule, where rules hold one another less than so deep
abbrev pub spelt_at : {L : Language} → Grammar L → ℕ → (n : L.Name) → List L.Token → L.Tree n
    → Type 0
spelt_at G zero n ts x = ⊥
spelt_at G (suc d) n ts x = Spelt (spelt_at G d) (G n) ts x

-- the tokens spell the tree: the least relation by which named rules spell what their rules do
abbrev pub Spells : {L : Language} → Grammar L → {A : Type 0} → Rule L A → List L.Token → A → Type 0
Spells G start tokens tree = (d : ℕ) × Spelt (spelt_at G d) start tokens tree

-- some list that spells a tree begins with these tokens
abbrev pub IsViable : {L : Language} → Grammar L → {A : Type 0} → Rule L A → List L.Token → Type 0
IsViable {L} G {A} start tokens =
    (others : List L.Token) × (tree : A) × Spells G start (tokens ++ others) tree

-- The tokens before the place begin a text, and with the one at the place they do not. Or the place
-- is the end.
abbrev pub IsDue : {L : Language} → Grammar L → {A : Type 0} → Rule L A → List L.Token → ℕ → Type 0
IsDue G start tokens place = (place ≤ length tokens) × IsViable G start (take place tokens)
    × (place < length tokens → IsViable G start (take (place + 1) tokens) → ⊥)

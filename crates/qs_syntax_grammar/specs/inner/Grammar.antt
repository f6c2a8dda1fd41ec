-- How a grammar is read, and the test that it must pass, for proofs and the layers between.
use Rattle.std.specs.Prelude.{ℕ, zero, suc, Bool, not, ◌&&◌, List, [], ◌∷◌, length, Result, Ok, Err}
use Rattle.qs_syntax_grammar.specs.declared.fault.Fault.{Fault}
use Rattle.qs_syntax_grammar.specs.declared.fault.Fault.TheVariants.{Deep, Syntax}
use Rattle.qs_syntax_grammar.specs.Rule.{Language, Rule}
use Rattle.qs_syntax_grammar.specs.inner.Reading.{Outcome, Reader, reading, first, more, nullable}
use Rattle.qs_syntax_grammar.specs.inner.Reading.{within, is_sure, opens}
use Rattle.qs_syntax_grammar.specs.Grammar.{Grammar}

-- The named rules. The tables say for each what it begins with, and what may go on with it: any
-- that pass the test are right.
pub record Guided (L : Language) : Type 1 where
  pub rule : Grammar L
  pub firsts : L.Name → List L.Kind
  pub mores : L.Name → List L.Kind

abbrev pub read_at : {L : Language} → Guided L → ℕ → (n : L.Name) → Reader L.Token (L.Tree n)
read_at G zero n ts = Err Deep
read_at G (suc d) n ts = reading G.firsts (read_at G d) (G.rule n) ts

abbrev pub read : {L : Language} → Guided L → ℕ → {A : Type 0} → Rule L A → Reader L.Token A
read G d r = reading G.firsts (read_at G d) r

-- nothing is left over
abbrev pub whole : {T A : Type 0} → Outcome T A → Result A Fault
whole (Ok (x, [])) = Ok x
whole (Ok (x, t ∷ ts)) = Err (Syntax (length (t ∷ ts)))
whole (Err e) = Err e

-- one token ahead is enough, and the rule is read after no named rule
abbrev pub is_start : {L : Language} → Guided L → {A : Type 0} → Rule L A → Bool
is_start G r = is_sure G.firsts G.mores r && not (opens r)

-- a named rule passes, and its rows of the tables are right
abbrev pub passes : {L : Language} → Guided L → L.Name → Bool
passes {L} G n =
    is_start G (G.rule n) && not (nullable (G.rule n)) && within L (first G.firsts (G.rule n))
    (G.firsts n) && within L (more G.firsts G.mores (G.rule n)) (G.mores n)

-- What reading a text ensures.
use Rattle.std.specs.Prelude.{◌≡◌, ◌≢◌, List, ◌⊎◌, length, Result, Ok, Err}
use Rattle.qs_syntax_grammar.specs.declared.fault.Fault.{Fault}
use Rattle.qs_syntax_grammar.specs.declared.fault.Fault.TheVariants as inner
use Rattle.qs_syntax_grammar.specs.declared.fault.ParseFault.{ParseFault}
use Rattle.qs_syntax_grammar.specs.declared.fault.ParseFault.TheVariants.{Memory, Syntax}
use Rattle.qs_syntax_grammar.specs.Rule.{Language, Rule}
use Rattle.qs_syntax_grammar.specs.Grammar.{Grammar, Spells, IsDue}
use Rattle.qs_syntax_grammar.specs.inner.Grammar.{Guided, read, whole}

-- the outcome over all tokens, unless memory fails
abbrev pub ReadsAll : {L : Language} → Guided L → {A : Type 0} → Rule L A → List L.Token
    → Result A Fault → Type 0
ReadsAll G start tokens (Ok tree) = whole (read G (length tokens) start tokens) ≡ Ok tree
ReadsAll G start tokens (Err e) =
    e ≢ inner.Memory → whole (read G (length tokens) start tokens) ≡ Err e

-- a tree that is spelt is what is read, unless memory fails
abbrev pub IsOnlyTree : {L : Language} → Grammar L → {A : Type 0} → Rule L A → List L.Token
    → Result A ParseFault → Type 0
IsOnlyTree G {A} start tokens result =
    (tree : A) → Spells G start tokens tree → (result ≡ Ok tree) ⊎ (result ≡ Err Memory)

-- nothing is spelt, and the place is due
abbrev pub IsRightFault : {L : Language} → Grammar L → {A : Type 0} → Rule L A → List L.Token
    → ParseFault → Type 0
IsRightFault G start tokens Memory = Unit {0}
IsRightFault G {A} start tokens (Syntax place) =
    ((tree : A) → Spells G start tokens tree → ⊥) × IsDue G start tokens place

-- Definitions over those of `Text`, for proofs and the layers between.
use Rattle.std.specs.Prelude.{ℕ, List}
use Rattle.qs_terms.specs.declared.fault.QFault.{QFault}
use Rattle.qs_terms.specs.declared.fault.QFault.TheVariants.{Syntax, Memory}
use Rattle.qs_syntax_tree.specs.declared.token.Token.{Token}
use Rattle.qs_syntax_tree.specs.Sparql.{Rule}
use Rattle.qs_syntax.specs.Text.{IsBlamed}

-- the place that is blamed
abbrev pub IsTreeFault : {A : Type 0} → Rule A → ℕ → List Token → QFault → Type 0
IsTreeFault start end tokens (Syntax place) = IsBlamed start end tokens place
IsTreeFault start end tokens Memory = Unit {0}
IsTreeFault start end tokens fault = ⊥

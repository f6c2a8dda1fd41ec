-- What the text of an update makes of what a store holds: the fault that is due, or what its
-- operations make of it.
use Rattle.std.specs.Prelude.{◌≡◌, ℕ, List}
use Rattle.qs_terms.specs.Outcome.{Outcome, IsDueAfter}
use Rattle.qs_syntax_ast.specs.declared.update.Update.{Update}
use Rattle.qs_store.specs.Content.{Content}
use Rattle.qs_store.specs.Same.{SameSet}
use Rattle.qs_syntax.specs.Outcome.{IsUpdateOutcome}
use Rattle.qs_update.specs.Request.{Bounds, AreOperations}

-- a text without fault makes what its operations make
abbrev pub IsOutcomeOfText : Bounds → List ℕ → Content → Outcome Content → Type 0
IsOutcomeOfText bounds text old outcome = (parsed : Outcome Update) × IsUpdateOutcome text parsed
    × IsDueAfter (λ (u : Update). AreOperations bounds u.operations old) parsed outcome

-- the same quads, next number and known terms
pub record IsSameContent (a b : Content) : Type 0 where
  pub quads : SameSet a.quads b.quads
  pub next : a.next ≡ b.next
  pub known : a.known ≡ b.known

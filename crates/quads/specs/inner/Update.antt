-- The steps of an update of a file's data.
use Rattle.std.specs.Prelude.{◌≢◌, ℕ, List, Ok, Err}
use Rattle.qs_terms.specs.Outcome.{Outcome}
use Rattle.qs_terms.specs.Statement.{Statement}
use Rattle.qs_terms.specs.declared.fault.QFault.TheVariants.{Memory}
use Rattle.qs_store.specs.Content.{Content}
use Rattle.qs_store.specs.Same.{SameSet}
use Rattle.qs_store.specs.declared.default_graph.DefaultGraph.{DefaultGraph}
use Rattle.qs_update.specs.Outcome.{IsSameContent}
use Rattle.quads.specs.inner.Outcomes.{IsUpdateOutcome}

-- the store holds what the update of the bytes makes of what it held
abbrev pub BecomesUpdated : DefaultGraph → List ℕ → Content → Outcome (Unit {0}) → Content → Type 0
BecomesUpdated choice text old (Ok done) new =
    (c : Content) × IsUpdateOutcome choice text old (Ok c) × IsSameContent new c
BecomesUpdated choice text old (Err f) new = f ≢ Memory → IsUpdateOutcome choice text old (Err f)

-- the quads after the update of the bytes
abbrev pub AreQuadsAfter : DefaultGraph → List ℕ → Content → List Statement → Type 0
AreQuadsAfter choice text old all =
    (c : Content) × IsUpdateOutcome choice text old (Ok c) × SameSet all c.quads

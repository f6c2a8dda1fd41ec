-- Operations that are carried out over a draft.
use Rattle.std.specs.Prelude.{◌≡◌, ◌≢◌, ℕ, List, take, Ok, Err}
use Rattle.qs_terms.specs.Outcome.{Outcome}
use Rattle.qs_terms.specs.declared.fault.QFault.{QFault}
use Rattle.qs_terms.specs.declared.fault.QFault.TheVariants as fault
use Rattle.qs_syntax_ast.specs.declared.update.Operation.{Operation}
use Rattle.qs_store.specs.Content.{Content, Held}
use Rattle.qs_store.specs.declared.fault.StoreFault.{StoreFault}
use Rattle.qs_store.specs.declared.fault.StoreFault.TheVariants as store_fault
use Rattle.qs_update.specs.Outcome.{IsSameContent}
use Rattle.qs_update.specs.Request.{Bounds, bounds_of, AreOperations}

-- a fault of the store is one of a request
abbrev pub fault_of : StoreFault → QFault
fault_of store_fault.Full = fault.Full
fault_of store_fault.Memory = fault.Memory

-- the content that stands after a call is one of those that are due, or a fault is, or memory ran
-- out
abbrev pub BecomesOne : (Outcome Content → Type 0) → Outcome (Unit {0}) → Content → Type 0
BecomesOne Due (Ok done) new = Due (Ok new)
BecomesOne Due (Err f) new = f ≢ fault.Memory → Due (Err f)

-- the first so many operations were carried out over a content, or a fault of all is due, or memory
-- ran out
abbrev pub BecomesFirst : Bounds → List Operation → Content → Outcome ℕ → Content → Type 0
BecomesFirst bounds operations old (Ok count) new =
    AreOperations bounds (take count operations) old (Ok new)
BecomesFirst bounds operations old (Err f) new =
    f ≢ fault.Memory → AreOperations bounds operations old (Err f)

-- a store with a draft over which the rest of the operations is still to be carried out, where it
-- was `old` before all of them
pub record Remaining (max_rows : ℕ) (operations rest : List Operation) (old new : Held) : Type
    0 where
  pub base : new.base ≡ old.base
  pub limit : new.limit ≡ old.limit
  pub default_graph : new.default_graph ≡ old.default_graph
  pub outcome : (outcome : Outcome Content) → AreOperations (bounds_of max_rows old) rest new.draft
      outcome → AreOperations (bounds_of max_rows old) operations old.draft outcome

-- the store holds what operations make of what it held
abbrev pub AreTaken : Bounds → List Operation → Content → Content → Type 0
AreTaken bounds operations old new =
    (c : Content) × AreOperations bounds operations old (Ok c) × IsSameContent new c

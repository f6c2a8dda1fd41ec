-- Requests: operations that take effect in turn, all or none (SPARQL 1.1 Update, 3 and 4.3).
use Rattle.std.specs.Prelude.{◌≡◌, ◌<◌, ◌≤◌, ℕ, List, [], ◌∷◌, length, Ok, Err}
use Rattle.qs_terms.specs.Outcome.{Outcome, IsDueAfter}
use Rattle.qs_terms.specs.Statement.{Statement}
use Rattle.qs_terms.specs.declared.fault.QFault.TheVariants.{Full}
use Rattle.qs_syntax_ast.specs.declared.update.Operation.{Operation}
use Rattle.qs_store.specs.Change.{IsChanged, KnowsTermsOf, with_terms_of}
use Rattle.qs_store.specs.Content.{Content, Held}
use Rattle.qs_store.specs.Same.{SameSet}
use Rattle.qs_store.specs.declared.default_graph.DefaultGraph.{DefaultGraph}
use Rattle.qs_update.specs.Effect.{IsEffect}
use Rattle.qs_update.specs.declared.effect.Effect.{Effect}

-- what is fixed for a request: how many terms may be known, how many solutions a WHERE may have,
-- and what its default graph is
pub record Bounds : Type 0 where
  pub terms : ℕ
  pub rows : ℕ
  pub default_graph : DefaultGraph

-- those of a store
abbrev pub bounds_of : ℕ → Held → Bounds
bounds_of rows h = record { terms = h.limit; rows = rows; default_graph = h.default_graph }

-- the content after an effect: the old quads that aren't removed together with those that are
-- added, the next blank node's number, and the known terms with those of the added quads, which are
-- no more than the limit
pub record IsApplied (limit : ℕ) (old : Content) (e : Effect) (new : Content) : Type 0 where
  pub room : length (with_terms_of old.known e.added) ≤ limit
  pub quads : IsChanged old.quads e.removed e.added new.quads
  pub next : new.next ≡ e.next
  pub known : KnowsTermsOf old.known e.added new.known

-- a fault, or the content after the effect, or the fault that there would be more known terms than
-- the limit
abbrev pub IsCarriedOut : ℕ → Content → Outcome Effect → Outcome Content → Type 0
IsCarriedOut limit c (Ok e) (Ok new) = IsApplied limit c e new
IsCarriedOut limit c (Ok e) (Err f) = (limit < length (with_terms_of c.known e.added)) × (f ≡ Full)
IsCarriedOut limit c (Err g) (Ok new) = ⊥
IsCarriedOut limit c (Err g) (Err f) = f ≡ g

-- what an operation makes of a content, whose quads have no order: some list of them is read
abbrev pub IsOperation : Bounds → Operation → Content → Outcome Content → Type 0
IsOperation bounds operation old outcome =
    (quads : List Statement) × SameSet quads old.quads
    × ((effect : Outcome Effect) × IsEffect bounds.rows bounds.default_graph operation quads
    old.next effect × IsCarriedOut bounds.terms old effect outcome)

-- the operations one after another, each over what those before it left; the first fault is that of
-- all
abbrev pub AreOperations : Bounds → List Operation → Content → Outcome Content → Type 0
AreOperations bounds [] old outcome = outcome ≡ Ok old
AreOperations bounds (operation ∷ operations) old outcome =
    (first : Outcome Content) × IsOperation bounds operation old first
    × IsDueAfter (AreOperations bounds operations) first outcome

-- The result of an update, from its steps.
use Rattle.std.proofs.Common.{◌≡◌, ◌≢◌, ℕ, List, Ok, Err, OnOk, IfOk, IfErr, refl, sym, subst}
use Rattle.qs_terms.specs.Outcome.{Outcome}
use Rattle.qs_terms.specs.Statement.{Statement}
use Rattle.qs_terms.specs.declared.fault.QFault.{QFault}
use Rattle.qs_terms.specs.declared.fault.QFault.TheVariants.{Memory}
use Rattle.qs_service.specs.Language.{sparql}
use Rattle.qs_store.specs.Content.{Content, Held}
use Rattle.qs_store.specs.Same.{SameSet}
use Rattle.qs_store.specs.declared.default_graph.DefaultGraph.{DefaultGraph}
use Rattle.qs_update.specs.Outcome as update
use Rattle.qs_update.specs.inner.Outcome as inner
use Rattle.qs_update.specs.Request.{Bounds, bounds_of}
use Rattle.quads.specs.Due.{max_terms, bounds, IsTextOf}
use Rattle.quads.specs.inner.Outcomes.{max_rows, IsUpdateOutcome}
use Rattle.quads.specs.inner.Update.{BecomesUpdated, AreQuadsAfter}

same_bounds : (held : Held) → held.limit ≡ max_terms → bounds_of max_rows held ≡ bounds held.default_graph
same_bounds held e =
    subst (λ (n : ℕ). (let b : Bounds = record { terms = n; rows = max_rows; default_graph = held.default_graph } in b ≡ bounds held.default_graph)) (sym e) refl

module _ (held : Held) (limit : held.limit ≡ max_terms) (bytes text : List ℕ) (is : IsTextOf bytes (Ok text)) where
  accepted : (new : Content) → inner.IsAccepted (bounds_of max_rows held) text held.base new → (c : Content) × IsUpdateOutcome held.default_graph bytes held.base (Ok c) × update.IsSameContent new c
  unfolding sparql
  accepted new a = (a.0, (Ok text, is, subst (λ (b : Bounds). update.IsOutcomeOfText b text held.base (Ok a.0)) (same_bounds held limit) a.1), a.2)

  refused : (f : QFault) → update.IsOutcomeOfText (bounds_of max_rows held) text held.base (Err f) → IsUpdateOutcome held.default_graph bytes held.base (Err f)
  unfolding sparql
  refused f a = (Ok text, is, subst (λ (b : Bounds). update.IsOutcomeOfText b text held.base (Err f)) (same_bounds held limit) a)

pub no_text : (choice : DefaultGraph) (bytes : List ℕ) (old new : Content) (f : QFault) → IsTextOf bytes (Err f) → BecomesUpdated choice bytes old (Err f) new
no_text choice bytes old new f is = λ _. (Err f, is, refl)

-- what the update of a text becomes is what that of its bytes becomes
pub becomes : (held : Held) (bytes text : List ℕ) (new : Content) (r : Outcome (Unit {0})) → held.limit ≡ max_terms → IsTextOf bytes (Ok text)
    → OnOk r (inner.IsAccepted (bounds_of max_rows held) text held.base new) → IfErr r (λ f. f ≢ Memory → update.IsOutcomeOfText (bounds_of max_rows held) text held.base (Err f)) → BecomesUpdated held.default_graph bytes held.base r new
becomes held bytes text new (Ok done) limit is ok err = accepted held limit bytes text is new ok
becomes held bytes text new (Err f) limit is ok err = λ n. refused held limit bytes text is f (err n)

module _ {A : Type 0} (items : A → List Statement) where
  pub held_after : (choice : DefaultGraph) (text : List ℕ) (old new : Content) (r : Outcome A) → ((a b d : List Statement) → SameSet a b → SameSet b d → SameSet a d)
      → (c : Content) × IsUpdateOutcome choice text old (Ok c) × update.IsSameContent new c → IfOk r (λ all. SameSet (items all) new.quads) → IfOk r (λ all. AreQuadsAfter choice text old (items all))
  held_after choice text old new (Ok all) joined h same = (h.0, h.1, joined (items all) new.quads h.0.quads same h.2.quads)
  held_after choice text old new (Err f) joined h same = same

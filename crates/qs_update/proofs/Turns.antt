-- Operations over a draft, one after another.
use Rattle.std.proofs.Common.{◌≡◌, ◌≤◌, ℕ, List, [], ◌∷◌, ◌++◌, length, take, drop, Ok, Err, refl, sym, subst, ap, ◌∙◌}
use Rattle.std.proofs.lemmas.List.{take-append-drop}
use Rattle.std.specs.List.{flat_map}
use Rattle.std.proofs.lemmas.List.Sorted.{IsPermutation-refl}
use Rattle.qs_terms.specs.Outcome.{Outcome, IsDueAfter}
use Rattle.qs_terms.specs.Statement.{Statement}
use Rattle.qs_terms.specs.declared.fault.QFault.{QFault}
use Rattle.qs_terms.specs.declared.term.Term.{Term}
use Rattle.qs_syntax_ast.specs.declared.update.Operation.{Operation}
use Rattle.qs_store.specs.Change.{IsChanged, KnowsTermsOf, terms_of, with_terms_of}
use Rattle.qs_store.specs.Content.{Content, Held}
use Rattle.qs_store.specs.Same.{SameSet}
use Rattle.qs_store.specs.declared.default_graph.DefaultGraph.{DefaultGraph}
use Rattle.qs_store.proofs.Terms.{front_take, front_terms}
use Rattle.qs_update.specs.inner.Carried.{Remaining}
use Rattle.qs_update.specs.Outcome.{IsSameContent}
use Rattle.qs_update.specs.Request.{Bounds, bounds_of, IsApplied, IsOperation, AreOperations}
use Rattle.qs_update.specs.declared.effect.Effect.{Effect}

-- ---- one operation

-- the change of an effect's quads applies it
pub applied : (limit : ℕ) (old new : Content) (e : Effect) (removed added : List Statement) → removed ≡ e.removed → added ≡ e.added
    → length (with_terms_of old.known added) ≤ limit → IsChanged old.quads removed added new.quads → new.next ≡ e.next → KnowsTermsOf old.known added new.known → IsApplied limit old e new
applied limit old new e removed added r a room quads next known = record {
  room = subst (λ (l : List Statement). length (with_terms_of old.known l) ≤ limit) a room;
  quads = subst (λ (l : List Statement). IsChanged old.quads l e.added new.quads) r (subst (λ (l : List Statement). IsChanged old.quads removed l new.quads) a quads);
  next = next;
  known = subst (λ (l : List Statement). KnowsTermsOf old.known l new.known) a known;
}

-- the new terms in the order in which they stand
pub known_in_turn : (old : List Term) (quads : List Statement) (new : List Term) → new ≡ with_terms_of old quads → KnowsTermsOf old quads new
known_in_turn old quads new e =
    subst (KnowsTermsOf old quads) (sym e) record {
      front = front_take old (with_terms_of old quads) (front_terms old (flat_map terms_of quads));
      same = IsPermutation-refl (with_terms_of old quads);
    }

module _ (bounds : Bounds) where
  -- ---- one after another

  abbrev Are : List Operation → Content → Outcome Content → Type 0
  Are operations old outcome = AreOperations bounds operations old outcome

  ended : (outcome : Outcome Content) → IsDueAfter (Are []) outcome outcome
  ended (Ok c) = refl
  ended (Err f) = refl

  pub alone : (o : Operation) (old : Content) (outcome : Outcome Content) → IsOperation bounds o old outcome → Are (o ∷ []) old outcome
  alone o old outcome k = (outcome, k, ended outcome)

  then_more : (operations more : List Operation) (c : Content) (outcome first : Outcome Content)
      → ((d : Content) → Are operations d (Ok c) → Are (operations ++ more) d outcome) → IsDueAfter (Are operations) first (Ok c) → IsDueAfter (Are (operations ++ more)) first outcome
  then_more operations more c outcome (Ok d) others h = others d h
  then_more operations more c outcome (Err f) others h = absurd (let e : Ok c ≡ Err f = h in cc)

  -- more operations after others that succeed
  pub in_turn : (operations more : List Operation) (old c : Content) (outcome : Outcome Content) → Are operations old (Ok c) → Are more c outcome → Are (operations ++ more) old outcome
  in_turn [] more old c outcome h k = subst (λ (x : Content). Are more x outcome) (let e : Ok c ≡ Ok old = h in cc) k
  in_turn (p ∷ operations) more old c outcome h k = (h.0, h.1, then_more operations more c outcome h.0 (λ d l. in_turn operations more d c outcome l k) h.2)

  before_first : (operations more : List Operation) (f : QFault) (first : Outcome Content)
      → ((d : Content) → Are operations d (Err f) → Are (operations ++ more) d (Err f)) → IsDueAfter (Are operations) first (Err f) → IsDueAfter (Are (operations ++ more)) first (Err f)
  before_first operations more f (Ok d) others h = others d h
  before_first operations more f (Err g) others h = h

  -- a fault is that of whichever operations come after
  pub before : (operations more : List Operation) (f : QFault) (old : Content) → Are operations old (Err f) → Are (operations ++ more) old (Err f)
  before [] more f old h = absurd (let e : Err f ≡ Ok old = h in cc)
  before (p ∷ operations) more f old h = (h.0, h.1, before_first operations more f h.0 (λ d l. before operations more f d l) h.2)

  -- the first so many operations, and the others
  pub split : (n : ℕ) (operations : List Operation) (old c : Content) (outcome : Outcome Content) → Are (take n operations) old (Ok c) → Are (drop n operations) c outcome → Are operations old outcome
  split n operations old c outcome h k =
      subst (λ (l : List Operation). Are l old outcome) (take-append-drop n operations) (in_turn (take n operations) (drop n operations) old c outcome h k)

  pub stopped : (n : ℕ) (operations : List Operation) (old : Content) (f : QFault) → Are (take n operations) old (Err f) → Are operations old (Err f)
  stopped n operations old f h = subst (λ (l : List Operation). Are l old (Err f)) (take-append-drop n operations) (before (take n operations) (drop n operations) f old h)

-- ---- over a draft

same_bounds : (max_rows : ℕ) (a b : Held) → a.limit ≡ b.limit → a.default_graph ≡ b.default_graph → bounds_of max_rows a ≡ bounds_of max_rows b
same_bounds max_rows a b l d =
    let with_terms : ℕ → Bounds = λ n. record { terms = n; rows = max_rows; default_graph = a.default_graph } in
    let with_graph : DefaultGraph → Bounds = λ g. record { terms = b.limit; rows = max_rows; default_graph = g } in
    ap with_terms l ∙ ap with_graph d

module _ (max_rows : ℕ) (operations rest : List Operation) (old now : Held) (r : Remaining max_rows operations rest old now) where
  there : (others : List Operation) (outcome : Outcome Content) → AreOperations (bounds_of max_rows now) others now.draft outcome → AreOperations (bounds_of max_rows old) others now.draft outcome
  there others outcome h = subst (λ (b : Bounds). AreOperations b others now.draft outcome) (same_bounds max_rows now old r.limit r.default_graph) h

  -- after the first so many of the rest
  pub remain : (n : ℕ) (new : Held) → new.base ≡ now.base → new.limit ≡ now.limit → new.default_graph ≡ now.default_graph → AreOperations (bounds_of max_rows now) (take n rest) now.draft (Ok new.draft)
      → Remaining max_rows operations (drop n rest) old new
  remain n new b l d h = record {
    base = b ∙ r.base;
    limit = l ∙ r.limit;
    default_graph = d ∙ r.default_graph;
    outcome = λ outcome k. r.outcome outcome (split (bounds_of max_rows old) n rest now.draft new.draft outcome (there (take n rest) (Ok new.draft) h) k);
  }

-- ---- a request

module _ (max_rows : ℕ) (held start : Held) (at : start.draft ≡ held.base) (l : start.limit ≡ held.limit) (d : start.default_graph ≡ held.default_graph) where
  -- the draft began as the store
  pub rebased : (operations : List Operation) (outcome : Outcome Content) → AreOperations (bounds_of max_rows start) operations start.draft outcome → AreOperations (bounds_of max_rows held) operations held.base outcome
  rebased operations outcome h =
      subst (λ (b : Bounds). AreOperations b operations held.base outcome) (same_bounds max_rows start held l d)
      (subst (λ (c : Content). AreOperations (bounds_of max_rows start) operations c outcome) at h)

-- the same content, where one of the two has the quads of a third
pub same_content : (new made : Content) (quads : List Statement) → quads ≡ new.quads → SameSet quads made.quads → new.next ≡ made.next → new.known ≡ made.known → IsSameContent new made
same_content new made quads e same next known = record { quads = subst (λ (l : List Statement). SameSet l made.quads) e same; next = next; known = known }

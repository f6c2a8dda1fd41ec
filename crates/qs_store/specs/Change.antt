-- A change: quads are removed, and then others are added (SPARQL 1.1 Update, 4.3.1).
use Rattle.std.specs.Prelude.{◌≡◌, ◌⊎◌, ◌↔◌, List, [], ◌∷◌, length, take}
use Rattle.std.specs.List.{Contains, cons_option, flat_map, fold}
use Rattle.qs_terms.specs.Bag.{SameBag, with_new}
use Rattle.qs_terms.specs.Term.{same_term}
use Rattle.qs_terms.specs.Statement.{Statement}
use Rattle.qs_terms.specs.declared.term.Term.{Term}

-- the old ones that aren't removed, together with those that are added; so one that is removed and
-- added is there
abbrev pub IsChanged : {X : Type 0} → List X → List X → List X → List X → Type 0
IsChanged {X} old removed added new =
    (x : X) → Contains new x ↔ ((Contains old x × (¬ Contains removed x)) ⊎ Contains added x)

-- the terms of a quad
abbrev pub terms_of : Statement → List Term
terms_of q = cons_option q.graph (q.subject ∷ q.predicate ∷ q.object ∷ [])

-- the known terms and the other terms of the quads, each once
abbrev pub with_terms_of : List Term → List Statement → List Term
with_terms_of known quads = fold (with_new same_term) known (flat_map terms_of quads)

-- the known terms, followed in some order by the other terms of the quads, each once
pub record KnowsTermsOf (old : List Term) (quads : List Statement) (new : List Term) : Type 0 where
  pub front : take (length old) new ≡ old
  pub same : SameBag new (with_terms_of old quads)

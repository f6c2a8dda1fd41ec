-- How a store keeps what it holds.
use Rattle.std.specs.Prelude.{◌≡◌, ℕ, ◌≤◌, List, ◌++◌, length, take}
use Rattle.std.specs.Bool.{IsTrue}
use Rattle.qs_terms.specs.Bag.{Distinct}
use Rattle.qs_terms.specs.Dataset.{is_above_blanks}
use Rattle.qs_terms.specs.Term.{same_term}
use Rattle.qs_terms.specs.declared.term.Term.{Term}
use Rattle.qs_store.specs.inner.Entries.{said, AreEntries}

-- the dictionary's terms, the entries of the store and of its draft, how many of the terms the
-- store knows, and the next numbers of both
pub record IsStore (terms : List Term) (base draft : List (List ℕ))
    (known next draft_next : ℕ) : Type 0 where
  pub distinct : Distinct same_term terms
  pub within : known ≤ length terms
  pub known_base : AreEntries (take known terms) base
  pub known_draft : AreEntries terms draft
  pub below : IsTrue (is_above_blanks next (said terms base))
  pub above : IsTrue (is_above_blanks draft_next (said terms draft))

-- the first terms of a list are those of another
pub record IsFront (old new : List Term) : Type 0 where
  pub more : List Term
  pub is : new ≡ old ++ more

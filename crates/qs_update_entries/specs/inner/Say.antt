-- Entries whose terms become known in a draft, one quad after another.
use Rattle.std.specs.Prelude.{◌≡◌, ℕ, List}
use Rattle.qs_terms.specs.Statement.{Statement}
use Rattle.qs_terms.specs.declared.term.Term.{Term}
use Rattle.qs_store.specs.Change.{with_terms_of}
use Rattle.qs_store.specs.Content.{Held}
use Rattle.qs_store.specs.inner.Entries.{AreEntries, said}

-- a draft has learnt terms, and is otherwise as it was
pub record Learns (old new : Held) : Type 0 where
  pub base : new.base ≡ old.base
  pub quads : new.draft.quads ≡ old.draft.quads
  pub next : new.draft.next ≡ old.draft.next
  pub limit : new.limit ≡ old.limit
  pub default_graph : new.default_graph ≡ old.default_graph

-- entries over the known terms say these quads, whose terms are those that became known
pub record Say (first known : List Term) (entries : List (List ℕ)) (quads : List Statement) : Type
    0 where
  pub entries_are : AreEntries known entries
  pub says : said known entries ≡ quads
  pub known_is : known ≡ with_terms_of first quads

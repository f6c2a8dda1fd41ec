-- The steps of a load.
use Rattle.std.specs.Prelude.{◌≡◌, ℕ, List, ◌++◌}
use Rattle.qs_terms.specs.Statement.{Statement}
use Rattle.qs_terms.specs.declared.term.Term.{Term}
use Rattle.qs_nquads.specs.Nquads.{IsNquads, IsFault}
use Rattle.qs_nquads.specs.inner.Unread.{Unread, HasRead}
use Rattle.qs_store.specs.Change.{with_terms_of}
use Rattle.qs_store.specs.Content.{Held}
use Rattle.qs_store.specs.inner.Entries.{AreEntries, said}
use Rattle.qs_store.specs.declared.fault.StoreFault.{StoreFault}
use Rattle.qs_store.specs.declared.fault.StoreFault.TheVariants as store_fault
use Rattle.qs_store_load.specs.declared.fault.LoadFault.{LoadFault}
use Rattle.qs_store_load.specs.declared.fault.LoadFault.TheVariants.{Text, Store}

-- a draft has learnt terms, and is otherwise as it was
pub record Learns (old new : Held) : Type 0 where
  pub base : new.base ≡ old.base
  pub quads : new.draft.quads ≡ old.draft.quads
  pub next : new.draft.next ≡ old.draft.next
  pub limit : new.limit ≡ old.limit
  pub default_graph : new.default_graph ≡ old.default_graph

-- entries over the known terms say these quads, whose terms are those that became known
pub record Say (first known : List Term) (entries : List (List ℕ)) (quads : List Statement) : Type
    0 where
  pub entries_are : AreEntries known entries
  pub says : said known entries ≡ quads
  pub known_is : known ≡ with_terms_of first quads

-- after these statements there are others, and then the text ends
pub record EndsBehind (bytes : List ℕ) (first : ℕ) (quads : List Statement) : Type 0 where
  pub more : List Statement
  pub next : ℕ
  pub reads : IsNquads bytes first (quads ++ more) next

-- so many statements more were read
pub record HasReadMore (first : ℕ) (quads : List Statement) (u : Unread) : Type 0 where
  pub more : List Statement
  pub read : HasRead first (quads ++ more) u

-- what is told where the terms of these statements, and perhaps of more, find no room
abbrev pub IsTold : List ℕ → ℕ → List Statement → LoadFault → Type 0
IsTold bytes first quads (Text f) = IsFault bytes first f.kind f.line
IsTold bytes first quads (Store store_fault.Full) = EndsBehind bytes first quads
IsTold bytes first quads (Store store_fault.Memory) = ⊥

-- what is told where a statement is refused: running out of memory at once
abbrev pub IsToldFor : StoreFault → List ℕ → ℕ → List Statement → LoadFault → Type 0
IsToldFor store_fault.Full bytes first quads f = IsTold bytes first quads f
IsToldFor store_fault.Memory bytes first quads f = f ≡ Store store_fault.Memory

-- the text has ended, and the entries say its quads
pub record AreNumbered (bytes : List ℕ) (first next : ℕ) (old known : List Term)
    (entries : List (List ℕ)) : Type 0 where
  pub quads : List Statement
  pub reads : IsNquads bytes first quads next
  pub say : Say old known entries quads

-- the same of a draft that has learnt the terms of the text alone, and is otherwise the store
pub record IsNumbered (bytes : List ℕ) (next : ℕ) (held : Held) (entries : List (List ℕ)) : Type
    0 where
  pub same_quads : held.draft.quads ≡ held.base.quads
  pub same_next : held.draft.next ≡ held.base.next
  pub numbered : AreNumbered bytes held.base.next next held.base.known held.draft.known entries

-- N-Quads that are put into a store: what they say is added to its quads, with the labels of blank
-- nodes numbered from its next number (RDF 1.1 N-Quads, 3; SPARQL 1.1 Update, 3.1.4).
use Rattle.std.specs.Prelude.{ℕ, ◌<◌, ◌≤◌, List, [], length}
use Rattle.qs_terms.specs.Statement.{Statement}
use Rattle.qs_terms.specs.declared.term.Term.{Term}
use Rattle.qs_nquads.specs.Nquads.{IsNquads, IsFault}
use Rattle.qs_store.specs.Change.{IsChanged, KnowsTermsOf, with_terms_of}
use Rattle.qs_store.specs.Content.{Content}
use Rattle.qs_store.specs.declared.fault.StoreFault.TheVariants as store_fault
use Rattle.qs_store_load.specs.declared.fault.LoadFault.{LoadFault}
use Rattle.qs_store_load.specs.declared.fault.LoadFault.TheVariants.{Text, Store}

-- the bytes are N-Quads, and the store has changed as by one change that adds their quads; its
-- terms are no more than the limit
pub record IsLoaded (limit : ℕ) (bytes : List ℕ) (old new : Content) : Type 0 where
  pub quads : List Statement
  pub reads : IsNquads bytes old.next quads new.next
  pub changed : IsChanged old.quads [] quads new.quads
  pub known : KnowsTermsOf old.known quads new.known
  pub room : length (with_terms_of old.known quads) ≤ limit

-- the bytes are N-Quads whose terms, with those that are known, are more than the limit
pub record IsFullFor (limit : ℕ) (bytes : List ℕ) (first : ℕ) (known : List Term) : Type 0 where
  pub quads : List Statement
  pub next : ℕ
  pub reads : IsNquads bytes first quads next
  pub more : limit < length (with_terms_of known quads)

-- the first fault of the text, or that its terms find no room; memory may run out at any time
abbrev pub IsLoadFault : ℕ → List ℕ → ℕ → List Term → LoadFault → Type 0
IsLoadFault limit bytes first known (Text f) = IsFault bytes first f.kind f.line
IsLoadFault limit bytes first known (Store store_fault.Full) = IsFullFor limit bytes first known
IsLoadFault limit bytes first known (Store store_fault.Memory) = Unit {0}

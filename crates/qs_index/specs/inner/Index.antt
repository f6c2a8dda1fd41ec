-- The index: one set of entries in several orders, seen as its ascending list.
use Rattle.std.specs.Prelude.{ℕ, List, min}
use Rattle.std.specs.List.{Contains}
use Rattle.qs_index.specs.inner.Entry.{IsEntry}
use Rattle.qs_index.specs.inner.OrderOf.{IsOrderOf}
use Rattle.qs_index.specs.inner.Named.{NamedOrders, AreNamedOf}
use Rattle.qs_index.specs.declared.permutation.Permutation.TheVariants.{Gspo, Gpos, Gosp}

-- an ascending list of entries, how many inserts need no memory, and how many of entries of named
-- graphs need none in the orders of these
pub record IndexState : Type 0 where
  pub entries : List (List ℕ)
  pub spare : ℕ
  pub named_spare : ℕ

-- how many inserts need no memory, whatever graphs their entries are of
abbrev pub spare_of : IndexState → ℕ
spare_of s = min s.spare s.named_spare

-- orders of one set of entries: three of all, and those of the named graphs
pub record IsOneSet (gspo gpos gosp : List (List ℕ)) (named : NamedOrders) : Type 0 where
  pub entries : (x : List ℕ) → Contains gspo x → IsEntry x
  pub by_subject : IsOrderOf Gspo gspo gspo
  pub by_predicate : IsOrderOf Gpos gspo gpos
  pub by_object : IsOrderOf Gosp gspo gosp
  pub of_named : AreNamedOf gspo named

-- The orders of the named graphs, SPOG, POSG and OSPG, which have the entries of these alone.
use Rattle.std.specs.Prelude.{ℕ, List}
use Rattle.qs_index.specs.inner.Graph.{named_entries}
use Rattle.qs_index.specs.inner.OrderOf.{IsOrderOf}
use Rattle.qs_index.specs.declared.permutation.Permutation.{Permutation}
use Rattle.qs_index.specs.declared.permutation.Permutation.TheVariants.{Gspo, Gpos, Gosp, Spog}
use Rattle.qs_index.specs.declared.permutation.Permutation.TheVariants.{Posg, Ospg}

-- the orders of the named graphs: their entries, and how many inserts need no memory
pub record NamedOrders : Type 0 where
  pub by_subject : List (List ℕ)
  pub by_predicate : List (List ℕ)
  pub by_object : List (List ℕ)
  pub spare : ℕ

-- the entries that an order has
abbrev pub held_by : Permutation → List (List ℕ) → List (List ℕ)
held_by Gspo entries = entries
held_by Gpos entries = entries
held_by Gosp entries = entries
held_by Spog entries = named_entries entries
held_by Posg entries = named_entries entries
held_by Ospg entries = named_entries entries

-- the orders of the named graphs of a set of entries
pub record AreNamedOf (entries : List (List ℕ)) (orders : NamedOrders) : Type 0 where
  pub subject : IsOrderOf Spog (named_entries entries) orders.by_subject
  pub predicate : IsOrderOf Posg (named_entries entries) orders.by_predicate
  pub object : IsOrderOf Ospg (named_entries entries) orders.by_object

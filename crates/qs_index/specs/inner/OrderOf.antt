-- Orders of a set: its entries with their places in the order of a permutation, ascending.
use Rattle.std.specs.Prelude.{ℕ, List}
use Rattle.std.specs.List.{Contains}
use Rattle.qs_index.specs.inner.Entry.{IsAscending}
use Rattle.qs_index.specs.inner.Permutation.{turned}
use Rattle.qs_index.specs.declared.permutation.Permutation.{Permutation}

-- an order has the same entries as the list, turned, in ascending order
pub record IsOrderOf (permutation : Permutation) (entries order : List (List ℕ)) : Type 0 where
  pub ascending : IsAscending order
  pub has : (x : List ℕ) → Contains entries x → Contains order (turned permutation x)
  pub only : (x : List ℕ) → Contains order (turned permutation x) → Contains entries x

use Rattle.std.proofs.Common.{◌≡◌, ◌≤◌, true, false, length}
use Rattle.std.specs.List.{AllWithin}
use Rattle.std.specs.List.Sorted.{IsPermutation}
use Rattle.qs_index.specs.inner.Graph.{is_named}
use Rattle.qs_index.proofs.batch.default_first.Given as goal

abbrev pub invariant-loop-i : goal.invariant-loop-i
invariant-loop-i l = record {
  within : l.first ≤ l.i;
  long : length l.entries ≡ length l.fn.entries;
  default : AllWithin (λ entry. is_named entry ≡ false) l.entries 0 l.first;
  named : AllWithin (λ entry. is_named entry ≡ true) l.entries l.first l.i;
  permutation : IsPermutation l.fn.entries l.entries;
}

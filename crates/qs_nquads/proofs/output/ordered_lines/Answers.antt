use Rattle.std.proofs.Common.{List, ℕ, subst}
use Rattle.std.specs.List.Sorted.{IsPermutation}
use Rattle.qs_nquads.proofs.Sorting.{sorted_lines}
use Rattle.qs_nquads.proofs.output.ordered_lines.Goals as goal

pub returns : goal.returns
returns c =
    sorted_lines c.args.quads.now c.sort_unstable.new.self.items c.dedup.new.self.items
    (subst (λ (z : List (List ℕ)). IsPermutation z c.sort_unstable.new.self.items) c.in_ok-lines.ensures c.sort_unstable.ensures.permutation)
    c.sort_unstable.ensures.sorted c.dedup.ensures.filtered

use Rattle.std.proofs.Common.{◌≡◌, ◌++◌, length}
use Rattle.qs_syntax_tree.specs.inner.Trees.{singles}
use Rattle.qs_syntax_tokens.proofs.trees.singles.Given as goal

abbrev pub invariant-loop-values : goal.invariant-loop-values
invariant-loop-values l = singles l.initial.values ≡ l.rows ++ singles l.values

abbrev pub decreases-loop-values : goal.decreases-loop-values
decreases-loop-values l = length l.values

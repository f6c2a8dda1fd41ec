use Rattle.std.proofs.Common.{◌≡◌, take}
use Rattle.std.specs.List.{fold, flat_map}
use Rattle.qs_syntax_scope.specs.inner.Labels.{block_labels}
use Rattle.qs_syntax_scope.specs.inner.Met.{add_label}
use Rattle.qs_syntax_scope.proofs.labels.add_each_block.Given as goal

abbrev pub invariant-loop-block : goal.invariant-loop-block
invariant-loop-block l = l.met ≡ fold (add_label l.start) l.initial.met (flat_map block_labels (take l.block-index l.blocks))

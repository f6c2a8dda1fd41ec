use Rattle.std.proofs.Common.{◌≡◌, take}
use Rattle.std.specs.List.{fold, flat_map}
use Rattle.qs_syntax_scope.specs.Labels.{triple_labels}
use Rattle.qs_syntax_scope.specs.inner.Met.{add_label}
use Rattle.qs_syntax_scope.proofs.labels.add_triples.Given as goal

abbrev pub invariant-loop-triple : goal.invariant-loop-triple
invariant-loop-triple l = l.met ≡ fold (add_label l.start) l.initial.met (flat_map triple_labels (take l.triple-index l.triples))

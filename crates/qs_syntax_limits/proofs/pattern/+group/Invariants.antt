use Rattle.std.proofs.Common.{◌≡◌, map, take, fold, slice_get}
use Rattle.qs_syntax_limits.specs.Large as spec
use Rattle.qs_syntax_limits.specs.inner.Parts.{further, element, group}
use Rattle.qs_syntax_limits.proofs.pattern.+group.Given as goal

abbrev pub invariant-in_elements-loop-element : goal.invariant-in_elements-loop-element
invariant-in_elements-loop-element l =
    l.found ≡ fold (further (λ x. (element x).rows)) (slice_get (map (λ x. (element x).place) l.all) spec.limit) (take l.element-index l.all)

abbrev pub invariant-in_union-loop-group : goal.invariant-in_union-loop-group
invariant-in_union-loop-group l =
    l.found ≡ fold (further (λ x. (group x).rows)) (slice_get (map (λ x. (group x).place) l.all) spec.limit) (take l.group-index l.all)

use Rattle.std.proofs.Common.{◌≡◌, map, drop}
use Rattle.qs_syntax_resolve.specs.Pattern.{group_of}
use Rattle.qs_syntax_resolve.specs.inner.Pattern.{each_element}
use Rattle.qs_syntax_resolve.specs.inner.Pattern.{element_of, elements, groups}
use Rattle.qs_syntax_resolve.specs.Resolving.{all_after}
use Rattle.qs_syntax_resolve.proofs.resolver.Resolver.+group.Given as goal

abbrev pub invariant-put_elements-loop-element : goal.invariant-put_elements-loop-element
invariant-put_elements-loop-element l = each_element l.group (map element_of (drop l.element-index l.all)) l.self ≡ elements l.fn.group l.all l.fn.self

abbrev pub invariant-groups-loop-group : goal.invariant-groups-loop-group
invariant-groups-loop-group l = all_after l.found (map group_of (drop l.group-index l.all)) l.self ≡ groups l.all l.fn.self

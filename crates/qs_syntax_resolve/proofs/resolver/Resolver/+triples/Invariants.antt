use Rattle.std.proofs.Common.{◌≡◌, map, drop}
use Rattle.qs_syntax_resolve.specs.Triples.{property_of, properties}
use Rattle.qs_syntax_resolve.specs.inner.Triples.{each_property}
use Rattle.qs_syntax_resolve.specs.inner.Triples.{each_object}
use Rattle.qs_syntax_resolve.specs.inner.Triples.{object_of, objects}
use Rattle.qs_syntax_resolve.proofs.resolver.Resolver.+triples.Given as goal

abbrev pub invariant-objects-loop-node : goal.invariant-objects-loop-node
invariant-objects-loop-node l = each_object l.subject l.verb l.found (map object_of (drop l.node-index l.all)) l.self ≡ objects l.subject l.verb l.fn.found l.all l.fn.self

abbrev pub invariant-properties-loop-property : goal.invariant-properties-loop-property
invariant-properties-loop-property l = each_property l.subject l.found (map property_of (drop l.property-index l.all)) l.self ≡ properties l.subject l.fn.found l.all l.fn.self

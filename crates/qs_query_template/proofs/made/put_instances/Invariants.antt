use Rattle.std.proofs.Common.{◌≡◌, ◌++◌, take}
use Rattle.std.specs.List.{flat_map}
use Rattle.qs_query_template.specs.Instances.{instance}
use Rattle.qs_query_template.proofs.made.put_instances.Given as goal

abbrev pub invariant-loop-quad : goal.invariant-loop-quad
invariant-loop-quad l = l.quads.items ≡ l.initial.quads.items ++ flat_map (instance l.template.blanks l.first l.row) (take l.quad-index l.template.quads)

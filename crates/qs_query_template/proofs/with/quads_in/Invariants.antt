use Rattle.std.proofs.Common.{◌≡◌, map, take}
use Rattle.qs_query_template.specs.Template.{quad_in}
use Rattle.qs_query_template.proofs.with.quads_in.Given as goal

abbrev pub invariant-loop-quad : goal.invariant-loop-quad
invariant-loop-quad l = l.all ≡ map (quad_in l.name) (take l.quad-index l.quads)

use Rattle.std.proofs.Common.{length}
use Rattle.qs_algebra_variables.proofs.BoundLaws.{certain_bound}
use Rattle.qs_algebra_variables.proofs.laws.certain_variables_are_bound.Goals as goal

pub returns : goal.returns
returns c = record { node = certain_bound; pattern = λ p quads graph. certain_bound (length p.names) quads p.root graph }

use Rattle.std.proofs.Common.{length}
use Rattle.qs_algebra_variables.proofs.BoundLaws.{others_unbound}
use Rattle.qs_algebra_variables.proofs.laws.other_variables_are_unbound.Goals as goal

pub returns : goal.returns
returns c = record { node = others_unbound; pattern = λ p quads graph. others_unbound (length p.names) quads p.root graph }

-- Definitions over those of `Triples`, for proofs and the layers between.
use Rattle.std.specs.Prelude.{Bool, true, false}
use Rattle.qs_algebra_solutions.specs.declared.answer.Answer.{Answer}
use Rattle.qs_algebra_solutions.specs.declared.answer.Answer.TheVariants.{Solutions, Truth, Graph}

-- whether the answer is a graph
abbrev pub is_graph : Answer → Bool
is_graph (Solutions names rows) = false
is_graph (Truth b) = false
is_graph (Graph quads) = true

-- Graphs as N-Triples (RDF 1.1 N-Triples, 2).
use Rattle.std.specs.Prelude.{ℕ, List, []}
use Rattle.qs_algebra_solutions.specs.declared.answer.Answer.{Answer}
use Rattle.qs_algebra_solutions.specs.declared.answer.Answer.TheVariants.{Solutions, Truth, Graph}
use Rattle.qs_nquads.specs.Written.{nquads_of}

-- the lines of a graph: those of N-Quads without a graph are N-Triples; other answers have none
abbrev pub ntriples_of : Answer → List ℕ
ntriples_of (Graph quads) = nquads_of quads
ntriples_of _ = []

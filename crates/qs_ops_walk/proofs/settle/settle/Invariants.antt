use Rattle.qs_expr.specs.inner.Scratch.{Grows}
use Rattle.qs_ops_walk.specs.inner.Setting.{known_of}
use Rattle.qs_ops_walk.specs.inner.Works.{AreReady, code_of}
use Rattle.qs_ops_walk.specs.inner.Moves.{Goes}
use Rattle.qs_ops_walk.proofs.settle.settle.Given as goal

abbrev pub invariant-loop-at : goal.invariant-loop-at
invariant-loop-at g l = record {
  grows : Grows (known_of l.reader) l.fn.scratch l.scratch;
  ready : AreReady l.reader l.scratch l.places;
  goes : Goes l.reader (code_of l.places) l.next l.fn.scratch l.fn.row l.at l.scratch l.row;
}

abbrev pub decreases-loop-at : goal.decreases-loop-at
decreases-loop-at g l = l.at

use Rattle.qs_ops_tables.specs.inner.Keys.{IsIndexFrom}
use Rattle.qs_ops_tables.proofs.index.linked.Given as goal

abbrev pub invariant-loop-i : goal.invariant-loop-i
invariant-loop-i l = IsIndexFrom l.key.items l.mask l.rows l.heads.items l.links.items l.i

abbrev pub decreases-loop-i : goal.decreases-loop-i
decreases-loop-i l = l.i

use Rattle.qs_ops_scans.proofs.Collected.{IsUnderWay}
use Rattle.qs_ops_scans.proofs.kept.collected.Given as goal

abbrev pub invariant-pairs : goal.invariant-pairs
invariant-pairs g l = IsUnderWay g.V.View.content g.V.View.default_seen l.repeated l.fn.pairs l.pairs l.kept.items

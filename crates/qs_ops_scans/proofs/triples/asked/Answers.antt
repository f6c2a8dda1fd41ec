use Rattle.qs_ops_scans.proofs.Scanned.{none_scanned}
use Rattle.qs_ops_scans.proofs.triples.asked.Goals as goal

pub returns-in-None : goal.returns-in-None
returns-in-None c content default triples h = rw c.in-None.is (none_scanned content default triples h.in_order.only)

use Rattle.qs_ops_tables.proofs.Solutions.{merges_terms, merges_fit, begun}
use Rattle.qs_ops_tables.proofs.probe.Probe.new.Goals as goal

pub returns-clause-cells : goal.returns-clause-cells
returns-clause-cells c =
    begun c.args.kept.key c.args.kept.rows c.hash_of-hash.result c.args.row c.first_for-at.result (rw (c.get-table.ensures, c.width.ensures) at c.hash_of-hash.ensures) (rw c.get-table.ensures at c.first_for-at.ensures)

pub returns-clause-terms : goal.returns-clause-terms
returns-clause-terms c = merges_terms c.args.kept.rows c.args.row _ (returns-clause-cells c)

pub returns-clause-fits : goal.returns-clause-fits
returns-clause-fits c = merges_fit c.args.kept.rows c.args.row _ (returns-clause-cells c)

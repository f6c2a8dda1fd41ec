use Rattle.qs_ops_scans.proofs.Served.{served_rows}
use Rattle.qs_ops_scans.proofs.Spans.{span_rows}
use Rattle.qs_ops_scans.proofs.paths.path_rows.Goals as goal

pub returns-clause-pairs : goal.returns-clause-pairs
returns-clause-pairs c known table graph is_table f h =
    span_rows known table is_table c.args.pattern.now c.args.row f c.args.pairs graph c.ends_of-ends.result c.end_acts.result c.span_for-span.result c.ends_of-ends.ensures c.end_acts.ensures (rw c.get.ensures at c.span_for-span.ensures) h

pub returns-clause-serve : goal.returns-clause-serve
returns-clause-serve c known table graph is_table f h =
    served_rows known table is_table c.args.pattern.now c.args.row f c.args.pairs graph c.ends_of-ends.result c.end_acts.result c.span_for-span.result c.ends_of-ends.ensures c.end_acts.ensures (rw c.get.ensures at c.span_for-span.ensures) h

use Rattle.qs_nquads.proofs.Sorting as sorting
use Rattle.qs_nquads.proofs.EachOnce as each
use Rattle.qs_nquads.proofs.OneReading as apart
use Rattle.qs_nquads.proofs.laws.each_once.Goals as goal

pub returns : goal.returns
returns c = record { order = sorting.lines_ascend; quads = each.same_quads; lines = apart.same_line }

use Rattle.qs_nquads.proofs.WholeText as whole
use Rattle.qs_nquads.proofs.laws.read_back.Goals as goal

pub returns : goal.returns
returns c = whole.read_back

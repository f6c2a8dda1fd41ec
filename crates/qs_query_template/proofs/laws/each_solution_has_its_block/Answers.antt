use Rattle.qs_query_template.proofs.Fresh.{split}
use Rattle.qs_query_template.proofs.laws.each_solution_has_its_block.Goals as goal

pub returns : goal.returns
returns c = split

use Rattle.qs_algebra.proofs.possible_variables.possible.Goals as goal

pub returns : goal.returns
returns c = rw c.len.ensures at c.possible_of_node.ensures

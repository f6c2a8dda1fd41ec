use Rattle.qs_algebra.proofs.certain_variables.certain.Goals as goal

pub returns : goal.returns
returns c = rw c.len.ensures at c.certain_of_node.ensures

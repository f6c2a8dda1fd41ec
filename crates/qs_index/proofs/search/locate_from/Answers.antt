use Rattle.qs_index.proofs.search.locate_from.Goals as goal

pub returns-clause-found : goal.returns-clause-found
returns-clause-found c = rw c.new.ensures.pages at c.locate_in.ensures.found

pub returns-clause-missing : goal.returns-clause-missing
returns-clause-missing c = rw c.new.ensures.pages at c.locate_in.ensures.missing

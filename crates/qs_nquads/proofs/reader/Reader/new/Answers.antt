use Rattle.qs_nquads.proofs.reader.Reader.new.Goals as goal

pub returns-clause-fault : goal.returns-clause-fault
returns-clause-fault c = c.with_labels.ensures.fault c.args.first_blank

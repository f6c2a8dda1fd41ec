use Rattle.qs_store.proofs.numbers.quad_ref.Goals as goal

pub returns-clause-fine : goal.returns-clause-fine
returns-clause-fine c known = record { graph = c.graph_ref.ensures.fine known; subject = tt; predicate = tt; object = tt }

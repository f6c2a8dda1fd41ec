use Rattle.qs_nquads.proofs.run.behind_run.Goals as goal

pub split_at-requires : goal.split_at-requires
split_at-requires c = c.run-run.ensures.boundary

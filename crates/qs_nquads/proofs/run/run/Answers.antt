use Rattle.qs_nquads.proofs.Runs.{no_run}
use Rattle.qs_nquads.proofs.run.run.Goals as goal

pub returns-in_default : goal.returns-in_default
returns-in_default c = no_run _ _ c.utf8.text

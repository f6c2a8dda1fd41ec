use Rattle.qs_service_replay.proofs.Unique.{scripts, no_other, other_once}
use Rattle.qs_service_replay.proofs.laws.scripts_are_unique.Goals as goal

pub returns-clause-events : goal.returns-clause-events
returns-clause-events c = scripts

pub returns-clause-script : goal.returns-clause-script
returns-clause-script c = no_other

pub returns-clause-line : goal.returns-clause-line
returns-clause-line c = other_once

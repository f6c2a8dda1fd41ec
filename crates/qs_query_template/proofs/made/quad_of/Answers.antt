use Rattle.std.proofs.Common.{rules}
use Rattle.qs_query_template.proofs.made.quad_of.Goals.{in_default-via-in-Some+in-Some+in-Some+in_default, in_default-via-in-Some+in-Some+in_default, in_default-via-in-Some+in_default, in_default-via-in_default}
use Rattle.qs_query_template.proofs.made.quad_of.Goals as goal

pub returns-in_default : goal.returns-in_default
returns-in_default c = elim c.in_default.branch [
  | in_default-via-in-Some+in-Some+in-Some+in_default w ↦ search rules
  | in_default-via-in-Some+in-Some+in_default w ↦ search rules
  | in_default-via-in-Some+in_default w ↦ search rules
  | in_default-via-in_default w ↦ search rules
]

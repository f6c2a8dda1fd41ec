use Rattle.qs_update_laws.proofs.ResolvedUpdates.{of_text}
use Rattle.qs_update_laws.proofs.laws.updates_write_no_blank_rows.Goals as goal

pub returns : goal.returns
returns c = of_text

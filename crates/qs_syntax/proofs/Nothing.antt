-- No token results in an update without operations.
use Rattle.std.proofs.Common.{◌≡◌, ℕ, List, [], Ok, refl}
use Rattle.qs_syntax.specs.Outcome.{update_outcome}
use Rattle.qs_syntax.specs.inner.Outcome.{no_operation}
use Rattle.qs_syntax_limits.specs.Large as large
use Rattle.qs_syntax_resolve.specs.Resolved.{resolved_update}
use Rattle.qs_syntax_resolve.specs.Update.{update, step}
use Rattle.qs_syntax_scope.specs.KeepsScope.{update_keeps_scope}

pub nothing : (text : List ℕ) → update_outcome text no_operation ≡ Ok (record { operations = [] })
unfolding update_outcome resolved_update update step update_keeps_scope large.update large.excess
nothing text = refl

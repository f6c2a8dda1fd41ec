use Rattle.std.proofs.Common.{◌≡◌, ℕ, ◌<◌, get_or, false, ◌==◌}
use Rattle.qs_service_connections.specs.State.{Joined}
use Rattle.qs_service_connections.proofs.table.place_of.Given as goal

abbrev pub invariant-loop-i : goal.invariant-loop-i
invariant-loop-i l = (k : ℕ) (d : Joined) → k < l.i → ((get_or l.connections k d).id == l.id) ≡ false

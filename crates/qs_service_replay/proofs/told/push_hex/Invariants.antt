-- The hex of what is left comes after the line.
use Rattle.std.proofs.Common.{◌≡◌, ◌++◌, length, string_bytes}
use Rattle.hex.specs.Hex.{encode_lower}
use Rattle.qs_service_replay.proofs.told.push_hex.Given as goal

abbrev pub invariant-loop-rest : goal.invariant-loop-rest
invariant-loop-rest l = string_bytes l.line ++ encode_lower l.rest ≡ string_bytes l.fn.line ++ encode_lower l.fn.bytes

abbrev pub decreases-loop-rest : goal.decreases-loop-rest
decreases-loop-rest l = length l.rest

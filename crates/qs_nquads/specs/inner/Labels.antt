-- Definitions over those of `Labels`, for proofs and the layers between.
use Rattle.std.specs.Prelude.{ℕ, ◌+◌, ◌^◌, nat_lt, List, Option, Result, Ok, Err}
use Rattle.std.specs.Prelude.{if◌then◌else◌}
use Rattle.std.specs.Option.{option_map_or}
use Rattle.qs_nquads.specs.Labels.{Numbering, with_label}
use Rattle.qs_nquads.specs.declared.fault.NqFaultKind.{NqFaultKind}
use Rattle.qs_nquads.specs.declared.fault.NqFaultKind.TheVariants as fault

-- a new label gets the next number, unless no number would be left after it
abbrev pub add : Numbering → List ℕ → Result (ℕ × Numbering) NqFaultKind
add n label =
    if nat_lt (n.next + 1) (2 ^ 64) then Ok (n.next, with_label n label) else Err fault.Full

-- the number that a label has already, or else a new one
abbrev pub known_or_new : Numbering → List ℕ → Option ℕ → Result (ℕ × Numbering) NqFaultKind
known_or_new n label found = option_map_or (λ known. Ok (known, n)) found (add n label)

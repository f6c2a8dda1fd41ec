-- Numbers of blank nodes, by their labels (RDF 1.1 N-Quads, 2.4): a label is numbered where it
-- first appears.
use Rattle.std.specs.Prelude.{ℕ, ◌+◌, ◌^◌, nat_lt, List, [], ◌∷◌, ◌++◌, if◌then◌else◌}
use Rattle.std.specs.Prelude.{Result, Ok, Err}
use Rattle.std.specs.Option.{option_map_or}
use Rattle.std.specs.Str.{bytes_eq}
use Rattle.std.specs.Map.{lookup}
use Rattle.qs_nquads.specs.declared.fault.NqFaultKind.{NqFaultKind}
use Rattle.qs_nquads.specs.declared.fault.NqFaultKind.TheVariants as fault

-- the labels that were met, each once and with its number, in the order in which they first
-- appeared, and the number that the next new one gets
pub record Numbering : Type 0 where
  pub numbers : List (List ℕ × ℕ)
  pub next : ℕ

-- no label was met
abbrev pub from : ℕ → Numbering
from first = record { numbers = []; next = first }

-- the same after a new label, which comes last and has the next number
abbrev pub with_label : Numbering → List ℕ → Numbering
with_label n label = record { numbers = n.numbers ++ (label, n.next) ∷ []; next = n.next + 1 }

-- The number of the label, and the numbering after it: a new label gets the next number, unless no
-- number would be left after it.
abbrev pub number : Numbering → List ℕ → Result (ℕ × Numbering) NqFaultKind
number n label =
    option_map_or (λ known. Ok (known, n)) (lookup (bytes_eq label) n.numbers)
    (if nat_lt (n.next + 1) (2 ^ 64) then Ok (n.next, with_label n label) else Err fault.Full)

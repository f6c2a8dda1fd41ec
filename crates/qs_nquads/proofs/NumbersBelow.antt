-- The numbers of labels are below the next one, which only grows.
use Rattle.std.proofs.Common.{◌≤◌, ◌<◌, ℕ, ◌+◌, ◌^◌, nat_lt, List, Option, Some, None, Result, Ok, Err, IfOk, IfSome, arith, le_refl}
use Rattle.std.specs.Map.{values_of, lookup}
use Rattle.std.specs.Str.{bytes_eq}
use Rattle.std.proofs.lemmas.Bool.{cond_both}
use Rattle.std.proofs.lemmas.List.Elements.{All-nil, All-weaker}
use Rattle.std.proofs.lemmas.Map.Views.{IfSome-lookup_from_All}
use Rattle.qs_nquads.specs.Labels.{Numbering, from, with_label, number}
use Rattle.qs_nquads.specs.inner.Labels.{add}
use Rattle.qs_nquads.specs.inner.Labels.{known_or_new}
use Rattle.qs_nquads.specs.inner.Entries.{AreBelow}
use Rattle.qs_nquads.proofs.Numbers.{values_last}
use Rattle.qs_nquads.specs.declared.fault.NqFaultKind.{NqFaultKind}
use Rattle.qs_nquads.specs.declared.fault.NqFaultKind.TheVariants as fault

-- the next number is in use for no label
abbrev pub IsUnused : Numbering → Type 0
IsUnused n = AreBelow n.next n.numbers

pub unused_at_first : (first : ℕ) → IsUnused (from first)
unused_at_first first = All-nil (λ k. k < first)

-- a number was given, and the numbering after it
pub record Gives (n : Numbering) (given : ℕ × Numbering) : Type 0 where
  pub grows : n.next ≤ given.1.next
  pub unused : IsUnused given.1
  pub below : given.0 < given.1.next

unused_behind : (n : Numbering) (label : List ℕ) → IsUnused n → IsUnused (with_label n label)
unused_behind n label h =
    values_last (λ k. k < n.next + 1) n.numbers label n.next
    (All-weaker (λ k. k < n.next) (λ k. k < n.next + 1) (λ k below. omega arith) (values_of n.numbers) h)
    (omega arith)

adds : (n : Numbering) (label : List ℕ) → IsUnused n → IfOk (add n label) (Gives n)
adds n label h =
    cond_both (nat_lt (n.next + 1) (2 ^ 64)) (Ok (n.next, with_label n label)) (Err fault.Full) (λ (r : Result (ℕ × Numbering) NqFaultKind). IfOk r (Gives n))
    (λ _. record { grows = omega arith; unused = unused_behind n label h; below = omega arith })
    (λ _. tt)

known_or_adds : (n : Numbering) (label : List ℕ) (o : Option ℕ) → IsUnused n → IfSome o (λ k. k < n.next) → IfOk (known_or_new n label o) (Gives n)
known_or_adds n label (Some k) h below = record { grows = le_refl n.next; unused = h; below = below }
known_or_adds n label None h below = adds n label h

pub numbers : (n : Numbering) (label : List ℕ) → IsUnused n → IfOk (number n label) (Gives n)
numbers n label h = known_or_adds n label (lookup (bytes_eq label) n.numbers) h (IfSome-lookup_from_All (λ k. k < n.next) (bytes_eq label) n.numbers h)

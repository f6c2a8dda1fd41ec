-- Definitions over those of `Run`, for proofs and the layers between.
use Rattle.std.specs.Prelude.{◌≡◌, ◌⊎◌, ◌≤◌, ◌<◌, ℕ, List, Option, length, take}
use Rattle.std.specs.Io.KnownBytes.{Appends}
use Rattle.qs_terms.specs.Device.{one_more}
use Rattle.quads.specs.declared.job.Ran.{Ran}

-- the sink took a front of the bytes; where it took them all, its status is this one, and else a
-- call of it failed, and it is 1
abbrev pub Prints : List ℕ → ℕ → Option (List ℕ) → Option (List ℕ) → ℕ → ℕ → Ran → Type 0
Prints bytes s taken taken2 faults faults2 ran =
    (ran.written ≤ length bytes) × Appends taken taken2 (take ran.written bytes)
    × (((ran.written ≡ length bytes) × (ran.status ≡ s) × (faults2 ≡ faults))
    ⊎ ((ran.written < length bytes) × (ran.status ≡ 1) × (faults2 ≡ one_more faults)))

-- the same of whatever is due, and may have been begun
abbrev pub Runs : (List ℕ → ℕ → Type 0) → (List ℕ → Type 0) → Option (List ℕ) → Option (List ℕ) → ℕ
    → ℕ → Ran → Type 0
Runs Due Begun taken taken2 faults faults2 ran =
    ((bytes : List ℕ) × Due bytes ran.status × (ran.written ≡ length bytes)
    × Appends taken taken2 bytes × (faults2 ≡ faults))
    ⊎ ((bytes : List ℕ) × Begun bytes × (ran.written < length bytes)
    × Appends taken taken2 (take ran.written bytes) × (ran.status ≡ 1)
    × (faults2 ≡ one_more faults))

-- What the program does for a job with a sink, and how many bytes the sink took.
use Rattle.std.specs.Prelude.{◌≡◌, ◌⊎◌, ◌<◌, ℕ, List, Option, length, take}
use Rattle.std.specs.Io.KnownBytes.{Appends}
use Rattle.qs_terms.specs.Device.{one_more}
use Rattle.quads.specs.Due.{IsDue, IsBegun}
use Rattle.quads.specs.declared.job.Job.{Job}
use Rattle.quads.specs.declared.job.Ran.{Ran}

-- what the program does for a job. Either the sink took all of what is due, and no call of it
-- failed; the status is the one that is due. Or the sink took a front of what was begun, and not
-- all of it: one call failed, the last, and the status is 1
abbrev pub IsRun : Job → Option (List ℕ) → Option (List ℕ) → ℕ → ℕ → Ran → Type 0
IsRun job taken taken2 faults faults2 ran =
    ((bytes : List ℕ) × IsDue job bytes ran.status × (ran.written ≡ length bytes)
    × Appends taken taken2 bytes × (faults2 ≡ faults))
    ⊎ ((bytes : List ℕ) × IsBegun job bytes × (ran.written < length bytes)
    × Appends taken taken2 (take ran.written bytes) × (ran.status ≡ 1)
    × (faults2 ≡ one_more faults))

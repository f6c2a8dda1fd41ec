-- Devices that take and give bytes, and how often they failed.
use Rattle.std.specs.Prelude.{◌+◌, ◌^◌, ◌-◌, ℕ, min}

-- a count of failed calls after one more; at the greatest 64-bit number it stays
abbrev pub one_more : ℕ → ℕ
one_more n = min (2 ^ 64 - 1) (n + 1)

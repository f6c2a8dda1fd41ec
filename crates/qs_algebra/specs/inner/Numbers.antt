-- Definitions over those of `Numbers`, for proofs and the layers between.
use Rattle.std.specs.Prelude.{ℕ, ◌+◌, ◌-◌, Option}
use Rattle.std.specs.Option.{option_map_or}
use Rattle.qs_algebra.specs.declared.hidden.Span.{Span}

abbrev pub least_of : Option Span → ℕ
least_of span = option_map_or (λ (s : Span). s.least) span 0

abbrev pub width_of : Option Span → ℕ
width_of span = option_map_or (λ (s : Span). s.greatest - s.least + 1) span 0

-- Definitions over those of `Text`, for proofs and the layers between.
use Rattle.std.specs.Prelude.{ℕ, Bool, ◌&&◌, List, codes}
use Rattle.std.specs.Str.{bytes_eq}
use Rattle.qs_expr_values.specs.Text.{is_not_empty}

abbrev pub is_any_range : List ℕ → List ℕ → Bool
is_any_range range tag = is_not_empty tag && bytes_eq range (codes "*")

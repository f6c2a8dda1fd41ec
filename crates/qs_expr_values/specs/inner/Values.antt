-- Definitions over those of `Values`, for proofs and the layers between.
use Rattle.std.specs.Prelude.{ℕ, Bool, false, List, codes, Option, ℤ, if◌then◌else◌}
use Rattle.std.specs.Option.{unwrap_or, option_or, option_map, option_map_or}
use Rattle.std.specs.declared.cmp.Ordering.{Ordering}
use Rattle.std.specs.Ordering.{is_eq}
use Rattle.qs_expr_values.specs.Values.{Worth, integer, boolean, other}

abbrev pub integer_or_other : Option ℤ → Worth
integer_or_other x = option_map_or integer x other

abbrev pub boolean_or_other : Option Bool → Worth
boolean_or_other x = option_map_or boolean x other

abbrev pub boolean_form : Bool → List ℕ
boolean_form b = if b then codes "true" else codes "false"

abbrev pub by_order : Option Ordering → Option Bool → Option Bool
by_order o x = option_or (option_map is_eq o) x

-- an error isn't true
abbrev pub is_true : Option Bool → Bool
is_true x = unwrap_or x false

-- Definitions over those of `Written`, for proofs and the layers between.
use Rattle.std.specs.Prelude.{ℕ, List}
use Rattle.std.specs.List.{flat_map}
use Rattle.qs_nquads.specs.Written.{escaped_byte}

abbrev pub escaped : List ℕ → List ℕ
escaped form = flat_map escaped_byte form

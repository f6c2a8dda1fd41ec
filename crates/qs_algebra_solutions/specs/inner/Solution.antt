-- Definitions over those of `Solution`, for proofs and the layers between.
use Rattle.std.specs.Prelude.{Bool, ◌&&◌, Option}
use Rattle.std.specs.Option.{is_some, option_or, option_eq}
use Rattle.qs_terms.specs.declared.term.Term.{Term}
use Rattle.qs_terms.specs.Term.{same_term}

abbrev pub first_bound : Option Term → Option Term → Option Term
first_bound x y = option_or x y

abbrev pub both_bound : Option Term → Option Term → Bool
both_bound x y = is_some x && is_some y

abbrev pub same_cell : Option Term → Option Term → Bool
same_cell = option_eq same_term

-- Definitions over those of `Leaves`, for proofs and the layers between.
use Rattle.std.specs.Prelude.{[]}
use Rattle.qs_terms.specs.Literal.{Literal, typed, xsd_string}

-- what stands where a literal isn't lawful: the request is refused then
abbrev pub empty_string : Literal
empty_string = typed [] xsd_string

-- Definitions over those of `Resolved`, for proofs and the layers between.
use Rattle.std.specs.Prelude.{true, [], Option, Some, None, if◌then◌else◌}
use Rattle.qs_syntax_resolve.specs.Names.{Names}
use Rattle.qs_syntax_resolve.specs.declared.resolver.Resolver.{Resolver}

-- before the first token
abbrev pub start : Names → Resolver
start names = record { names = names; anonymous = 0; lawful = true; variables = [] }

-- nothing where a literal isn't lawful
abbrev pub if_lawful : {A : Type 0} → A → Resolver → Option A
if_lawful a s = if s.lawful then Some a else None

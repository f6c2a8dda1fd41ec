-- Whole queries and updates with their names resolved: absolute IRIs, terms for literals, and names
-- for variables.
use Rattle.std.specs.Prelude.{ℕ, true, List, [], Option, Some, None, if◌then◌else◌, Ok}
use Rattle.qs_syntax_tree.specs.declared.query.Query.{Query as WrittenQuery}
use Rattle.qs_syntax_tree.specs.declared.update.Update.{Update as WrittenUpdate}
use Rattle.qs_syntax_ast.specs.declared.query.Query.{Query}
use Rattle.qs_syntax_ast.specs.declared.update.Update.{Update}
use Rattle.qs_syntax_resolve.specs.Names.{nothing_declared}
use Rattle.qs_syntax_resolve.specs.Query.{query}
use Rattle.qs_terms.specs.Outcome.{Outcome, and_then}
use Rattle.qs_syntax_resolve.specs.Resolving.{Resolving}
use Rattle.qs_syntax_resolve.specs.Update.{update}

-- what is resolved of a whole text, or nothing where a literal isn't lawful
abbrev pub resolved : {A : Type 0} → List ℕ → Resolving A → Outcome (Option A)
resolved text p = and_then
    (p (record { names = nothing_declared text; anonymous = 0; lawful = true; variables = [] }))
    (λ r. Ok (if r.1.lawful then Some r.0 else None))

unfoldable pub resolved_query : List ℕ → WrittenQuery → Outcome (Option Query)
resolved_query text q = resolved text (query q)

unfoldable pub resolved_update : List ℕ → WrittenUpdate → Outcome (Option Update)
resolved_update text u = resolved text (update u)

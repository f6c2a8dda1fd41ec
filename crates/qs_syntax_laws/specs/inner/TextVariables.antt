-- The variables of a text, token by token, as often as they stand in it (SPARQL 1.1 Query, 16.1).
-- They are defined over tokens, not trees. That the resolver notes these is proved here.
use Rattle.std.specs.Prelude.{ℕ, Bool, true, false, List, map}
use Rattle.std.specs.List.{filter}
use Rattle.qs_syntax_ast.specs.declared.term.Variable.{Variable}
use Rattle.qs_syntax_resolve.specs.Names.{variable, nothing_declared}
use Rattle.qs_syntax_tree.specs.declared.kind.Kind.{Kind}
use Rattle.qs_syntax_tree.specs.declared.kind.Kind.TheVariants as kind
use Rattle.qs_syntax_tree.specs.declared.token.Token.{Token}

abbrev pub is_variable : Kind → Bool
is_variable kind.Var = true
is_variable other = false

abbrev pub variables_of : List ℕ → List Token → List Variable
variables_of text tokens = map (λ t. record { name = variable (nothing_declared text) t.span })
    (filter (λ t. is_variable t.kind) tokens)

-- Definitions over those of `Data`, for proofs and the layers between.
use Rattle.std.specs.Prelude.{List, Option, map}
use Rattle.qs_terms.specs.declared.term.Term.{Term}
use Rattle.qs_syntax_tree.specs.declared.pattern.DataValue.{DataValue}
use Rattle.qs_syntax_tree.specs.declared.token.Span.{Span}
use Rattle.qs_syntax_ast.specs.declared.term.Variable.{Variable}
use Rattle.qs_syntax_resolve.specs.Data.{row_of}
use Rattle.qs_syntax_resolve.specs.Leaves.{variable}
use Rattle.qs_syntax_resolve.specs.Resolving.{Resolving, all}

abbrev pub rows_of : List (List DataValue) → Resolving (List (List (Option Term)))
rows_of rows = all (map row_of rows)

abbrev pub variables_of : List Span → Resolving (List Variable)
variables_of vs = all (map variable vs)

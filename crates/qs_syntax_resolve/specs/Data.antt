-- The table of VALUES with its names resolved (SPARQL 1.1 Query, 10.2).
use Rattle.std.specs.Prelude.{List, Option, Some, None, map}
use Rattle.qs_terms.specs.declared.term.Term.{Term}
use Rattle.qs_terms.specs.declared.term.Term.TheVariants as term
use Rattle.qs_syntax_tree.specs.declared.pattern.DataValue.{DataValue}
use Rattle.qs_syntax_tree.specs.declared.pattern.DataValue.TheVariants as written
use Rattle.qs_syntax_tree.specs.declared.pattern.InlineData.{InlineData as WrittenData}
use Rattle.qs_syntax_ast.specs.declared.pattern.InlineData.{InlineData}
use Rattle.qs_syntax_resolve.specs.Leaves.{variable, iri, literal}
use Rattle.qs_syntax_resolve.specs.Resolving.{Resolving, ◌>>=◌, ◌<$>◌, pure, all}

abbrev pub value_of : DataValue → Resolving (Option Term)
value_of (written.Iri i) = (λ t. Some (term.Iri t)) <$> iri i
value_of (written.Literal l) = (λ t. Some (term.Literal t)) <$> literal l
value_of written.Undefined = pure None

unfoldable pub row_of : List DataValue → Resolving (List (Option Term))
row_of vs = all (map value_of vs)

unfoldable pub inline_data : WrittenData → Resolving InlineData
inline_data d =
    all (map variable d.variables) >>= (λ vs. all (map row_of d.rows) >>= (λ rows.
    pure (record { variables = vs; rows = rows })))

-- The tables of VALUES (SPARQL 1.1 Query, 10.2, and 19.8, note 10).
use Rattle.std.specs.Prelude.{Bool, ◌&&◌, ◌==◌, length}
use Rattle.std.specs.List.{list_all}
use Rattle.qs_syntax_scope.specs.Names.{are_distinct}
use Rattle.qs_syntax_scope.specs.Variables.{column_names}
use Rattle.qs_syntax_ast.specs.declared.pattern.InlineData.{InlineData}

-- each row has as many values as there are variables, and no variable stands twice
abbrev pub is_table : InlineData → Bool
is_table table = list_all (λ row. length row == length table.variables) table.rows
    && are_distinct (column_names table)

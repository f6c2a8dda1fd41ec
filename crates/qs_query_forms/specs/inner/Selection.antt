-- Definitions over those of `Selection`, for proofs and the layers between.
use Rattle.std.specs.Prelude.{List, ◌++◌, map, Option}
use Rattle.std.specs.List.{filter}
use Rattle.qs_syntax_ast.specs.declared.pattern.Group.{Group}
use Rattle.qs_syntax_ast.specs.declared.pattern.InlineData.{InlineData}
use Rattle.qs_syntax_ast.specs.declared.query.SelectItem.{SelectItem}
use Rattle.qs_syntax_scope.specs.Firsts.{names_of, firsts}
use Rattle.qs_syntax_scope.specs.Names.{Name, contains}
use Rattle.qs_syntax_scope.specs.KeepsScope.{trailing_names}
use Rattle.qs_syntax_scope.specs.Scope.{in_scope}
use Rattle.qs_query_forms.specs.Selection.{item_variable}

-- the variables in scope of the pattern or of the trailing VALUES, in the order in which they first
-- appear in the text (SPARQL 1.1 Query, 16.1 and 10.2)
abbrev pub all_listed : List Name → Group → Option InlineData → List Name
all_listed names group values = filter (contains (in_scope group ++ trailing_names values)) names

-- the variables of the items, in their order
abbrev pub items_listed : List SelectItem → List Name
items_listed items = names_of (firsts (map item_variable items))

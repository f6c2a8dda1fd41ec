-- What a SELECT asks for (SPARQL 1.1 Query, 15 and 18.2.4): the listed variables, the pattern, the
-- conditions of ORDER BY, whether duplicates are eliminated, OFFSET and LIMIT.
use Rattle.std.specs.Prelude.{Bool, true, false, List, ◌++◌, map, Option}
use Rattle.std.specs.List.{filter}
use Rattle.qs_syntax_tree.specs.declared.query.Duplicates.{Duplicates}
use Rattle.qs_syntax_tree.specs.declared.query.Duplicates.TheVariants as duplicates
use Rattle.qs_syntax_ast.specs.declared.pattern.Group.{Group}
use Rattle.qs_syntax_ast.specs.declared.pattern.InlineData.{InlineData}
use Rattle.qs_syntax_ast.specs.declared.query.Projection.{Projection}
use Rattle.qs_syntax_ast.specs.declared.query.Projection.TheVariants as projection
use Rattle.qs_syntax_ast.specs.declared.query.Query.{Query}
use Rattle.qs_syntax_ast.specs.declared.query.Select.{Select}
use Rattle.qs_syntax_ast.specs.declared.query.SelectItem.{SelectItem}
use Rattle.qs_syntax_ast.specs.declared.query.SelectItem.TheVariants as item
use Rattle.qs_syntax_ast.specs.declared.term.Variable.{Variable}
use Rattle.qs_syntax_scope.specs.Firsts.{names_of, firsts}
use Rattle.qs_syntax_scope.specs.Names.{Name, contains}
use Rattle.qs_syntax_scope.specs.Places.{place_of}
use Rattle.qs_syntax_scope.specs.KeepsScope.{trailing_names}
use Rattle.qs_syntax_scope.specs.Scope.{in_scope}
use Rattle.qs_algebra.specs.Translation.{translated}
use Rattle.qs_query_forms.specs.declared.selection.Selection.{Selection}
use Rattle.qs_query_forms.specs.Modifiers.{slice_of, condition_of}

-- ---- the variables that the answer lists, each once

abbrev pub item_variable : SelectItem → Variable
item_variable (item.Variable v) = v
item_variable (item.As value v) = v

-- of `*` those in scope of the pattern or of the trailing VALUES, in the order in which they first
-- appear in the text (16.1 and 10.2); else those of the items, in their order
abbrev pub listed : List Name → Group → Option InlineData → Projection → List Name
listed names group values projection.All =
    filter (contains (in_scope group ++ trailing_names values)) names
listed names group values (projection.Items items) = names_of (firsts (map item_variable items))

-- ---- the selection

-- whether duplicates are eliminated (15.3); REDUCED permits it, and here eliminates none
abbrev pub is_distinct : Duplicates → Bool
is_distinct duplicates.Distinct = true
is_distinct _ = false

-- what the SELECT asks for
abbrev pub selection : Query → Select → Selection
selection query select =
    let names = names_of query.variables in
    let vars = listed names select.pattern query.values select.projection in record {
      vars = vars;
      columns = map (place_of names) vars;
      pattern = translated query;
      order = map (condition_of names) select.modifiers.order;
      is_distinct = is_distinct select.duplicates;
      slice = slice_of select.modifiers;
    }

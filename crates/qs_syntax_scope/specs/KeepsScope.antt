-- The rules that a query or an update keeps beyond the grammar (SPARQL 1.1 Query, the notes on the
-- grammar in 19.8).
use Rattle.std.specs.Prelude.{Bool, true, ◌&&◌, ◌||◌, ◌==◌, not, List, [], ◌++◌, map, length}
use Rattle.std.specs.Prelude.{Option, unwrap_or, option_map}
use Rattle.std.specs.List.{list_all, list_any, flat_map}
use Rattle.qs_syntax_scope.specs.Names.{Name, are_apart}
use Rattle.qs_syntax_scope.specs.Variables.{column_names, block_variables}
use Rattle.qs_syntax_scope.specs.Labels.{triple_labels, is_blank}
use Rattle.qs_syntax_scope.specs.Scope.{in_scope, group_keeps}
use Rattle.qs_syntax_scope.specs.Runs.{runs}
use Rattle.qs_syntax_scope.specs.Tables.{is_table}
use Rattle.qs_syntax_scope.specs.Selected.{selected_are_new}
use Rattle.qs_syntax_ast.specs.declared.pattern.Group.{Group}
use Rattle.qs_syntax_ast.specs.declared.pattern.InlineData.{InlineData}
use Rattle.qs_syntax_ast.specs.declared.query.Query.{Query}
use Rattle.qs_syntax_ast.specs.declared.query.QueryForm.{QueryForm}
use Rattle.qs_syntax_ast.specs.declared.query.QueryForm.TheVariants.{Select, Construct, Ask}
use Rattle.qs_syntax_ast.specs.declared.update.Update.{Update}
use Rattle.qs_syntax_ast.specs.declared.update.Operation.{Operation}
use Rattle.qs_syntax_ast.specs.declared.update.Operation.TheVariants as op
use Rattle.qs_syntax_ast.specs.declared.update.QuadBlock.{QuadBlock}

-- a WHERE by itself: BIND, the tables of VALUES, and no label in two of its runs (19.6)
abbrev pub pattern_keeps : Group → Bool
pattern_keeps group = group_keeps group && are_apart (runs group)

-- a form, with the variables of the trailing VALUES. In the short CONSTRUCT the template is the
-- only run, so that no label stands in two.
abbrev pub form_keeps : List Name → QueryForm → Bool
form_keeps trailing (Select select) = pattern_keeps select.pattern
    && selected_are_new (in_scope select.pattern ++ trailing) select.projection
form_keeps trailing (Construct c) = unwrap_or (option_map pattern_keeps c.pattern) true
form_keeps trailing (Ask ask) = pattern_keeps ask.pattern

-- the variables of the trailing VALUES, if there is one
abbrev pub trailing_names : Option InlineData → List Name
trailing_names values = unwrap_or (option_map column_names values) []

-- a query keeps all rules
unfoldable pub query_keeps_scope : Query → Bool
query_keeps_scope query = unwrap_or (option_map is_table query.values) true
    && form_keeps (trailing_names query.values) query.form

-- ---- updates

-- no variable stands there, also as the name of a graph
abbrev pub have_no_variable : List QuadBlock → Bool
have_no_variable blocks = length (flat_map block_variables blocks) == 0

abbrev pub have_no_blank : List QuadBlock → Bool
have_no_blank blocks =
    not (list_any (λ b. list_any (λ t. is_blank t.subject || is_blank t.object) b.triples) blocks)

-- what an operation keeps by itself: no variable in INSERT DATA and DELETE DATA (19.8, note 7), no
-- blank node in DELETE DATA, DELETE WHERE and the template of DELETE (19.8, note 8), and BIND and
-- the tables of VALUES in the WHERE
abbrev pub operation_keeps : Operation → Bool
operation_keeps (op.InsertData blocks) = have_no_variable blocks
operation_keeps (op.DeleteData blocks) = have_no_variable blocks && have_no_blank blocks
operation_keeps (op.DeleteWhere d) = have_no_blank d.quads
operation_keeps (op.Modify modify) = have_no_blank modify.delete && group_keeps modify.pattern
operation_keeps _ = true

-- the runs of its WHERE
abbrev pub operation_runs : Operation → List (List Name)
operation_runs (op.Modify modify) = runs modify.pattern
operation_runs _ = []

-- the labels of an INSERT DATA
abbrev pub inserted_labels : Operation → List Name
inserted_labels (op.InsertData blocks) = flat_map (λ b. flat_map triple_labels b.triples) blocks
inserted_labels _ = []

-- an update keeps all rules: no label stands in two runs of its operations, and none in two INSERT
-- DATA (19.6)
unfoldable pub update_keeps_scope : Update → Bool
update_keeps_scope update = list_all operation_keeps update.operations
    && are_apart (flat_map operation_runs update.operations)
    && are_apart (map inserted_labels update.operations)

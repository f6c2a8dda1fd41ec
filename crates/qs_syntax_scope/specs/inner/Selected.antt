-- The items of SELECT, one after another: for proofs and the layers between.
use Rattle.std.specs.Prelude.{[], ◌∷◌, ◌++◌}
use Rattle.qs_syntax_scope.specs.inner.Met.{add_new}
use Rattle.qs_syntax_scope.specs.declared.met.Met.{Met}
use Rattle.qs_syntax_ast.specs.declared.query.SelectItem.{SelectItem}
use Rattle.qs_syntax_ast.specs.declared.query.SelectItem.TheVariants as item

-- one more item: a variable may be listed a second time, but the one after AS is new
abbrev pub add_item : Met → SelectItem → Met
add_item before (item.Variable variable) =
    record { names = before.names ++ variable.name ∷ []; keeps = before.keeps }
add_item before (item.As value variable) = add_new before variable.name

-- The items of SELECT (SPARQL 1.1 Query, 18.2.4.4, and 19.8, note 11).
use Rattle.std.specs.Prelude.{Bool, true, List, [], ◌∷◌, map}
use Rattle.qs_syntax_scope.specs.Names.{Name}
use Rattle.qs_syntax_scope.specs.Scope.{Scope, brings, binds, all_keep}
use Rattle.qs_syntax_ast.specs.declared.query.SelectItem.{SelectItem}
use Rattle.qs_syntax_ast.specs.declared.query.SelectItem.TheVariants as item
use Rattle.qs_syntax_ast.specs.declared.query.Projection.{Projection}
use Rattle.qs_syntax_ast.specs.declared.query.Projection.TheVariants.{All, Items}

-- a variable may be listed a second time, but the one after AS is new
abbrev pub item_scope : SelectItem → Scope
item_scope (item.Variable v) = brings (v.name ∷ []) true
item_scope (item.As value v) = binds v

-- no variable after AS is among the given ones, which are those in scope of the WHERE and those of
-- the trailing VALUES, or that of an earlier item
abbrev pub selected_are_new : List Name → Projection → Bool
selected_are_new taken All = true
selected_are_new taken (Items items) = all_keep taken (map item_scope items)

-- Definitions over those of `Query`, for proofs and the layers between.
use Rattle.std.specs.Prelude.{ℕ, List, Option, map}
use Rattle.qs_syntax_tree.specs.declared.pattern.Group.{Group as WrittenGroup}
use Rattle.qs_syntax_tree.specs.declared.pattern.InlineData.{InlineData as WrittenData}
use Rattle.qs_syntax_tree.specs.declared.query.OrderCondition.{OrderCondition as WrittenOrder}
use Rattle.qs_syntax_tree.specs.declared.query.SelectItem.{SelectItem as WrittenItem}
use Rattle.qs_syntax_tree.specs.declared.token.Span.{Span}
use Rattle.qs_syntax_ast.specs.declared.pattern.Group.{Group}
use Rattle.qs_syntax_ast.specs.declared.pattern.InlineData.{InlineData}
use Rattle.qs_syntax_ast.specs.declared.query.OrderCondition.{OrderCondition}
use Rattle.qs_syntax_ast.specs.declared.query.SelectItem.{SelectItem}
use Rattle.qs_syntax_resolve.specs.Data.{inline_data}
use Rattle.qs_syntax_resolve.specs.Pattern.{group_of}
use Rattle.qs_syntax_resolve.specs.Query.{order_of, item_of, count}
use Rattle.qs_syntax_resolve.specs.Resolving.{Resolving, all, optional}

abbrev pub orders : List WrittenOrder → Resolving (List OrderCondition)
orders os = all (map order_of os)

abbrev pub items : List WrittenItem → Resolving (List SelectItem)
items is = all (map item_of is)

abbrev pub count_of : Option Span → Resolving (Option ℕ)
count_of span = optional count span

abbrev pub pattern_of : Option WrittenGroup → Resolving (Option Group)
pattern_of g = optional group_of g

abbrev pub trailing : Option WrittenData → Resolving (Option InlineData)
trailing d = optional inline_data d

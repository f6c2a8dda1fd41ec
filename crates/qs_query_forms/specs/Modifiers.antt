-- The modifiers of a sequence (SPARQL 1.1 Query, 15.1, 15.4, 15.5 and 18.2.5).
use Rattle.std.specs.Prelude.{List}
use Rattle.std.specs.Option.{unwrap_or}
use Rattle.qs_syntax_ast.specs.declared.query.OrderCondition.{OrderCondition as WrittenCondition}
use Rattle.qs_syntax_ast.specs.declared.query.SolutionModifiers.{SolutionModifiers}
use Rattle.qs_query_order.specs.declared.condition.OrderCondition.{OrderCondition}
use Rattle.qs_syntax_scope.specs.Names.{Name}
use Rattle.qs_algebra.specs.Expressions.{expr_of}
use Rattle.qs_query_forms.specs.declared.modifiers.Slice.{Slice}

abbrev pub slice_of : SolutionModifiers → Slice
slice_of modifiers = record { offset = unwrap_or modifiers.offset 0; limit = modifiers.limit }

-- a condition of ORDER BY, with variables as numbers
abbrev pub condition_of : List Name → WrittenCondition → OrderCondition
condition_of names c = record { direction = c.direction; key = expr_of names c.key }

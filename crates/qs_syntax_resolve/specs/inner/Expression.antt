-- Definitions over those of `Expression`, for proofs and the layers between.
use Rattle.std.specs.Prelude.{List, map}
use Rattle.qs_syntax_tree.specs.declared.expression.Expression.{Expression as WrittenExpression}
use Rattle.qs_syntax_tree.specs.declared.expression.Call.{Call as WrittenCall, fold-Call}
use Rattle.qs_syntax_tree.specs.declared.expression.Operand.{Operand, fold-Operand}
use Rattle.qs_syntax_tree.specs.declared.expression.Addend.{Addend as WrittenAddend, fold-Addend}
use Rattle.qs_syntax_tree.specs.declared.expression.Call.TheOpen.{Operand-F}
use Rattle.qs_syntax_ast.specs.declared.expression.Expression.{Expression}
use Rattle.qs_syntax_ast.specs.declared.expression.Addend.{Addend}
use Rattle.qs_syntax_resolve.specs.Resolving.{Resolving, all}
use Rattle.qs_syntax_resolve.specs.Expression.{call_level, expression_level, addend_level, Steps}
use Rattle.qs_syntax_resolve.specs.Expression.{expression_of}

abbrev pub operand_level : Operand-F Steps Steps (Resolving Addend) Steps → Steps
operand_level o = o.expression

unfoldable pub call_of : WrittenCall → Resolving Expression
call_of = fold-Call (Resolving Expression) (Resolving Expression) (Resolving Addend)
    (Resolving Expression) call_level expression_level addend_level operand_level

abbrev pub list : List WrittenExpression → Resolving (List Expression)
list es = all (map expression_of es)

abbrev pub operands : List Operand → Resolving (List Expression)
operands os = all (map (λ o. expression_of o.expression) os)

unfoldable pub operand_of : Operand → Resolving Expression
operand_of = fold-Operand (Resolving Expression) (Resolving Expression) (Resolving Addend)
    (Resolving Expression) call_level expression_level addend_level operand_level

unfoldable pub addend_of : WrittenAddend → Resolving Addend
addend_of = fold-Addend (Resolving Expression) (Resolving Expression) (Resolving Addend)
    (Resolving Expression) call_level expression_level addend_level operand_level

abbrev pub addends : List WrittenAddend → Resolving (List Addend)
addends more = all (map addend_of more)

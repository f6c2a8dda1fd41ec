-- Definitions over those of `Expressions`, for proofs and the layers between.
use Rattle.std.specs.Prelude.{List}
use Rattle.qs_syntax_ast.specs.declared.expression.Addend.{Addend as WrittenAddend, fold-Addend}
use Rattle.qs_expr_meaning.specs.declared.expr.Expr.{Expr}
use Rattle.qs_expr_meaning.specs.declared.expr.Addend.{Addend}
use Rattle.qs_syntax_scope.specs.Names.{Name}
use Rattle.qs_algebra.specs.Expressions.{expr_level, addend_level}

abbrev pub addend_of : List Name → WrittenAddend → Addend
addend_of names = fold-Addend Expr Addend (expr_level names) addend_level

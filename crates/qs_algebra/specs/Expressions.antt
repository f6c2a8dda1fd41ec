-- The expressions of a text, with their variables by numbers (SPARQL 1.1 Query, 17).
-- A product of no operands, which no text has, is a COALESCE of nothing and errs. A variable that
-- isn't in the list has the number past the last.
use Rattle.std.specs.Prelude.{List, [], ◌∷◌}
use Rattle.qs_terms.specs.declared.term.Term.TheVariants as term
use Rattle.qs_syntax_ast.specs.declared.expression.Expression.{Expression, fold-Expression}
use Rattle.qs_syntax_ast.specs.declared.expression.Expression.TheOpen.{Expression-F, Addend-F}
use Rattle.qs_expr_meaning.specs.declared.expr.Expr.{Expr}
use Rattle.qs_expr_meaning.specs.declared.expr.Expr.TheVariants as expr
use Rattle.qs_expr_meaning.specs.declared.expr.Addend.{Addend}
use Rattle.qs_syntax_scope.specs.Names.{Name}
use Rattle.qs_syntax_scope.specs.Places.{place_of}

-- the first operand and the others; of none, which no text has, an error
abbrev pub product : List Expr → Expr
product [] = expr.Coalesce []
product (e ∷ es) = expr.Product e es

abbrev pub expr_level : List Name → Expression-F Expr Addend → Expr
expr_level names (Expression-F.Variable v) = expr.Variable (place_of names v.name)
expr_level names (Expression-F.Iri i) = expr.Term (term.Iri i)
expr_level names (Expression-F.Literal l) = expr.Term (term.Literal l)
expr_level names (Expression-F.Or es) = expr.Or es
expr_level names (Expression-F.And es) = expr.And es
expr_level names (Expression-F.Compare c a b) = expr.Compare c a b
expr_level names (Expression-F.In a es) = expr.In a es
expr_level names (Expression-F.NotIn a es) = expr.NotIn a es
expr_level names (Expression-F.Sum a more) = expr.Sum a more
expr_level names (Expression-F.Product es) = product es
expr_level names (Expression-F.Not a) = expr.Not a
expr_level names (Expression-F.Signed s a) = expr.Signed s a
expr_level names (Expression-F.Bound v) = expr.Bound (place_of names v.name)
expr_level names (Expression-F.If c a b) = expr.If c a b
expr_level names (Expression-F.Coalesce es) = expr.Coalesce es
expr_level names (Expression-F.Concat es) = expr.Concat es
expr_level names (Expression-F.Unary f a) = expr.Unary f a
expr_level names (Expression-F.Binary f a b) = expr.Binary f a b

abbrev pub addend_level : Addend-F Expr Addend → Addend
addend_level a = record { sign = a.sign; operand = a.operand }

-- the expression, where these are the names of the variables in the order of their numbers
abbrev pub expr_of : List Name → Expression → Expr
expr_of names = fold-Expression Expr Addend (expr_level names) addend_level

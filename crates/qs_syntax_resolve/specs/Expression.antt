-- Expressions with their names resolved (SPARQL 1.1 Query, 17).
use Rattle.qs_syntax_tree.specs.declared.expression.Expression.{Expression as WrittenExpression}
use Rattle.qs_syntax_tree.specs.declared.expression.Expression.{fold-Expression}
use Rattle.qs_syntax_tree.specs.declared.expression.Call.TheOpen as tree
use Rattle.qs_syntax_tree.specs.declared.expression.Call.TheOpen.{Expression-F, Call-F}
use Rattle.qs_syntax_tree.specs.declared.expression.Call.TheOpen.{Addend-F}
use Rattle.qs_syntax_ast.specs.declared.expression.Expression.{Expression}
use Rattle.qs_syntax_ast.specs.declared.expression.Expression.TheVariants as expression
use Rattle.qs_syntax_ast.specs.declared.expression.Addend.{Addend, roll-Addend}
use Rattle.qs_syntax_resolve.specs.Leaves.{variable, iri, literal}
use Rattle.qs_syntax_resolve.specs.Resolving.{Resolving, ◌>>=◌, ◌<$>◌, pure, all}

-- the steps of an expression, a call or an operand
abbrev pub Steps : Type 0
Steps = Resolving Expression

abbrev pub call_level : Call-F Steps Steps (Resolving Addend) Steps → Steps
call_level (tree.Bound v) = expression.Bound <$> variable v
call_level (tree.If c a b) = c >>= (λ x. a >>= (λ y. b >>= (λ z. pure (expression.If x y z))))
call_level (tree.Coalesce es) = expression.Coalesce <$> all es
call_level (tree.Concat es) = expression.Concat <$> all es
call_level (tree.Unary f a) = expression.Unary f <$> a
call_level (tree.Binary f a b) = a >>= (λ x. b >>= (λ y. pure (expression.Binary f x y)))

abbrev pub expression_level : Expression-F Steps Steps (Resolving Addend) Steps → Steps
expression_level (tree.Var v) = expression.Variable <$> variable v
expression_level (tree.Iri i) = expression.Iri <$> iri i
expression_level (tree.Literal l) = expression.Literal <$> literal l
expression_level (tree.Call c) = c
expression_level (tree.Or os) = expression.Or <$> all os
expression_level (tree.And os) = expression.And <$> all os
expression_level (tree.Compare c a b) = a >>= (λ x. b >>= (λ y. pure (expression.Compare c x y)))
expression_level (tree.In a es) = a >>= (λ x. all es >>= (λ xs. pure (expression.In x xs)))
expression_level (tree.NotIn a es) = a >>= (λ x. all es >>= (λ xs. pure (expression.NotIn x xs)))
expression_level (tree.Sum o more) = o >>= (λ x. all more >>= (λ xs. pure (expression.Sum x xs)))
expression_level (tree.Product os) = expression.Product <$> all os
expression_level (tree.Not e) = expression.Not <$> e
expression_level (tree.Signed s e) = expression.Signed s <$> e

abbrev pub addend_level : Addend-F Steps Steps (Resolving Addend) Steps → Resolving Addend
addend_level a = a.operand >>= (λ x. pure (roll-Addend (record { sign = a.sign; operand = x })))

unfoldable pub expression_of : WrittenExpression → Resolving Expression
expression_of = fold-Expression Steps Steps (Resolving Addend) Steps call_level expression_level
    addend_level (λ o. o.expression)

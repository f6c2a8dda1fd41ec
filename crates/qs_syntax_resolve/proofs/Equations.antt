-- The equations of the walks at lists of parts.
use Rattle.std.proofs.Common.{rules, ◌≡◌, List, Ok, ap, ◌∙◌}
use Rattle.qs_syntax_tree.specs.declared.path.Path.{the_lemmas}
use Rattle.qs_syntax_tree.specs.declared.path.PathOperand.{PathOperand}
use Rattle.qs_syntax_tree.specs.declared.path.Path.TheVariants as written
use Rattle.qs_syntax_ast.specs.declared.path.Path.TheVariants as path
use Rattle.qs_syntax_resolve.specs.Path.{path_of}
use Rattle.qs_syntax_resolve.specs.inner.Path.{operands as path_operands}
use Rattle.qs_syntax_tree.specs.declared.expression.Expression.{the_lemmas as expression_lemmas}
use Rattle.qs_syntax_tree.specs.declared.expression.Operand.{Operand}
use Rattle.qs_syntax_tree.specs.declared.expression.Call.{Call, the_lemmas as call_lemmas}
use Rattle.qs_syntax_tree.specs.declared.expression.Call.TheVariants as written_call
use Rattle.qs_syntax_tree.specs.declared.expression.Addend.{Addend, the_lemmas as addend_lemmas}
use Rattle.qs_syntax_ast.specs.declared.expression.Addend.{roll-Addend}
use Rattle.qs_syntax_ast.specs.declared.expression.Addend as resolved_addend
use Rattle.qs_syntax_tree.specs.declared.expression.Expression.{Expression}
use Rattle.qs_syntax_tree.specs.declared.expression.UnaryFunction.{UnaryFunction}
use Rattle.qs_syntax_tree.specs.declared.expression.BinaryFunction.{BinaryFunction}
use Rattle.qs_syntax_tree.specs.declared.token.Span.{Span}
use Rattle.qs_syntax_resolve.specs.Leaves.{variable}
use Rattle.qs_syntax_resolve.specs.Resolving.{Resolving, ◌>>=◌, pure}
use Rattle.qs_syntax_tree.specs.declared.expression.Expression.TheVariants as written_expression
use Rattle.qs_syntax_ast.specs.declared.expression.Expression.TheVariants as expression
use Rattle.qs_syntax_ast.specs.declared.expression.Expression as resolved
use Rattle.qs_syntax_resolve.specs.Expression.{expression_of}
use Rattle.qs_syntax_resolve.specs.inner.Expression.{call_of, operand_of, addend_of, operands, addends, list}
use Rattle.qs_terms.specs.Outcome.{and_then}
use Rattle.qs_syntax_resolve.specs.Resolving.{◌<$>◌}
use Rattle.qs_syntax_resolve.specs.declared.resolver.Resolver.{Resolver}

pub alternative_is : (os : List PathOperand) → path_of (written.Alternative os) ≡ (path.Alternative <$> path_operands os)
unfolding path_of
alternative_is os = search (rules, the_lemmas)

pub sequence_is : (os : List PathOperand) → path_of (written.Sequence os) ≡ (path.Sequence <$> path_operands os)
unfolding path_of
sequence_is os = search (rules, the_lemmas)

pub or_is : (os : List Operand) → expression_of (written_expression.Or os) ≡ (expression.Or <$> operands os)
unfolding expression_of
or_is os = search (rules, expression_lemmas)

pub and_is : (os : List Operand) → expression_of (written_expression.And os) ≡ (expression.And <$> operands os)
unfolding expression_of
and_is os = search (rules, expression_lemmas)

pub product_is : (os : List Operand) → expression_of (written_expression.Product os) ≡ (expression.Product <$> operands os)
unfolding expression_of
product_is os = search (rules, expression_lemmas)

pub call_is : (c : Call) → expression_of (written_expression.Call c) ≡ call_of c
unfolding expression_of call_of
call_is c = search (rules, expression_lemmas)

pub operand_is : (o : Operand) → operand_of o ≡ expression_of o.expression
unfolding operand_of expression_of
operand_is o = search (rules, expression_lemmas)

addend_bound : (a : Addend) → addend_of a ≡ (operand_of a.operand >>= (λ x. pure (roll-Addend (record { sign = a.sign; operand = x }))))
unfolding addend_of operand_of
addend_bound a = search (rules, addend_lemmas)

pub addend_is : (a : Addend) (s : Resolver) → addend_of a s ≡ and_then (expression_of a.operand.expression s) (λ r. Ok (roll-Addend (record { sign = a.sign; operand = r.0 }), r.1))
addend_is a s =
    ap (λ (f : Resolving resolved_addend.Addend). f s) (addend_bound a)
    ∙ ap (λ (f : Resolving resolved.Expression). and_then (f s) (λ r. Ok (roll-Addend (record { sign = a.sign; operand = r.0 }), r.1))) (operand_is a.operand)

sum_bound : (o : Operand) (more : List Addend) → expression_of (written_expression.Sum o more) ≡ (operand_of o >>= (λ x. addends more >>= (λ xs. pure (expression.Sum x xs))))
unfolding expression_of operand_of addend_of
sum_bound o more = search (rules, expression_lemmas)

pub sum_is : (o : Operand) (more : List Addend) (s : Resolver) → expression_of (written_expression.Sum o more) s ≡ and_then (operand_of o s) (λ r. and_then (addends more r.1) (λ q. Ok (expression.Sum r.0 q.0, q.1)))
sum_is o more s = ap (λ (f : Resolving resolved.Expression). f s) (sum_bound o more)

pub in_is : (e : Expression) (es : List Expression) → expression_of (written_expression.In e es) ≡ (expression_of e >>= (λ x. list es >>= (λ xs. pure (expression.In x xs))))
unfolding expression_of
in_is e es = search (rules, expression_lemmas)

pub not_in_is : (e : Expression) (es : List Expression) → expression_of (written_expression.NotIn e es) ≡ (expression_of e >>= (λ x. list es >>= (λ xs. pure (expression.NotIn x xs))))
unfolding expression_of
not_in_is e es = search (rules, expression_lemmas)

pub bound_is : (v : Span) → call_of (written_call.Bound v) ≡ (expression.Bound <$> variable v)
unfolding call_of expression_of
bound_is v = search (rules, call_lemmas)

pub if_is : (c a b : Expression) (s : Resolver) → call_of (written_call.If c a b) s ≡ and_then (expression_of c s) (λ r. and_then (expression_of a r.1) (λ q. and_then (expression_of b q.1) (λ p. Ok (expression.If r.0 q.0 p.0, p.1))))
unfolding call_of expression_of
if_is c a b s = search (rules, call_lemmas)

pub coalesce_is : (es : List Expression) → call_of (written_call.Coalesce es) ≡ (expression.Coalesce <$> list es)
unfolding call_of expression_of
coalesce_is es = search (rules, call_lemmas)

pub concat_is : (es : List Expression) → call_of (written_call.Concat es) ≡ (expression.Concat <$> list es)
unfolding call_of expression_of
concat_is es = search (rules, call_lemmas)

pub unary_is : (f : UnaryFunction) (a : Expression) (s : Resolver) → call_of (written_call.Unary f a) s ≡ and_then (expression_of a s) (λ r. Ok (expression.Unary f r.0, r.1))
unfolding call_of expression_of
unary_is f a s = search (rules, call_lemmas)

pub binary_is : (f : BinaryFunction) (a b : Expression) (s : Resolver) → call_of (written_call.Binary f a b) s ≡ and_then (expression_of a s) (λ r. and_then (expression_of b r.1) (λ q. Ok (expression.Binary f r.0 q.0, q.1)))
unfolding call_of expression_of
binary_is f a b s = search (rules, call_lemmas)

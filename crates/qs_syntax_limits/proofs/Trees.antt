-- The rows of trees, variant by variant.
use Rattle.std.proofs.Common.{◌≡◌, List, [], ◌∷◌, ◌++◌, map, rules, refl, sym, ap, ◌∙◌}
use Rattle.std.specs.List.{flat_map}
use Rattle.qs_syntax_limits.specs.Large.{Rows, Part, path, expression, graph_node, side_by_side, call_level, expression_level}
use Rattle.qs_syntax_limits.specs.inner.Parts.{operand_level, addend_level}
use Rattle.qs_syntax_limits.specs.inner.Parts.{operand, addend, call, graph_pattern}
use Rattle.qs_syntax_tree.specs.declared.expression.Addend.{Addend, fold-Addend, the_lemmas as addend_lemmas}
use Rattle.qs_syntax_tree.specs.declared.expression.BinaryFunction.{BinaryFunction}
use Rattle.qs_syntax_tree.specs.declared.expression.Call.{the_lemmas as call_lemmas}
use Rattle.qs_syntax_tree.specs.declared.expression.Call.TheVariants as made_call
use Rattle.qs_syntax_tree.specs.declared.expression.Comparison.{Comparison}
use Rattle.qs_syntax_tree.specs.declared.expression.Call.TheOpen as level
use Rattle.qs_syntax_tree.specs.declared.expression.Expression.{Expression, fold-roll-Expression, the_lemmas}
use Rattle.qs_syntax_tree.specs.declared.expression.Expression.TheVariants as made
use Rattle.qs_syntax_tree.specs.declared.expression.Operand.{Operand, fold-Operand}
use Rattle.qs_syntax_tree.specs.declared.path.NegatedPredicate.{NegatedPredicate}
use Rattle.qs_syntax_tree.specs.declared.path.Path.{the_lemmas as path_lemmas}
use Rattle.qs_syntax_tree.specs.declared.path.Path.TheVariants as made_path
use Rattle.qs_syntax_tree.specs.declared.path.Predicate.{Predicate}
use Rattle.qs_syntax_tree.specs.declared.pattern.GraphPattern.{the_lemmas as pattern_lemmas}
use Rattle.qs_syntax_tree.specs.declared.pattern.GraphPattern.TheVariants as made_pattern
use Rattle.qs_syntax_tree.specs.declared.pattern.InlineData.{InlineData}
use Rattle.qs_syntax_tree.specs.declared.term.Iri.{Iri}
use Rattle.qs_syntax_tree.specs.declared.term.Literal.{Literal}
use Rattle.qs_syntax_tree.specs.declared.term.Term.{Term}
use Rattle.qs_syntax_tree.specs.declared.token.Span.{Span}
use Rattle.qs_syntax_tree.specs.declared.triples.GraphNode.{the_lemmas as node_lemmas}
use Rattle.qs_syntax_tree.specs.declared.triples.GraphNode.TheVariants as made_node

pub predicate_rows : (p : Predicate) → path (made_path.Predicate p) ≡ []
predicate_rows p = search (rules, path_lemmas)

pub set_rows : (members : List NegatedPredicate) → path (made_path.NegatedSet members) ≡ map (λ m. m.place) members ∷ []
set_rows members = search (rules, path_lemmas)

pub bound_rows : (v : Span) → call (made_call.Bound v) ≡ []
bound_rows v = search (rules, call_lemmas)

pub if_rows : (test a b : Expression) → call (made_call.If test a b) ≡ expression test ++ expression a ++ expression b
if_rows test a b = search (rules, call_lemmas)

pub binary_rows : (f : BinaryFunction) (a b : Expression) → call (made_call.Binary f a b) ≡ expression a ++ expression b
binary_rows f a b = search (rules, call_lemmas)

pub var_rows : (v : Span) → expression (made.Var v) ≡ []
var_rows v = search (rules, the_lemmas)

pub iri_rows : (i : Iri) → expression (made.Iri i) ≡ []
iri_rows i = search (rules, the_lemmas)

pub literal_rows : (l : Literal) → expression (made.Literal l) ≡ []
literal_rows l = search (rules, the_lemmas)

pub compare_rows : (c : Comparison) (a b : Expression) → expression (made.Compare c a b) ≡ expression a ++ expression b
compare_rows c a b = search (rules, the_lemmas)

pub in_rows : (a : Expression) (list : List Expression) → expression (made.In a list) ≡ expression a ++ flat_map (λ (rows : Rows). rows) (map expression list)
in_rows a list = search (rules, the_lemmas)

pub not_in_rows : (a : Expression) (list : List Expression) → expression (made.NotIn a list) ≡ expression a ++ flat_map (λ (rows : Rows). rows) (map expression list)
not_in_rows a list = search (rules, the_lemmas)

-- ---- a sum begins with an operand by itself

abbrev folded_operand : Operand → Part
folded_operand = fold-Operand Rows Rows Part Part call_level expression_level addend_level operand_level

abbrev folded_addend : Addend → Part
folded_addend = fold-Addend Rows Rows Part Part call_level expression_level addend_level operand_level

operand_is : (o : Operand) → folded_operand o ≡ operand o
operand_is o = search (rules, the_lemmas)

addend_is : (a : Addend) → folded_addend a ≡ addend a
addend_is a = let bound : folded_addend a ≡ folded_operand a.operand = search (rules, addend_lemmas) in bound ∙ operand_is a.operand

each_addend : (rest : List Addend) → map folded_addend rest ≡ map addend rest
each_addend [] = refl
each_addend (a ∷ rest) = ap (λ x. x ∷ map folded_addend rest) (addend_is a) ∙ ap (λ xs. addend a ∷ xs) (each_addend rest)

folded_sum : (start : Operand) (rest : List Addend) → expression (made.Sum start rest) ≡ side_by_side (folded_operand start ∷ map folded_addend rest)
folded_sum start rest =
    ap expression (sym (made.rolls-Sum start rest))
    ∙ fold-roll-Expression Rows Rows Part Part call_level expression_level addend_level operand_level (level.Sum start rest)

pub sum_rows : (start : Operand) (rest : List Addend) → expression (made.Sum start rest) ≡ side_by_side (operand start ∷ map addend rest)
sum_rows start rest =
    folded_sum start rest
    ∙ ap (λ x. side_by_side (x ∷ map folded_addend rest)) (operand_is start)
    ∙ ap (λ xs. side_by_side (operand start ∷ xs)) (each_addend rest)

pub term_rows : (t : Term) → graph_node (made_node.Term t) ≡ []
term_rows t = search (rules, node_lemmas)

pub values_rows : (table : InlineData) → graph_pattern (made_pattern.Values table) ≡ []
values_rows table = search (rules, pattern_lemmas)

-- Patterns that name no blank node: no term that stands in them is one. Blank nodes of a text are
-- hidden variables of its patterns (SPARQL 1.1 Query, 4.1.4), so patterns of texts name none.
use Rattle.std.specs.Prelude.{Bool, true, false, ◌&&◌, List, Option, Some, None}
use Rattle.std.specs.List.{list_all}
use Rattle.qs_terms.specs.declared.term.Term.{Term}
use Rattle.qs_terms.specs.declared.term.Term.TheVariants as term
use Rattle.qs_expr_meaning.specs.declared.expr.Expr.{Expr, fold-Expr}
use Rattle.qs_expr_meaning.specs.declared.expr.Addend.{Addend, fold-Addend}
use Rattle.qs_expr_meaning.specs.declared.expr.Expr.TheOpen.{Expr-F, Addend-F}
use Rattle.qs_algebra_patterns.specs.declared.pattern.Slot.{Slot}
use Rattle.qs_algebra_patterns.specs.declared.pattern.Slot.TheVariants as slot
use Rattle.qs_algebra_patterns.specs.declared.pattern.TriplePattern.{TriplePattern}
use Rattle.qs_algebra_patterns.specs.declared.pattern.PathPattern.{PathPattern}
use Rattle.qs_algebra_patterns.specs.declared.pattern.BasicPattern.{BasicPattern}
use Rattle.qs_algebra_patterns.specs.declared.table.Table.{Table}
use Rattle.qs_algebra_patterns.specs.declared.pattern.Step.{Step, fold-Step}
use Rattle.qs_algebra_patterns.specs.declared.pattern.PatternNode.{PatternNode, fold-PatternNode}
use Rattle.qs_algebra_patterns.specs.declared.pattern.PatternNode.TheOpen.{PatternNode-F, Step-F}
use Rattle.qs_algebra_patterns.specs.declared.pattern.PatternNode.TheOpen.{Basic, Group, Union}
use Rattle.qs_algebra_patterns.specs.declared.pattern.PatternNode.TheOpen.{Graph, EachGraph, Values}
use Rattle.qs_algebra_patterns.specs.declared.pattern.PatternNode.TheOpen.{Join, LeftJoin, Minus}
use Rattle.qs_algebra_patterns.specs.declared.pattern.PatternNode.TheOpen.{Extend}

abbrev pub is_no_blank : Term → Bool
is_no_blank (term.Iri i) = true
is_no_blank (term.Blank n) = false
is_no_blank (term.Literal l) = true

abbrev pub all : List Bool → Bool
all = list_all (λ holds. holds)

-- ---- expressions

abbrev pub expr_level : Expr-F Bool Bool → Bool
expr_level (Expr-F.Variable v) = true
expr_level (Expr-F.Term t) = is_no_blank t
expr_level (Expr-F.Or xs) = all xs
expr_level (Expr-F.And xs) = all xs
expr_level (Expr-F.Compare c a b) = a && b
expr_level (Expr-F.In a xs) = a && all xs
expr_level (Expr-F.NotIn a xs) = a && all xs
expr_level (Expr-F.Sum a xs) = a && all xs
expr_level (Expr-F.Product a xs) = a && all xs
expr_level (Expr-F.Not a) = a
expr_level (Expr-F.Signed s a) = a
expr_level (Expr-F.Bound v) = true
expr_level (Expr-F.If c a b) = c && (a && b)
expr_level (Expr-F.Coalesce xs) = all xs
expr_level (Expr-F.Concat xs) = all xs
expr_level (Expr-F.Unary f a) = a
expr_level (Expr-F.Binary f a b) = a && b

abbrev pub addend_level : Addend-F Bool Bool → Bool
addend_level a = a.operand

-- no term of the expression is a blank node
abbrev pub expr_has_no_blank : Expr → Bool
expr_has_no_blank = fold-Expr Bool Bool expr_level addend_level

abbrev pub addend_has_no_blank : Addend → Bool
addend_has_no_blank = fold-Addend Bool Bool expr_level addend_level

abbrev pub all_have_no_blank : List Expr → Bool
all_have_no_blank = list_all expr_has_no_blank

-- ---- patterns

abbrev pub slot_has_no_blank : Slot → Bool
slot_has_no_blank (slot.Term t) = is_no_blank t
slot_has_no_blank (slot.Variable v) = true

abbrev pub triple_has_no_blank : TriplePattern → Bool
triple_has_no_blank p =
    slot_has_no_blank p.subject && (slot_has_no_blank p.predicate && slot_has_no_blank p.object)

-- (a path names IRIs alone)
abbrev pub path_has_no_blank : PathPattern → Bool
path_has_no_blank p = slot_has_no_blank p.subject && slot_has_no_blank p.object

abbrev pub basic_has_no_blank : BasicPattern → Bool
basic_has_no_blank b = list_all triple_has_no_blank b.triples && list_all path_has_no_blank b.paths

abbrev pub cell_has_no_blank : Option Term → Bool
cell_has_no_blank None = true
cell_has_no_blank (Some t) = is_no_blank t

abbrev pub row_has_no_blank : List (Option Term) → Bool
row_has_no_blank row = list_all cell_has_no_blank row

abbrev pub table_has_no_blank : Table → Bool
table_has_no_blank table = list_all row_has_no_blank table.rows

abbrev pub pattern_level : PatternNode-F Bool Bool → Bool
pattern_level (Basic pattern) = basic_has_no_blank pattern
pattern_level (Group steps conditions) = all steps && all_have_no_blank conditions
pattern_level (Union parts) = all parts
pattern_level (Graph name part) = is_no_blank name && part
pattern_level (EachGraph v part) = part
pattern_level (Values table) = table_has_no_blank table

abbrev pub step_level : Step-F Bool Bool → Bool
step_level (Join part) = part
step_level (LeftJoin part conditions) = part && all_have_no_blank conditions
step_level (Minus part) = part
step_level (Extend v e) = expr_has_no_blank e

-- no term of the pattern is a blank node
abbrev pub has_no_blank : PatternNode → Bool
has_no_blank = fold-PatternNode Bool Bool pattern_level step_level

abbrev pub step_has_no_blank : Step → Bool
step_has_no_blank = fold-Step Bool Bool pattern_level step_level

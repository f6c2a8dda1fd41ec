-- Parts of rows, and how the least place is gathered over them.
use Rattle.std.specs.Prelude.{ℕ, [], ◌++◌, Option, Some, None, min}
use Rattle.std.specs.List.{flat_map}
use Rattle.std.specs.Option.{option_map_or}
use Rattle.qs_syntax_limits.specs.Large.{Rows, Part}
use Rattle.qs_syntax_limits.specs.Large as large
use Rattle.qs_syntax_tree.specs.declared.expression.Addend.{Addend}
use Rattle.qs_syntax_tree.specs.declared.expression.Call.{Call, fold-Call}
use Rattle.qs_syntax_tree.specs.declared.expression.Call.TheOpen.{Operand-F, Addend-F}
use Rattle.qs_syntax_tree.specs.declared.expression.Operand.{Operand}
use Rattle.qs_syntax_tree.specs.declared.path.NegatedPredicate.{NegatedPredicate}
use Rattle.qs_syntax_tree.specs.declared.path.PathOperand.{PathOperand}
use Rattle.qs_syntax_tree.specs.declared.pattern.Element.{Element}
use Rattle.qs_syntax_tree.specs.declared.pattern.GraphPattern.{GraphPattern, fold-GraphPattern}
use Rattle.qs_syntax_tree.specs.declared.pattern.GraphPattern.TheOpen.{Element-F, Group-F}
use Rattle.qs_syntax_tree.specs.declared.pattern.Group.{Group, out-Group}
use Rattle.qs_syntax_tree.specs.declared.triples.TriplesSameSubject.{TriplesSameSubject}
use Rattle.qs_syntax_tree.specs.declared.update.QuadElement.{QuadElement}

-- the lesser of two places, where None is no place
unfoldable pub first : Option ℕ → Option ℕ → Option ℕ
first None b = b
first (Some a) None = Some a
first (Some a) (Some b) = Some (min a b)

-- the lesser of the place found and of that within a tree
abbrev pub further : {A : Type 0} → (A → Rows) → Option ℕ → A → Option ℕ
further rows_of found a = first found (large.excess (rows_of a))

abbrev pub negated : NegatedPredicate → Part
negated member = record { place = member.place; rows = [] }

abbrev pub path_operand : PathOperand → Part
path_operand operand = record { place = operand.place; rows = large.path operand.path }

abbrev pub operand : Operand → Part
operand o = record { place = o.place; rows = large.expression o.expression }

abbrev pub addend : Addend → Part
addend a = operand a.operand

abbrev pub operand_level : Operand-F Rows Rows Part Part → Part
operand_level operand = record { place = operand.place; rows = operand.expression }

abbrev pub addend_level : Addend-F Rows Rows Part Part → Part
addend_level addend = addend.operand

abbrev pub call : Call → Rows
call =
    fold-Call Rows Rows Part Part large.call_level large.expression_level addend_level
    operand_level

abbrev pub same_subject : TriplesSameSubject → Rows
same_subject t = large.graph_node t.subject ++ flat_map large.property t.properties

abbrev pub element_level : Element-F Rows Part Part → Part
element_level e = record { place = e.place; rows = e.pattern }

abbrev pub group_level : Group-F Rows Part Part → Part
group_level g = record { place = g.place; rows = large.side_by_side g.elements }

abbrev pub graph_pattern : GraphPattern → Rows
graph_pattern =
    fold-GraphPattern Rows Part Part large.graph_pattern_level element_level group_level

abbrev pub element : Element → Part
element e = record { place = e.place; rows = graph_pattern e.pattern }

abbrev pub group : Group → Part
group g = record { place = (out-Group g).place; rows = large.group g }

-- of a tree, where one is given
abbrev pub given : {A : Type 0} → (A → Rows) → Option A → Rows
given rows_of o = option_map_or rows_of o []

abbrev pub quad_element : QuadElement → Part
quad_element e = record { place = e.place; rows = large.quads e.quads }

-- The trees that rules make of their parts' trees.
-- Trees are as texts are written, with pieces of the text as spans. They have the places that later
-- faults need: of a group's elements, of the operands of chains, and of names.
use Rattle.std.specs.Prelude.{ℕ, Bool, true, false, List, [], ◌∷◌, Option, Some, None}
use Rattle.qs_syntax_tree.specs.declared.path.Path.{Path}
use Rattle.qs_syntax_tree.specs.declared.path.Path.TheVariants as path
use Rattle.qs_syntax_tree.specs.declared.path.Repetition.{Repetition}
use Rattle.qs_syntax_tree.specs.declared.path.PathOperand.{PathOperand, roll-PathOperand}
use Rattle.qs_syntax_tree.specs.declared.path.Verb.{Verb}
use Rattle.qs_syntax_tree.specs.declared.triples.Property.{Property, roll-Property}
use Rattle.qs_syntax_tree.specs.declared.triples.GraphNode.{GraphNode}
use Rattle.qs_syntax_tree.specs.declared.triples.TriplesSameSubject.{TriplesSameSubject}
use Rattle.qs_syntax_tree.specs.declared.expression.Expression.{Expression}
use Rattle.qs_syntax_tree.specs.declared.expression.Expression.TheVariants as expression
use Rattle.qs_syntax_tree.specs.declared.expression.Relation.{Relation}
use Rattle.qs_syntax_tree.specs.declared.expression.Relation.TheVariants as relation
use Rattle.qs_syntax_tree.specs.declared.expression.Sign.{Sign}
use Rattle.qs_syntax_tree.specs.declared.expression.Operand.{Operand, roll-Operand}
use Rattle.qs_syntax_tree.specs.declared.expression.Addend.{Addend, roll-Addend}
use Rattle.qs_syntax_tree.specs.declared.pattern.Group.{Group, roll-Group}
use Rattle.qs_syntax_tree.specs.declared.pattern.Element.{Element, roll-Element}
use Rattle.qs_syntax_tree.specs.declared.pattern.GraphPattern.{GraphPattern}
use Rattle.qs_syntax_tree.specs.declared.query.PrefixDeclaration.{PrefixDeclaration}
use Rattle.qs_syntax_tree.specs.declared.query.Direction.{Direction}
use Rattle.qs_syntax_tree.specs.declared.query.OrderCondition.{OrderCondition}
use Rattle.qs_syntax_tree.specs.declared.term.Iri.{Iri}
use Rattle.qs_syntax_tree.specs.declared.update.Quads.{Quads}
use Rattle.qs_syntax_tree.specs.declared.update.QuadElement.{QuadElement}
use Rattle.qs_syntax_tree.specs.declared.update.QuadPattern.{QuadPattern}
use Rattle.qs_syntax_tree.specs.declared.update.Operation.{Operation}
use Rattle.qs_syntax_tree.specs.declared.update.Operation.TheVariants as operation
use Rattle.qs_syntax_tree.specs.declared.update.UpdateStep.{UpdateStep}

-- ---- terms, paths and triples

abbrev pub path_operand : ℕ × Path → PathOperand
path_operand x = roll-PathOperand (record { place = x.0; path = x.1 })

-- a chain of one operand is the operand
abbrev pub path_chain : (List PathOperand → Path) → PathOperand × List PathOperand → Path
path_chain f (x, []) = x.path
path_chain f (x, y ∷ ys) = f (x ∷ y ∷ ys)

abbrev pub repeated : Path → Option Repetition → Path
repeated p None = p
repeated p (Some r) = path.Repeated p r

-- `^p*` is the inverse of `p*`
abbrev pub inverted : Bool → Path → Path
inverted false p = p
inverted true p = path.Inverse p

abbrev pub property_of : Verb × List GraphNode → Property
property_of x = roll-Property (record { verb = x.0; objects = x.1 })

abbrev pub subject_of : GraphNode → List Property → TriplesSameSubject
subject_of s ps = record { subject = s; properties = ps }

-- ---- expressions

abbrev pub operand_of : ℕ × Expression → Operand
operand_of x = roll-Operand (record { place = x.0; expression = x.1 })

abbrev pub chain : (List Operand → Expression) → Operand × List Operand → Expression
chain f (x, []) = x.expression
chain f (x, y ∷ ys) = f (x ∷ y ∷ ys)

abbrev pub addend_of : Sign → Operand → Addend
addend_of s x = roll-Addend (record { sign = s; operand = x })

abbrev pub sum : Operand × List Addend → Expression
sum (x, []) = x.expression
sum (x, y ∷ ys) = expression.Sum x (y ∷ ys)

abbrev pub related : Expression → Option Relation → Expression
related x None = x
related x (Some (relation.Compared c y)) = expression.Compare c x y
related x (Some (relation.Among ys)) = expression.In x ys
related x (Some (relation.NotAmong ys)) = expression.NotIn x ys

-- ---- groups

abbrev pub element_of : ℕ × GraphPattern → Element
element_of x = roll-Element (record { place = x.0; pattern = x.1 })

abbrev pub group_of : ℕ × List Element → Group
group_of x = roll-Group (record { place = x.0; elements = x.1 })

-- ---- queries

abbrev pub order_by : Direction → Expression → OrderCondition
order_by d e = record { direction = d; key = e }

-- ---- updates

abbrev pub quads_of : ℕ × Quads → QuadElement
quads_of x = record { place = x.0; quads = x.1 }

abbrev pub modify : Option Iri → Option QuadPattern → Option QuadPattern → Group → Operation
modify w d i g = operation.Modify (record { with = w; delete = d; insert = i; pattern = g })

abbrev pub steps_of : List PrefixDeclaration × Option (Operation × List UpdateStep)
    → List UpdateStep
steps_of (p, None) = record { prologue = p; operation = None } ∷ []
steps_of (p, Some x) = record { prologue = p; operation = Some x.0 } ∷ x.1

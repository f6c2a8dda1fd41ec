-- What the grammar is written over.
use Rattle.std.specs.Prelude.{Bool, List}
use denote.Enum.Bare.{sameb}
use Rattle.qs_syntax_grammar.specs.Rule.{Language}
use Rattle.qs_syntax_grammar.specs.Rule as rule
use Rattle.qs_syntax_tree.specs.contracts.kind.Kind.{the_type}
use Rattle.qs_syntax_tree.specs.declared.kind.Kind.{Kind}
use Rattle.qs_syntax_tree.specs.declared.token.Token.{Token}
use Rattle.qs_syntax_tree.specs.declared.triples.TriplesSameSubject.{TriplesSameSubject}
use Rattle.qs_syntax_tree.specs.declared.triples.Property.{Property}
use Rattle.qs_syntax_tree.specs.declared.triples.Form.{Form}
use Rattle.qs_syntax_tree.specs.declared.path.Path.{Path}
use Rattle.qs_syntax_tree.specs.declared.expression.Expression.{Expression}
use Rattle.qs_syntax_tree.specs.declared.pattern.Group.{Group}
use Rattle.qs_syntax_tree.specs.declared.update.Operation.{Operation}
use Rattle.qs_syntax_tree.specs.declared.update.UpdateStep.{UpdateStep}

-- the rules that can hold themselves
pub data Name : Type 0 where
  group : Name
  triples : Form → Name
  properties : Form → Name
  path : Name
  expression : Name
  operations : Name

abbrev pub Tree : Name → Type 0
Tree group = Group
Tree (triples f) = List TriplesSameSubject
Tree (properties f) = List Property
Tree path = Path
Tree expression = Expression
Tree operations = Operation × List UpdateStep

-- `==` on kinds
unfoldable pub same_kind : Kind → Kind → Bool
same_kind = sameb the_type

abbrev pub sparql : Language
sparql =
    record {
      Token = Token;
      Kind = Kind;
      kind = λ t. t.kind;
      place = λ t. t.span.start;
      same = same_kind;
      Name = Name;
      Tree = Tree;
    }

abbrev pub Rule : Type 0 → Type 1
Rule A = rule.Rule sparql A

-- The rules of the procedures, and what the named ones begin and go on with.
use Rattle.std.specs.Prelude.{◌≡◌, List, [], ◌∷◌, ◌++◌}
use Rattle.qs_syntax_grammar.specs.Grammar.{Spells}
use Rattle.qs_syntax_grammar.specs.inner.Grammar.{Guided}
use Rattle.qs_syntax_tree.specs.declared.kind.Kind.{Kind}
use Rattle.qs_syntax_tree.specs.declared.kind.Kind.TheVariants as k
use Rattle.qs_syntax_tree.specs.declared.token.Token.{Token}
use Rattle.qs_syntax_tree.specs.declared.triples.Form.{Form}
use Rattle.qs_syntax_tree.specs.declared.triples.Form.TheVariants as form
use Rattle.qs_syntax_tree.specs.Sparql.{Name, Tree, group, triples, properties, path, expression}
use Rattle.qs_syntax_tree.specs.Sparql.{operations, Rule, sparql}
use Rattle.qs_syntax_tree.specs.Table.{grammar}
use Rattle.qs_syntax_tree.specs.inner.Procedures.{group_rule, triples_rule, properties_rule}
use Rattle.qs_syntax_tree.specs.inner.Procedures.{path_rule, expression_rule, operations_rule}

-- the rules of `grammar`, cut into those of the procedures
unfoldable pub rule : (n : Name) → Rule (Tree n)
rule group = group_rule
rule (triples f) = triples_rule f
rule (properties f) = properties_rule f
rule path = path_rule
rule expression = expression_rule
rule operations = operations_rule

abbrev pub iris : List Kind
iris = k.IriRef ∷ k.PnameLn ∷ k.PnameNs ∷ []

abbrev pub literals : List Kind
literals = k.String ∷ k.Integer ∷ k.Signed ∷ k.True ∷ k.False ∷ []

abbrev pub annotations : List Kind
annotations = k.LangTag ∷ k.CaretCaret ∷ []

abbrev pub calls : List Kind
calls = k.Bound ∷ k.If ∷ k.Coalesce ∷ k.Concat ∷ k.IsIri ∷ k.IsUri ∷ k.IsBlank ∷ k.IsLiteral
    ∷ k.IsNumeric ∷ k.Str ∷ k.Lang ∷ k.Datatype ∷ k.StrLen ∷ k.SameTerm ∷ k.LangMatches ∷ k.Contains
    ∷ k.StrStarts ∷ k.StrEnds ∷ []

abbrev pub paths : List Kind
paths = k.Caret ∷ iris ++ k.A ∷ k.Bang ∷ k.LeftParen ∷ []

abbrev pub verbs : Form → List Kind
verbs form.Pattern = k.Var ∷ paths
verbs form.Template = k.Var ∷ iris ++ k.A ∷ []

abbrev pub nodes : List Kind
nodes = k.Var ∷ k.BlankLabel ∷ k.LeftBracket ∷ iris ++ literals

abbrev pub changes : List Kind
changes = k.Insert ∷ k.Delete ∷ k.With ∷ k.Clear ∷ k.Drop ∷ k.Create ∷ k.Add ∷ k.Move ∷ k.Copy ∷ []

-- what each named rule begins with
abbrev pub firsts : Name → List Kind
firsts group = k.LeftBrace ∷ []
firsts (triples f) = nodes
firsts (properties f) = verbs f
firsts path = paths
firsts expression = k.Var ∷ k.LeftParen ∷ k.Bang ∷ k.Plus ∷ k.Hyphen ∷ iris ++ literals ++ calls
firsts operations = changes

-- what may go on with it
abbrev pub mores : Name → List Kind
mores group = []
mores (triples f) = k.Dot ∷ k.Semicolon ∷ k.Comma ∷ annotations ++ verbs f ++ nodes
mores (properties f) = k.Semicolon ∷ k.Comma ∷ annotations ++ verbs f
mores path = k.Bar ∷ k.Slash ∷ k.Question ∷ k.Star ∷ k.Plus ∷ []
mores expression =
    k.OrOr ∷ k.AndAnd ∷ k.Equal ∷ k.BangEqual ∷ k.Less ∷ k.Greater ∷ k.LessOrEqual
    ∷ k.GreaterOrEqual ∷ k.Not ∷ k.In ∷ k.Plus ∷ k.Hyphen ∷ k.Signed ∷ k.Star ∷ annotations
mores operations = k.Semicolon ∷ k.Prefix ∷ changes

abbrev pub guided : Guided sparql
guided = record { rule = rule; firsts = firsts; mores = mores }

-- no tokens spell two trees
abbrev pub IsUnambiguous : {A : Type 0} → Rule A → Type 0
IsUnambiguous {A} start = (tokens : List Token) (x y : A) → Spells grammar start tokens x
    → Spells grammar start tokens y → x ≡ y

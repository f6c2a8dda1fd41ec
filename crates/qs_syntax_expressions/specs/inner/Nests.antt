-- A function value that reads expressions, with a parser.
use Rattle.std.specs.Prelude.{List, Result}
use denote.Ref.{MutBor}
use Rattle.qs_syntax_tokens.specs.declared.parser.Parser.{Parser}
use Rattle.qs_syntax_grammar.specs.declared.fault.Fault.{Fault}
use Rattle.qs_syntax_grammar.specs.inner.Reading.{Reads}
use Rattle.qs_syntax_grammar.specs.inner.Grammar.{read}
use Rattle.qs_syntax_tree.specs.declared.token.Token.{Token}
use Rattle.qs_syntax_tree.specs.declared.expression.Expression.{Expression}
use Rattle.qs_syntax_tree.specs.Rules as rules
use Rattle.qs_syntax_tree.specs.inner.Table.{guided}

pub record Nests (parser : Parser) (pre : Parser → MutBor (List Token) → Type 0)
    (post : Parser → MutBor (List Token) → Result Expression Fault → MutBor (List Token)
    → Type 0) : Type 0 where
  pub callable : (old : MutBor (List Token)) → pre parser old
  pub reads : (old new : MutBor (List Token)) (r : Result Expression Fault) → post parser old r new
      → Reads (read guided parser.depth rules.expression old.now) r new.now

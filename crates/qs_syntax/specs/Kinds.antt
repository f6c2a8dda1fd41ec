-- The tokens of the grammar, from the tokens of the text (SPARQL 1.1 Query, 19.8).
use Rattle.std.specs.Prelude.{ℕ, ◌+◌, List, length}
use Rattle.qs_lex.specs.declared.token.Class.{Class}
use Rattle.qs_lex.specs.declared.token.Class.TheVariants as class
use Rattle.qs_lex.specs.Lexes.{Lexeme}
use Rattle.qs_syntax_tree.specs.declared.kind.Kind.{Kind}
use Rattle.qs_syntax_tree.specs.declared.kind.Kind.TheVariants as k
use Rattle.qs_syntax_tree.specs.declared.token.Token.{Token}
use Rattle.qs_syntax_tree.specs.Words.{word_kind, mark_kind}

-- a class of tokens is a kind; words and marks are told apart
abbrev pub kind_of : Class → List ℕ → Kind
kind_of class.IriRef text = k.IriRef
kind_of class.PnameNs text = k.PnameNs
kind_of class.PnameLn text = k.PnameLn
kind_of class.BlankLabel text = k.BlankLabel
kind_of class.Var text = k.Var
kind_of class.Integer text = k.Integer
kind_of class.Signed text = k.Signed
kind_of class.Decimal text = k.Decimal
kind_of class.Double text = k.Double
kind_of class.String text = k.String
kind_of class.LangTag text = k.LangTag
kind_of class.Word text = word_kind text
kind_of class.Mark text = mark_kind text

-- its kind, with where it stands in the text
abbrev pub token_of : Lexeme → Token
token_of t = record {
  kind = kind_of t.class t.text;
  span = record { start = t.place; end = t.place + length t.text };
}

-- No tokens spell two trees.
use Rattle.std.proofs.Common.{◌≡◌, true, List, length, Ok, arith}
use Rattle.qs_syntax_grammar.specs.Grammar.{Spells}
use Rattle.qs_syntax_grammar.specs.inner.Grammar.{is_start, read, whole}
use Rattle.qs_syntax_grammar.proofs.Whole.{only_spelt, ok_same}
use Rattle.qs_syntax_tree.specs.declared.token.Token.{Token}
use Rattle.qs_syntax_tree.specs.Sparql.{Rule, sparql}
use Rattle.qs_syntax_tree.specs.Rules.{query, update}
use Rattle.qs_syntax_tree.specs.inner.Procedures as procedures
use Rattle.qs_syntax_tree.specs.inner.Table.{IsUnambiguous, guided, rule}
use Rattle.qs_syntax_tree.proofs.SameRules.{grammar_same, query_same, update_same}
use Rattle.qs_syntax_tree.proofs.Sure.{lawful, passes_each, examples, query_starts, update_starts}

module _ {A : Type 0} (start : Rule A) (begin : is_start guided start ≡ true) where
  is_read : (tokens : List Token) (x : A) → Spells rule start tokens x → whole (read guided (length tokens) start tokens) ≡ Ok x
  is_read tokens x h = only_spelt sparql lawful guided passes_each 2 examples A start begin (length tokens) tokens x (omega arith) h

  one_tree_of : (tokens : List Token) (x y : A) → Spells rule start tokens x → Spells rule start tokens y → x ≡ y
  one_tree_of tokens x y h k = ok_same (whole (read guided (length tokens) start tokens)) x y (is_read tokens x h) (is_read tokens y k)

pub one_query : IsUnambiguous query
one_query = rw (grammar_same, query_same) (one_tree_of procedures.query query_starts)

pub one_update : IsUnambiguous update
one_update = rw (grammar_same, update_same) (one_tree_of procedures.update update_starts)
